use Rattle.auth_machine.proofs.ListLemmas.{shows_least, shows_none}
use Rattle.auth_machine.proofs.laws.the_least_is_listed.Goals as goal

pub returns-clause-least : goal.returns-clause-least
returns-clause-least c = shows_least

pub returns-clause-none : goal.returns-clause-none
returns-clause-none c = shows_none
