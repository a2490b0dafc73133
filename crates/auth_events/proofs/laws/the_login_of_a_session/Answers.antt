use Rattle.auth_events.proofs.LoginLemmas.{by_its_own, by_others}
use Rattle.auth_events.proofs.laws.the_login_of_a_session.Goals as goal

pub returns-clause-own : goal.returns-clause-own
returns-clause-own c = λ sid history entry is. by_its_own sid history entry is

pub returns-clause-others : goal.returns-clause-others
returns-clause-others c = λ sid history entry other. by_others sid history entry other
