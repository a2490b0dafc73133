use Rattle.auth_machine.proofs.OwnLemmas.{entries_say}
use Rattle.auth_machine.proofs.laws.entries_say_if_kept.Goals as goal

pub returns : goal.returns
returns c = entries_say
