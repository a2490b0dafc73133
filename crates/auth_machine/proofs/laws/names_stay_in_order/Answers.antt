use Rattle.auth_machine.proofs.OrderLemmas.{after_ascends}
use Rattle.auth_machine.proofs.laws.names_stay_in_order.Goals as goal

pub returns : goal.returns
returns c = after_ascends
