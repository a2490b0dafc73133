use Rattle.session_acts.proofs.FullPortLemmas.{held_refuses}
use Rattle.session_acts.proofs.laws.a_full_port_refuses.Goals as goal

pub returns : goal.returns
returns g c = held_refuses
