use Rattle.smap_gate.proofs.MessageLemmas.{keeps_messages}
use Rattle.smap_gate.proofs.laws.the_kept_messages_are_put.Goals as goal

pub returns : goal.returns
returns g c = λ gate old new ending held. keeps_messages gate old new ending held
