use Rattle.smap_gate.proofs.ReplyLemmas.{told_in_order}
use Rattle.smap_gate.proofs.laws.each_reply_is_told.Goals as goal

pub returns : goal.returns
returns g c = λ gate old new ending held. told_in_order gate old new ending held
