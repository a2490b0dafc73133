use Rattle.authsrv_gate.proofs.TellingLemmas.{told_in_order}
use Rattle.authsrv_gate.proofs.laws.each_reply_is_told.Goals as goal

pub returns : goal.returns
returns g c = λ console old new ending held. told_in_order console old new ending held
