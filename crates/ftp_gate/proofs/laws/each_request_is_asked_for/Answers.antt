use Rattle.ftp_gate.proofs.LawLemmas.{held_asked}
use Rattle.ftp_gate.proofs.laws.each_request_is_asked_for.Goals as goal

pub returns : goal.returns
returns g c = λ gate old new ending held. held_asked gate old new ending held
