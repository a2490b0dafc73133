use Rattle.ftp_gate.proofs.CourseLemmas.{held_once}
use Rattle.ftp_gate.proofs.laws.a_session_is_opened_once.Goals as goal

pub returns : goal.returns
returns g c = λ gate old new ending held none. held_once gate old new ending held none
