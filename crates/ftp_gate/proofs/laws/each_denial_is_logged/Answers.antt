use Rattle.ftp_gate.proofs.LawLemmas.{held_logged}
use Rattle.ftp_gate.proofs.laws.each_denial_is_logged.Goals as goal

pub returns : goal.returns
returns g c = λ gate old new ending held. held_logged gate old new ending held
