use Rattle.ftp_gate.proofs.LawLemmas.{held_cleared}
use Rattle.ftp_gate.proofs.laws.each_dial_is_cleared.Goals as goal

pub returns : goal.returns
returns g c = λ gate old new ending held. held_cleared gate old new ending held
