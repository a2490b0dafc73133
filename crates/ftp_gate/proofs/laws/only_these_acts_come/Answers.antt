use Rattle.ftp_gate.proofs.LawLemmas.{held_right}
use Rattle.ftp_gate.proofs.laws.only_these_acts_come.Goals as goal

pub returns : goal.returns
returns g c = λ gate old new ending held. held_right gate old new ending held
