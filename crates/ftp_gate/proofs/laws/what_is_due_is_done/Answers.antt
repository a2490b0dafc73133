use Rattle.ftp_gate.proofs.DueLemmas.{held_due}
use Rattle.ftp_gate.proofs.laws.what_is_due_is_done.Goals as goal

pub returns : goal.returns
returns g c = λ gate old new ending held. held_due gate old new ending held
