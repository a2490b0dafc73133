use Rattle.tn_gate.proofs.AskingLawLemmas.{held_due_asked}
use Rattle.tn_gate.proofs.laws.each_request_is_due.Goals as goal

pub returns : goal.returns
returns g c = λ gate old new ending held. held_due_asked gate old new ending held
