use Rattle.tn_gate.proofs.DueLawLemmas.{held_dialed}
use Rattle.tn_gate.proofs.LawLemmas.{held_cleared}
use Rattle.tn_gate.proofs.laws.each_dial_is_cleared.Goals as goal

pub returns-clause-dials : goal.returns-clause-dials
returns-clause-dials g c = λ gate old new ending held. held_cleared gate old new ending held

pub returns-clause-lines : goal.returns-clause-lines
returns-clause-lines g c = λ gate old new ending held. held_dialed gate old new ending held
