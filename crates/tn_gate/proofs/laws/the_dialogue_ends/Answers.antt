use Rattle.tn_gate.proofs.AskingLawLemmas.{held_ended, held_ends}
use Rattle.tn_gate.proofs.laws.the_dialogue_ends.Goals as goal

pub returns-clause-there : goal.returns-clause-there
returns-clause-there g c = λ gate old new ending held. held_ends gate old new ending held

pub returns-clause-ended : goal.returns-clause-ended
returns-clause-ended g c = λ gate old new ending held last. held_ended gate old new ending held last
