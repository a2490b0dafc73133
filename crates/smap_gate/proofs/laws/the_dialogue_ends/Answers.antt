use Rattle.smap_gate.proofs.LastHeardLemmas.{ends_there, has_end}
use Rattle.smap_gate.proofs.laws.the_dialogue_ends.Goals as goal

pub returns-clause-there : goal.returns-clause-there
returns-clause-there g c = λ gate old new ending held. ends_there gate old new ending held

pub returns-clause-ended : goal.returns-clause-ended
returns-clause-ended g c = λ gate old new ending held is. has_end gate old new ending held is
