use Rattle.ftp_gate.proofs.EndLemmas.{held_ended, held_there}
use Rattle.ftp_gate.proofs.laws.the_dialogue_ends.Goals as goal

pub returns-clause-there : goal.returns-clause-there
returns-clause-there g c = λ gate old new ending held. held_there gate old new ending held

pub returns-clause-ended : goal.returns-clause-ended
returns-clause-ended g c = λ gate old new ending held done. held_ended gate old new ending held done
