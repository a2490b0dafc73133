use Rattle.tn_gate.proofs.LawLemmas.{held_asks}
use Rattle.tn_gate.proofs.OwnLemmas.{held_lines}
use Rattle.tn_gate.proofs.laws.the_destinations_are_those_asked_for.Goals as goal

pub returns-clause-asks : goal.returns-clause-asks
returns-clause-asks g c = λ gate old new ending held. held_asks gate old new ending held

pub returns-clause-lines : goal.returns-clause-lines
returns-clause-lines g c = λ gate old new ending held. held_lines gate old new ending held
