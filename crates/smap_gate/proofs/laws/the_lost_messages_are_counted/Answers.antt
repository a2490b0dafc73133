use Rattle.smap_gate.specs.Dialogue.{smap_row, smap_rows}
use Rattle.smap_gate.proofs.laws.the_lost_messages_are_counted.Goals as goal

pub returns-clause-unslotted : goal.returns-clause-unslotted
returns-clause-unslotted g c = λ gate old new ending held. c.the_lost_messages_are_counted.ensures.unslotted (smap_rows gate) smap_row old new ending held

pub returns-clause-faulted : goal.returns-clause-faulted
returns-clause-faulted g c = λ gate old new ending held. c.the_lost_messages_are_counted.ensures.faulted (smap_rows gate) smap_row old new ending held
