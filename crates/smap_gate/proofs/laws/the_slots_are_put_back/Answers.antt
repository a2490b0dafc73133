use Rattle.smap_gate.specs.Dialogue.{smap_row, smap_rows}
use Rattle.smap_gate.proofs.laws.the_slots_are_put_back.Goals as goal

pub returns : goal.returns
returns g c = λ gate old new ending held. c.the_slots_are_put_back.ensures (smap_rows gate) smap_row old new ending held
