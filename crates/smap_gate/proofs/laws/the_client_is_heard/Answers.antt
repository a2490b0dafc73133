use Rattle.smap_gate.specs.Dialogue.{smap_row, smap_rows}
use Rattle.smap_gate.proofs.laws.the_client_is_heard.Goals as goal

pub returns : goal.returns
returns g c = λ gate old new ending held none. c.the_client_is_heard.ensures (smap_rows gate) smap_row old new ending held none
