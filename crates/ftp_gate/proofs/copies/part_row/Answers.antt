use Rattle.session_acts.proofs.Acting.{did}
use Rattle.fw_acts.proofs.RanLemmas.{ran_here}
use Rattle.std.proofs.Common.{refl}
use Rattle.ftp_gate.proofs.copies.part_row.Goals as goal

pub returns : goal.returns
returns g c = did c.part.ensures (ran_here (refl, refl))
