use Rattle.std.proofs.Common.{refl}
use Rattle.fw_acts.proofs.RanLemmas.{ran_here}
use Rattle.session_acts.proofs.Acting.{did}
use Rattle.ftp_gate.proofs.passing.give_row.Goals as goal

pub returns : goal.returns
returns g c = did c.in_ok-pass.ensures (ran_here (refl, refl))
