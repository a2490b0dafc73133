use Rattle.session_acts.proofs.Acting.{did}
use Rattle.fw_acts.proofs.RanLemmas.{ran_here}
use Rattle.std.proofs.Common.{refl}
use Rattle.ftp_gate.proofs.greeting.unwelcome_row.Goals as goal

pub returns : goal.returns
returns g c = did c.hang_up.ensures (ran_here (refl, refl))
