use Rattle.std.proofs.Common.{refl}
use Rattle.fw_acts.proofs.RanLemmas.{ran_here}
use Rattle.session_acts.proofs.Acting.{did}
use Rattle.authsrv_gate.proofs.rows.end_row.Goals as goal

pub returns-clause-ran : goal.returns-clause-ran
returns-clause-ran g c = did c.in_ok-ask.ensures (ran_here (refl, refl))
