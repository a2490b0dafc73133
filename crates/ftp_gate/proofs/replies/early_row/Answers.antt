use Rattle.std.proofs.Common.{refl}
use Rattle.fw_acts.proofs.RanLemmas.{ran_here}
use Rattle.session_acts.proofs.Acting.{did}
use Rattle.ftp_gate.proofs.replies.early_row.Goals as goal

pub returns-in-Ok-clause-ran : goal.returns-in-Ok-clause-ran
returns-in-Ok-clause-ran g c = did c.in-Ok.ensures (ran_here (refl, refl))

pub returns-in-Err-clause-ran : goal.returns-in-Err-clause-ran
returns-in-Err-clause-ran g c = ran_here c.in-Err.ensures
