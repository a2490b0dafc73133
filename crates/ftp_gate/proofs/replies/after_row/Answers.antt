use Rattle.std.proofs.Common.{refl}
use Rattle.fw_acts.proofs.RanLemmas.{ran_here}
use Rattle.ftp_gate.proofs.replies.after_row.Goals as goal

pub returns-then-quits-clause-ran : goal.returns-then-quits-clause-ran
returns-then-quits-clause-ran g c = rw c.if-quits.true (ran_here (refl, refl))

pub returns-clause-ran : goal.returns-clause-ran
returns-clause-ran g c = rw c.if-quits.false (ran_here (refl, refl))
