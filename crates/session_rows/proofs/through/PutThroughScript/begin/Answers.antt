use Rattle.std.proofs.Common.{refl}
use Rattle.fw_acts.proofs.RanLemmas.{ran_here}
use Rattle.session_acts.proofs.Acting.{did, halted}
use Rattle.session_rows.proofs.through.PutThroughScript.begin.Goals as goal

pub returns-in_err-reach-clause-ran : goal.returns-in_err-reach-clause-ran
returns-in_err-reach-clause-ran g c = halted c.in_err-reach.ensures c.from_residual.ensures.1

pub returns-clause-ran : goal.returns-clause-ran
returns-clause-ran g c = did c.in_ok-reach.ensures (ran_here (refl, refl))
