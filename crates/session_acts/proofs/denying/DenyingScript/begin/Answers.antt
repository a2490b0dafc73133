use Rattle.std.proofs.Common.{refl}
use Rattle.fw_acts.proofs.RanLemmas.{ran_here}
use Rattle.session_acts.proofs.Acting.{did, halted}
use Rattle.session_acts.proofs.denying.DenyingScript.begin.Goals as goal

pub returns-in_err-log-clause-ran : goal.returns-in_err-log-clause-ran
returns-in_err-log-clause-ran g c = halted c.in_err-log.ensures c.from_residual.ensures.1

pub returns-clause-ran : goal.returns-clause-ran
returns-clause-ran g c = did c.in_ok-log.ensures (did c.attempt.ensures.met (ran_here (refl, refl)))
