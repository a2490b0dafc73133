use Rattle.std.proofs.Common.{refl}
use Rattle.fw_acts.proofs.RanLemmas.{ran_here}
use Rattle.session_acts.proofs.Acting.{did, halted}
use Rattle.plug_gate.proofs.script.PlugScriptScript.begin.Goals as goal

pub returns-in_err-log-clause-ran : goal.returns-in_err-log-clause-ran
returns-in_err-log-clause-ran g c = halted c.in_err-log.ensures c.from_residual.ensures.1

pub returns-in_err-reach-clause-ran : goal.returns-in_err-reach-clause-ran
returns-in_err-reach-clause-ran g c = did c.in_ok-log.ensures (halted c.in_err-reach.ensures c.from_residual-in_err-reach.ensures.1)

pub returns-clause-ran : goal.returns-clause-ran
returns-clause-ran g c = did c.in_ok-log.ensures (did c.in_ok-reach.ensures (ran_here (refl, refl)))
