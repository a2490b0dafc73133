use Rattle.std.proofs.Common.{arith}
use Rattle.fw_real.proofs.statements.run.Goals as goal

pub returns-in-Ok-clause-clean : goal.returns-in-Ok-clause-clean
returns-in-Ok-clause-clean g c clean = omega (arith, c.execute.ensures.survives.clean)

pub returns-in-Err-clause-clean : goal.returns-in-Err-clause-clean
returns-in-Err-clause-clean g c clean = omega (arith, c.execute.ensures.survives.clean)
