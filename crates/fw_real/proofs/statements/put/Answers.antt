use Rattle.fw_real.proofs.statements.put.Goals as goal

pub returns : goal.returns
returns g c = rw c.text.ensures.text at c.run.ensures.runs
