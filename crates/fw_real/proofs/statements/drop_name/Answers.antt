use Rattle.fw_real.proofs.statements.drop_name.Goals as goal

pub returns : goal.returns
returns g c = rw c.text.ensures.text at c.run.ensures.runs
