use Rattle.bastion.proofs.reading.read_rules.Goals as goal

pub returns-in-Ok-clause-ruled : goal.returns-in-Ok-clause-ruled
returns-in-Ok-clause-ruled c = record { lines = c.args.table.now; read = c.in-Ok.ensures.ok }
