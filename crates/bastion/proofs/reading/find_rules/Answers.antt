use Rattle.gate_rules.specs.Reading.{rules_of}
use Rattle.bastion.proofs.ReadingLemmas.{finds_by_fault, finds_by_lines}
use Rattle.bastion.proofs.reading.find_rules.Goals as goal

pub returns-in-Ok-clause-found : goal.returns-in-Ok-clause-found
returns-in-Ok-clause-found g c = finds_by_lines (rules_of c.args.service.now) c.args.name.now c.in-Ok.table c.read_rules.result _ _ c.in-Ok.ensures c.read_rules.ensures.lines

pub returns-in-Err-clause-found : goal.returns-in-Err-clause-found
returns-in-Err-clause-found g c = finds_by_fault (rules_of c.args.service.now) c.args.name.now c.in-Err.outcome _ _ c.in-Err.ensures
