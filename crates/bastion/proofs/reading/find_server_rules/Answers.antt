use Rattle.bastion.specs.Reading.{server_rules_of}
use Rattle.bastion.proofs.ReadingLemmas.{finds_by_fault, finds_by_lines}
use Rattle.bastion.proofs.reading.find_server_rules.Goals as goal

pub returns-in-Ok : goal.returns-in-Ok
returns-in-Ok g c = finds_by_lines (server_rules_of c.args.service.now) c.args.name.now c.in-Ok.table c.read_both.result _ _ c.in-Ok.ensures c.read_both.ensures

pub returns-in-Err : goal.returns-in-Err
returns-in-Err g c = finds_by_fault (server_rules_of c.args.service.now) c.args.name.now c.in-Err.outcome _ _ c.in-Err.ensures
