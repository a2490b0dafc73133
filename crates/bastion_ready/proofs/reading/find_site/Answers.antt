use Rattle.bastion.proofs.ReadingLemmas.{finds_by_fault, finds_by_lines}
use Rattle.bastion_ready.specs.Inputs.{site_rules_of}
use Rattle.bastion_ready.proofs.SiteLemmas.{said_by}
use Rattle.bastion_ready.proofs.reading.find_site.Goals as goal

pub returns-in-Ok-clause-found : goal.returns-in-Ok-clause-found
returns-in-Ok-clause-found g c = finds_by_lines (site_rules_of c.args.services.now) c.args.name.now c.in-Ok.table c.read_both.result _ _ c.in-Ok.ensures c.read_both.ensures

pub returns-in-Ok-clause-said : goal.returns-in-Ok-clause-said
returns-in-Ok-clause-said g c = said_by c.args.services.now c.in-Ok.table c.read_both.result c.read_both.ensures

pub returns-in-Err-clause-found : goal.returns-in-Err-clause-found
returns-in-Err-clause-found g c = finds_by_fault (site_rules_of c.args.services.now) c.args.name.now c.in-Err.outcome _ _ c.in-Err.ensures
