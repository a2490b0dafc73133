use Rattle.spool_slots.proofs.KeptLemmas.{found_kept}
use Rattle.spool_slots.proofs.opening.find_kept.Goals as goal

pub returns-in-Ok-clause-found : goal.returns-in-Ok-clause-found
returns-in-Ok-clause-found g c = found_kept c.args.head.now c.args.place c.in-Ok.end c.found_of.result (g.D.Disk.disk_view c.args.disk.now).told c.found_of.ensures c.requires.head c.in-Ok.ensures.ok
