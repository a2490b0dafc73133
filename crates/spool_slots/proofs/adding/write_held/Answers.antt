use Rattle.spool_slots.proofs.FillingLemmas.{has_written}
use Rattle.spool_slots.proofs.adding.write_held.Goals as goal

pub returns-clause-ok : goal.returns-clause-ok
returns-clause-ok g c =
    has_written c.at.result c.held.result.now c.args.pen.now c.move_on.new.self (g.D.Disk.disk_view c.args.disk.now) (g.D.Disk.disk_view c.fill.new.disk) c.at.ensures.at c.held.ensures.held c.in_ok-fill.ensures.ok c.move_on.ensures c.requires c.fill.ensures.moments
