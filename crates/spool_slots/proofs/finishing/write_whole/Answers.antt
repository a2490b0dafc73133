use Rattle.spool_slots.proofs.FinishingLemmas.{opened_gate}
use Rattle.spool_slots.proofs.EventLemmas.{runs_gate}
use Rattle.spool_slots.proofs.finishing.write_whole.Goals as goal

pub returns-clause-gate : goal.returns-clause-gate
returns-clause-gate g c = opened_gate c.set_byte.result (g.D.Disk.disk_view c.close_over.new.disk) (g.D.Disk.disk_view c.set_byte.new.disk) c.set_byte.ensures.ok

pub returns-clause-runs : goal.returns-clause-runs
returns-clause-runs g c = λ k l e d.
    runs_gate c.set_byte.result k l (g.D.Disk.disk_view c.args.disk.now) (g.D.Disk.disk_view c.close_over.new.disk) (g.D.Disk.disk_view c.set_byte.new.disk) e c.in_ok-close_over.ensures.runs (c.in_ok-close_over.ensures.stands l.mail d) c.set_byte.ensures.ok c.set_byte.ensures.fails
