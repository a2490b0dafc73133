use Rattle.std.proofs.Common.{sym}
use Rattle.spool_slots.proofs.FillingLemmas.{stays_free}
use Rattle.spool_slots.proofs.EventLemmas.{runs_same}
use Rattle.spool_slots.proofs.free.Free.start.Goals as goal

pub returns-in-Err-clause-images : goal.returns-in-Err-clause-images
returns-in-Err-clause-images g c =
    stays_free c.args.self c.of.result (record { number = c.self.inside.number; disk = g.D.Disk.disk_view c.self.inside.disk }) (sym c.self.view_is) c.of.ensures c.self.invariant

pub returns-in-Err-clause-events : goal.returns-in-Err-clause-events
returns-in-Err-clause-events g c = λ k.
    runs_same k c.args.self c.of.result (record { number = c.self.inside.number; disk = g.D.Disk.disk_view c.self.inside.disk }) (sym c.self.view_is) c.of.ensures
