use Rattle.std.proofs.Common.{◌≤◌, length}
use Rattle.spool_law.specs.Events.{IsBegun}
use Rattle.spool_law.specs.Runs.{Known, Runs}
use Rattle.spool_slots.proofs.FillingLemmas.{HasAddedFront}
use Rattle.spool_slots.proofs.adding.add_all.Given as goal

abbrev pub invariant-loop-rest : goal.invariant-loop-rest
invariant-loop-rest g l = record {
  few : length l.pen.held ≤ 8191;
  runs : (k : Known) → IsBegun k.use_of → Runs k (g.D.Disk.disk_view l.initial.disk) k (g.D.Disk.disk_view l.disk);
  added : HasAddedFront l.piece l.rest l.initial.pen (g.D.Disk.disk_view l.initial.disk) l.pen (g.D.Disk.disk_view l.disk);
}

abbrev pub decreases-loop-rest : goal.decreases-loop-rest
decreases-loop-rest g l = length l.rest
