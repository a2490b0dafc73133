use Rattle.std.proofs.Common.{length, map}
use Rattle.spool_rack.proofs.OpeningLemmas.{IsSoFar}
use Rattle.spool_rack.proofs.opening.open_all.Given as goal

abbrev pub invariant-loop-disk : goal.invariant-loop-disk
invariant-loop-disk g l = IsSoFar g.row.D.Denot g.D.Disk.disk_view (map g.D.Disk.disk_view l.fn.disks.items) l.number l.found l.rest

abbrev pub decreases-loop-disk : goal.decreases-loop-disk
decreases-loop-disk g l = length l.rest.items
