use Rattle.std.proofs.Common.{length}
use Rattle.spool_rack.proofs.OpeningLemmas.{IsBack}
use Rattle.spool_rack.proofs.opening.give_back.Given as goal

abbrev pub invariant-loop-slot : goal.invariant-loop-slot
invariant-loop-slot g l = IsBack g.row.D.Denot g.D.Disk.disk_view l.fn.found l.found l.fn.rest l.rest

abbrev pub decreases-loop-slot : goal.decreases-loop-slot
decreases-loop-slot g l = length l.found.items
