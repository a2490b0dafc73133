use Rattle.std.proofs.Common.{length}
use Rattle.spool_rack.proofs.ShelfLemmas.{IsShelving}
use Rattle.spool_rack.proofs.shelving.shelve.Given as goal

abbrev pub invariant-loop-slot : goal.invariant-loop-slot
invariant-loop-slot g l = IsShelving g.row.D.Denot l.fn.found.items l.found.items l.fn.shelves l.shelves

abbrev pub decreases-loop-slot : goal.decreases-loop-slot
decreases-loop-slot g l = length l.found.items
