use Rattle.std.proofs.Common.{◌≡◌, map, length}
use Rattle.spool_pool.specs.Shelf.{is_broken}
use Rattle.spool_pool.proofs.Begins.{Beginning}
use Rattle.spool_pool.proofs.opening.begin_broken.Given as goal

abbrev pub invariant-loop-slot : goal.invariant-loop-slot
invariant-loop-slot g l = Beginning (map is_broken l.fn.slots.broken) l.fn.pass (map is_broken l.slots.broken) l.pass × (l.slots ≡ record (l.fn.slots) { broken = l.slots.broken })

abbrev pub decreases-loop-slot : goal.decreases-loop-slot
decreases-loop-slot g l = length l.slots.broken
