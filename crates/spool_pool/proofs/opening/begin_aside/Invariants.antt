use Rattle.std.proofs.Common.{◌≡◌, map, length}
use Rattle.spool_pool.specs.Shelf.{is_aside}
use Rattle.spool_pool.proofs.Begins.{Beginning}
use Rattle.spool_pool.proofs.opening.begin_aside.Given as goal

abbrev pub invariant-loop-slot : goal.invariant-loop-slot
invariant-loop-slot g l = Beginning (map is_aside l.fn.slots.aside) l.fn.pass (map is_aside l.slots.aside) l.pass × (l.slots ≡ record (l.fn.slots) { aside = l.slots.aside })

abbrev pub decreases-loop-slot : goal.decreases-loop-slot
decreases-loop-slot g l = length l.slots.aside
