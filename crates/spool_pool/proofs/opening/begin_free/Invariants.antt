use Rattle.std.proofs.Common.{◌≡◌, length}
use Rattle.spool_pool.proofs.Begins.{Beginning}
use Rattle.spool_pool.proofs.opening.begin_free.Given as goal

abbrev pub invariant-loop-slot : goal.invariant-loop-slot
invariant-loop-slot g l = Beginning l.fn.slots.free l.fn.pass l.slots.free l.pass × (l.slots ≡ record (l.fn.slots) { free = l.slots.free })

abbrev pub decreases-loop-slot : goal.decreases-loop-slot
decreases-loop-slot g l = length l.slots.free
