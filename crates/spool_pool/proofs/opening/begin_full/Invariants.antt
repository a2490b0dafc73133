use Rattle.std.proofs.Common.{◌≡◌, length}
use Rattle.spool_pool.proofs.Begins.{Beginning}
use Rattle.spool_pool.proofs.opening.begin_full.Given as goal

abbrev pub invariant-loop-slot : goal.invariant-loop-slot
invariant-loop-slot g l = Beginning l.fn.slots.full l.fn.pass l.slots.full l.pass × (l.slots ≡ record (l.fn.slots) { full = l.slots.full })

abbrev pub decreases-loop-slot : goal.decreases-loop-slot
decreases-loop-slot g l = length l.slots.full
