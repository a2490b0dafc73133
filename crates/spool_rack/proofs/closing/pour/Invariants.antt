use Rattle.std.proofs.Common.{length}
use Rattle.spool_rack.specs.Opening.{HeldView}
use Rattle.spool_rack.proofs.ClosingLemmas.{IsMade}
use Rattle.spool_rack.proofs.closing.pour.Given as goal

abbrev pub invariant-loop-slot : goal.invariant-loop-slot
invariant-loop-slot g l = IsMade g.row.S.Denot HeldView HeldView g.S.Apart.held_view (λ h. h) l.fn.from.items l.from.items l.fn.held l.held

abbrev pub decreases-loop-slot : goal.decreases-loop-slot
decreases-loop-slot g l = length l.from.items
