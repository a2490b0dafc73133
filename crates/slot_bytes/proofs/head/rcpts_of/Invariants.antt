use Rattle.std.proofs.Common.{◌≡◌}
use Rattle.slot_bytes.specs.Reading.{rcpts_at}
use Rattle.slot_bytes.specs.Views.{behind}
use Rattle.slot_bytes.proofs.head.rcpts_of.Given as goal

abbrev pub invariant-loop-left : goal.invariant-loop-left
invariant-loop-left l = rcpts_at l.fn.count l.fn.bytes ≡ behind l.list (rcpts_at l.left l.rest)

abbrev pub decreases-loop-left : goal.decreases-loop-left
decreases-loop-left l = l.left
