use Rattle.std.proofs.Common.{◌≡◌, ◌++◌}
use Rattle.drill_lines.specs.Draws.{draws}
use Rattle.drill_lines.proofs.drawing.draws.Given as goal

abbrev pub invariant-loop-left : goal.invariant-loop-left
invariant-loop-left l = l.all.items ++ draws l.left l.x ≡ draws l.count l.start

abbrev pub decreases-loop-left : goal.decreases-loop-left
decreases-loop-left l = l.left
