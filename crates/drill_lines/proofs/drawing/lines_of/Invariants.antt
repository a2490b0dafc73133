use Rattle.std.proofs.Common.{◌≡◌, ◌++◌, length}
use Rattle.drill_lines.specs.Draws.{lines_text}
use Rattle.drill_lines.proofs.drawing.lines_of.Given as goal

abbrev pub invariant-loop-draws : goal.invariant-loop-draws
invariant-loop-draws l = l.out.items ++ lines_text l.draws ≡ lines_text l.fn.draws

abbrev pub decreases-loop-draws : goal.decreases-loop-draws
decreases-loop-draws l = length l.draws
