use Rattle.std.proofs.Common.{◌≡◌, ◌++◌, length, map}
use Rattle.gate_rules.specs.Verdict.{verdict_of}
use Rattle.drill_lines.specs.Draws.{peers_of}
use Rattle.drill_lines.proofs.counting.verdicts_of.Given as goal

abbrev pub invariant-loop-draws : goal.invariant-loop-draws
invariant-loop-draws l = l.verdicts.items ++ map (verdict_of l.rules) (peers_of l.draws) ≡ map (verdict_of l.rules) (peers_of l.fn.draws)

abbrev pub decreases-loop-draws : goal.decreases-loop-draws
decreases-loop-draws l = length l.draws
