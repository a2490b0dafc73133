use Rattle.std.specs.Str.{str_to_ascii_lowercase}
use Rattle.host_pattern.proofs.WalkLemmas.{IsOnTheWay, left_over}
use Rattle.host_pattern.proofs.walk.globs.Given as goal

abbrev pub invariant-loop-at : goal.invariant-loop-at
invariant-loop-at l = IsOnTheWay (str_to_ascii_lowercase l.pattern) l.text l.place l.at l.back

abbrev pub decreases-loop-at : goal.decreases-loop-at
decreases-loop-at l = left_over l.pattern l.text l.place l.at l.back
