use Rattle.std.proofs.Common.{◌≡◌, length}
use Rattle.std.specs.Prelude.{is_some}
use Rattle.bastion_ready.specs.Words.{doors_in}
use Rattle.bastion_ready.proofs.words.are_doors.Given as goal

abbrev pub invariant-loop-words : goal.invariant-loop-words
invariant-loop-words l = is_some (doors_in l.words) ≡ is_some (doors_in l.fn.words)

abbrev pub decreases-loop-words : goal.decreases-loop-words
decreases-loop-words l = length l.words
