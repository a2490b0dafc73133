use Rattle.std.proofs.Common.{◌≡◌, length}
use Rattle.bastion.specs.Words.{any_twice}
use Rattle.bastion.proofs.words.any_twice.Given as goal

abbrev pub invariant-loop-words : goal.invariant-loop-words
invariant-loop-words l = any_twice l.words ≡ any_twice l.fn.words

abbrev pub decreases-loop-words : goal.decreases-loop-words
decreases-loop-words l = length l.words
