use Rattle.std.proofs.Common.{◌≡◌, length}
use Rattle.bastion.specs.Words.{after_options}
use Rattle.bastion.proofs.words.after_options.Given as goal

abbrev pub invariant-loop-words : goal.invariant-loop-words
invariant-loop-words l = after_options l.words ≡ after_options l.fn.words

abbrev pub decreases-loop-words : goal.decreases-loop-words
decreases-loop-words l = length l.words
