use Rattle.std.proofs.Common.{◌≡◌, length}
use Rattle.bastion.specs.Words.{word_after}
use Rattle.bastion.proofs.words.word_after.Given as goal

abbrev pub invariant-loop-words : goal.invariant-loop-words
invariant-loop-words l = word_after l.name l.words ≡ word_after l.fn.name l.fn.words

abbrev pub decreases-loop-words : goal.decreases-loop-words
decreases-loop-words l = length l.words
