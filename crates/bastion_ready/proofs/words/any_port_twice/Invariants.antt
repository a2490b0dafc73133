use Rattle.std.proofs.Common.{◌≡◌, length}
use Rattle.bastion_ready.specs.Words.{any_port_twice}
use Rattle.bastion_ready.proofs.words.any_port_twice.Given as goal

abbrev pub invariant-loop-words : goal.invariant-loop-words
invariant-loop-words l = any_port_twice l.words ≡ any_port_twice l.fn.words

abbrev pub decreases-loop-words : goal.decreases-loop-words
decreases-loop-words l = length l.words
