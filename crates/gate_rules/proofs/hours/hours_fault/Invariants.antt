use Rattle.std.proofs.Common.{◌≡◌, length}
use Rattle.gate_rules.specs.Times.{hours_fault}
use Rattle.gate_rules.proofs.hours.hours_fault.Given as goal

abbrev pub invariant-loop-words : goal.invariant-loop-words
invariant-loop-words l = hours_fault l.words ≡ hours_fault l.fn.words

abbrev pub decreases-loop-words : goal.decreases-loop-words
decreases-loop-words l = length l.words
