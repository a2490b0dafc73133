use Rattle.std.proofs.Common.{◌+◌, length}
use Rattle.gate_rules.proofs.MergingLemmas.{IsWalked}
use Rattle.gate_rules.proofs.merging.verdict_among.Given as goal

abbrev pub invariant-loop-next : goal.invariant-loop-next
invariant-loop-next g l = IsWalked l.octet l.peer l.rules l.every l.own l.fn.steps l.steps

abbrev pub decreases-loop-next : goal.decreases-loop-next
decreases-loop-next g l = length l.every + length l.own
