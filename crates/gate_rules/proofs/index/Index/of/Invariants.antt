use Rattle.std.proofs.Common.{take}
use Rattle.gate_rules.specs.Index.{IsIndex}
use Rattle.gate_rules.proofs.index.Index.of.Given as goal

abbrev pub invariant-loop-at : goal.invariant-loop-at
invariant-loop-at l = IsIndex (take l.at l.rules) l.index.every l.index.own.items
