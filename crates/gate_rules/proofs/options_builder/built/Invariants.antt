use Rattle.std.proofs.Common.{◌≡◌, ◌-◌, length, drop}
use Rattle.gate_rules.specs.Options.{built, options_after}
use Rattle.gate_rules.proofs.OptionsBuilderLemmas.{drafted_from}
use Rattle.gate_rules.proofs.options_builder.built.Given as goal

abbrev pub invariant-loop-at : goal.invariant-loop-at
invariant-loop-at l = drafted_from l.builder (options_after l.service 0 (drop l.at l.words)) ≡ built l.service l.words

abbrev pub decreases-loop-at : goal.decreases-loop-at
decreases-loop-at l = length l.words - l.at
