use Rattle.std.proofs.Common.{◌≡◌, ◌-◌, length, drop}
use Rattle.gate_rules.specs.Faults.{target_among}
use Rattle.gate_rules.specs.Options.{options_after}
use Rattle.gate_rules.proofs.OptionCheckLemmas.{told_from}
use Rattle.gate_rules.proofs.option_check.target_among.Given as goal

abbrev pub invariant-loop-at : goal.invariant-loop-at
invariant-loop-at l = told_from l.has (options_after l.service 0 (drop l.at l.words)) ≡ target_among l.service l.words

abbrev pub decreases-loop-at : goal.decreases-loop-at
decreases-loop-at l = length l.words - l.at
