use Rattle.std.proofs.Common.{◌≡◌, ◌+◌, ◌≤◌, drop}
use Rattle.std.specs.Prelude.{find}
use Rattle.gate_rules.specs.Verdict.{decided_by, rule_matches, pattern_count, rules_steps}
use Rattle.gate_rules.proofs.merging.verdict_in.Given as goal

abbrev pub invariant-loop-rule : goal.invariant-loop-rule
invariant-loop-rule g l = record {
  answer : decided_by (find (rule_matches l.peer) (drop l.rule-index l.rules)) ≡ decided_by (find (rule_matches l.peer) l.rules);
  steps : l.steps + rules_steps l.peer (drop l.rule-index l.rules) ≡ l.initial.steps + rules_steps l.peer l.rules;
  bound : l.steps + pattern_count (drop l.rule-index l.rules) ≤ l.initial.steps + pattern_count l.rules;
}
