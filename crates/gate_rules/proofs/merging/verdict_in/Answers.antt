use Rattle.std.proofs.Common.{sym, ◌∙◌, ap, drop, ◌+◌}
use Rattle.gate_rules.specs.Verdict.{rules_steps}
use Rattle.gate_rules.proofs.RulesLemmas.{count_past, decided_past, steps_at_end, steps_at_match, steps_past}
use Rattle.gate_rules.proofs.merging.verdict_in.Goals as goal

pub returns-then-matches-clause-steps : goal.returns-then-matches-clause-steps
returns-then-matches-clause-steps g c =
    c.if-matches.ensures.steps
    ∙ steps_at_match c.args.peer.now c.args.rules.now c.loop-rule.rule-index c.args.steps.now c.loop-rule.steps c.rule-item.result c.loop-rule-test.true c.rule-item.is (sym c.if-matches.ensures.answer) c.loop-rule.invariant.steps

pub loop-rule-preserved : goal.loop-rule-preserved
loop-rule-preserved g c = record {
  answer = decided_past c.args.peer.now c.args.rules.now c.loop-rule.rule-index c.rule-item.result c.loop-rule-test.true c.rule-item.is (sym c.if-matches.ensures.answer) c.loop-rule.invariant.answer;
  steps = ap (λ n. n + rules_steps c.args.peer.now (drop (c.loop-rule.rule-index + 1) c.args.rules.now)) c.if-matches.ensures.steps
      ∙ steps_past c.args.peer.now c.args.rules.now c.loop-rule.rule-index c.args.steps.now c.loop-rule.steps c.rule-item.result c.loop-rule-test.true c.rule-item.is (sym c.if-matches.ensures.answer) c.loop-rule.invariant.steps;
  bound = count_past c.args.rules.now c.loop-rule.rule-index c.args.steps.now c.loop-rule.steps c.matches.new.steps c.rule-item.result c.loop-rule-test.true c.rule-item.is c.if-matches.ensures.bound c.loop-rule.invariant.bound;
}

pub returns-clause-steps : goal.returns-clause-steps
returns-clause-steps g c = steps_at_end c.args.peer.now c.args.rules.now c.loop-rule.rule-index c.args.steps.now c.loop-rule.steps c.loop-rule-test.false c.loop-rule.invariant.steps
