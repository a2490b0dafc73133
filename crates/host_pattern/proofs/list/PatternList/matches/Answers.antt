use Rattle.std.proofs.Common.{sym, ◌∙◌, arith}
use Rattle.host_pattern.proofs.ListLemmas.{answer_at, steps_at, further_at, no_answer, all_steps, tested_few}
use Rattle.host_pattern.proofs.list.PatternList.matches.Goals as goal

pub returns-then-test-clause-answer : goal.returns-then-test-clause-answer
returns-then-test-clause-answer g c =
    answer_at _ _ _ _ _ _ c.text-item.result _ c.loop-text.invariant c.loop-text-test.true c.text-item.is (sym c.if-test.ensures.answer) c.is_negated.ensures

pub returns-then-test-clause-steps : goal.returns-then-test-clause-steps
returns-then-test-clause-steps g c =
    c.if-test.ensures.one_step ∙ steps_at _ _ _ _ _ _ c.text-item.result c.loop-text.invariant c.loop-text-test.true c.text-item.is (sym c.if-test.ensures.answer)

pub returns-then-test-clause-bound : goal.returns-then-test-clause-bound
returns-then-test-clause-bound g c =
    let few = tested_few c.args.self.now c.args.party.now in
    let steps = c.if-test.ensures.one_step ∙ steps_at _ _ _ _ _ _ c.text-item.result c.loop-text.invariant c.loop-text-test.true c.text-item.is (sym c.if-test.ensures.answer) in
    omega arith

pub loop-text-preserved : goal.loop-text-preserved
loop-text-preserved g c =
    rw c.if-test.ensures.one_step (further_at _ _ _ _ _ _ c.text-item.result c.loop-text.invariant c.loop-text-test.true c.text-item.is (sym c.if-test.ensures.answer))

pub returns-clause-answer : goal.returns-clause-answer
returns-clause-answer g c = no_answer _ _ _ _ _ _ c.loop-text.invariant c.loop-text-test.false

pub returns-clause-steps : goal.returns-clause-steps
returns-clause-steps g c = all_steps _ _ _ _ _ _ c.loop-text.invariant c.loop-text-test.false

pub returns-clause-bound : goal.returns-clause-bound
returns-clause-bound g c =
    let few = tested_few c.args.self.now c.args.party.now in
    let steps = all_steps _ _ _ _ _ _ c.loop-text.invariant c.loop-text-test.false in
    omega arith
