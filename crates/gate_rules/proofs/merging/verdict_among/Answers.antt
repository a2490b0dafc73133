use Rattle.std.proofs.Common.{◌<◌, ◌∙◌, arith, length, sym}
use Rattle.gate_rules.proofs.MergingLemmas.{end_answers, end_steps, match_answers, match_bound, match_steps, next_within, walked_past}
use Rattle.gate_rules.proofs.merging.verdict_among.Goals as goal

pub offset_bounds-rules-next : goal.offset_bounds-rules-next
offset_bounds-rules-next g c =
    let within : c.in-Some.next.at < length c.args.rules.now =
    next_within c.args.octet c.args.peer.now c.args.rules.now c.loop-next.every.now c.loop-next.own.now c.args.steps.now c.loop-next.steps c.in-Some.next.at c.in-Some.next.every.now c.in-Some.next.own.now c.loop-next.invariant c.in-Some.ensures.some in
    omega arith

pub bounds-rules-next : goal.bounds-rules-next
bounds-rules-next g c =
    next_within c.args.octet c.args.peer.now c.args.rules.now c.loop-next.every.now c.loop-next.own.now c.args.steps.now c.loop-next.steps c.in-Some.next.at c.in-Some.next.every.now c.in-Some.next.own.now c.loop-next.invariant c.in-Some.ensures.some

pub returns-then-matches-clause-answer : goal.returns-then-matches-clause-answer
returns-then-matches-clause-answer g c =
    c.verdict.ensures
    ∙ match_answers c.args.octet c.args.peer.now c.args.rules.now c.loop-next.every.now c.loop-next.own.now c.args.steps.now c.loop-next.steps c.in-Some.next.at c.in-Some.next.every.now c.in-Some.next.own.now
    c.index-rules-next.result c.loop-next.invariant c.in-Some.ensures.some c.index-rules-next.is (sym c.if-matches.ensures.answer)

pub returns-then-matches-clause-steps : goal.returns-then-matches-clause-steps
returns-then-matches-clause-steps g c =
    c.if-matches.ensures.steps
    ∙ match_steps c.args.octet c.args.peer.now c.args.rules.now c.loop-next.every.now c.loop-next.own.now c.args.steps.now c.loop-next.steps c.in-Some.next.at c.in-Some.next.every.now c.in-Some.next.own.now
    c.index-rules-next.result c.loop-next.invariant c.in-Some.ensures.some c.index-rules-next.is (sym c.if-matches.ensures.answer)

pub returns-then-matches-clause-bound : goal.returns-then-matches-clause-bound
returns-then-matches-clause-bound g c =
    match_bound c.args.octet c.args.peer.now c.args.rules.now c.loop-next.every.now c.loop-next.own.now c.args.steps.now c.loop-next.steps c.in-Some.next.at c.in-Some.next.every.now c.in-Some.next.own.now
    c.index-rules-next.result c.matches.new.steps c.loop-next.invariant c.in-Some.ensures.some c.index-rules-next.is c.if-matches.ensures.bound

pub loop-next-preserved : goal.loop-next-preserved
loop-next-preserved g c =
    walked_past c.args.octet c.args.peer.now c.args.rules.now c.loop-next.every.now c.loop-next.own.now c.args.steps.now c.loop-next.steps c.in-Some.next.at c.in-Some.next.every.now c.in-Some.next.own.now
    c.index-rules-next.result c.matches.new.steps c.loop-next.invariant c.in-Some.ensures.some c.index-rules-next.is (sym c.if-matches.ensures.answer) c.if-matches.ensures.steps c.if-matches.ensures.bound

pub returns-clause-answer : goal.returns-clause-answer
returns-clause-answer g c =
    end_answers c.args.octet c.args.peer.now c.args.rules.now c.loop-next.every.now c.loop-next.own.now c.args.steps.now c.loop-next.steps c.loop-next.invariant c.in_default.ensures.none.0 c.in_default.ensures.none.1

pub returns-clause-steps : goal.returns-clause-steps
returns-clause-steps g c =
    end_steps c.args.octet c.args.peer.now c.args.rules.now c.loop-next.every.now c.loop-next.own.now c.args.steps.now c.loop-next.steps c.loop-next.invariant c.in_default.ensures.none.0 c.in_default.ensures.none.1
