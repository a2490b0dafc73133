use Rattle.std.proofs.Common.{ℕ, List, sym, subst}
use Rattle.fw_outside.proofs.ListenLemmas.{Going, going_drained, going_filled, going_from, listens_line, listens_spent, listens_stopped}
use Rattle.fw_outside.proofs.line_reader.LineReader.next.Goals as goal

pub loop-text-init : goal.loop-text-init
loop-text-init g c =
    let P : List ℕ → Type 0 = λ kept. Going kept c.args.self.now c.args.self.now (g.S.Source.source_view c.args.from.now) (g.S.Source.source_view c.args.from.now) in
    subst P (sym c.new-text.ensures) (going_from c.args.self.now (g.S.Source.source_view c.args.from.now))

pub returns-then-is_spent-clause-listens : goal.returns-then-is_spent-clause-listens
returns-then-is_spent-clause-listens g c = listens_spent _ _ _ _ _ c.loop-text.invariant c.if-is_spent.ensures.spent

pub returns-then-move_on-clause-listens : goal.returns-then-move_on-clause-listens
returns-then-move_on-clause-listens g c =
    listens_line c.heard.result _ _ _ _ _ _ _ c.loop-text.invariant c.if-is_spent.ensures.spent c.if-move_on.ensures.line c.heard.ensures

pub returns-in-Err-clause-listens : goal.returns-in-Err-clause-listens
returns-in-Err-clause-listens g c =
    listens_stopped c.in-Err.stop _ _ _ _ _ _ _ _ _ c.loop-text.invariant c.if-is_spent.ensures.spent c.if-move_on.ensures.all c.in-Err.ensures.kept c.in-Err.ensures.misses

pub loop-text-preserved : goal.loop-text-preserved
loop-text-preserved g c =
    let drained = going_drained _ _ _ _ _ _ _ c.loop-text.invariant c.if-move_on.ensures.all in
    going_filled _ _ _ _ _ _ _ drained c.if-move_on.ensures.all.empty c.in_default.ensures.fills
