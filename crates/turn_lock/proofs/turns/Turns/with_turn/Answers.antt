use Rattle.std.proofs.Common.{ap, subst, sym, ◌∙◌, ◌++◌, ◌∷◌, []}
use Rattle.turn_lock.specs.Known.{IsPassOf}
use Rattle.turn_lock.proofs.Passes.{grown_none, grown_one, ready, same_table, turn_more, turn_same}
use Rattle.turn_lock.proofs.turns.Turns.with_turn.Goals as goal

pub take_out-value-requires : goal.take_out-value-requires
take_out-value-requires g c = record { desk = (same_table _ _ (ap (λ k. k.home) c.pass.view_is ∙ c.requires.pass.home ∙ sym (ap (λ k. k.home) c.self.view_is)), c.self.invariant) }

pub give_back-requires : goal.give_back-requires
give_back-requires g c =
    let of = subst (IsPassOf c.args.self.now) (sym c.pass.view_is) c.requires.pass in
    let r = ready g.V.StandsFor.entries g.V.StandsFor.limit g.V.StandsFor.origin c.args.self.now c.pass.inside.seat c.take_out-value.new.seat.me c.take_out-value.result c.apply-answer.new.value of c.pass.invariant c.take_out-value.ensures.out c.apply-answer.ensures.limit c.apply-answer.ensures.origin in
    let n = sym c.count.ensures ∙ (c.if-count-before.true ∙ c.count-before.ensures) in record {
      desk = (c.take_out-value.ensures.same.0 ∙ same_table _ _ (ap (λ k. k.home) c.pass.view_is ∙ c.requires.pass.home ∙ sym (ap (λ k. k.home) c.self.view_is)), c.self.invariant);
      empty = r.empty;
      hold = r.hold;
      list = grown_none _ _ _ c.apply-answer.ensures.grows n ∙ r.seen;
      limit = r.limit_is;
      origin = r.origin_is;
    }

pub give_back_more-requires : goal.give_back_more-requires
give_back_more-requires g c =
    let of = subst (IsPassOf c.args.self.now) (sym c.pass.view_is) c.requires.pass in
    let r = ready g.V.StandsFor.entries g.V.StandsFor.limit g.V.StandsFor.origin c.args.self.now c.pass.inside.seat c.take_out-value.new.seat.me c.take_out-value.result c.apply-answer.new.value of c.pass.invariant c.take_out-value.ensures.out c.apply-answer.ensures.limit c.apply-answer.ensures.origin in
    let more = grown_one _ _ _ c.apply-answer.ensures.grows (λ n. c.if-count-before.false (c.count.ensures ∙ (n ∙ sym c.count-before.ensures))) in record {
      desk = (c.take_out-value.ensures.same.0 ∙ same_table _ _ (ap (λ k. k.home) c.pass.view_is ∙ c.requires.pass.home ∙ sym (ap (λ k. k.home) c.self.view_is)), c.self.invariant);
      empty = r.empty;
      hold = r.hold;
      list = (more.entry, more.is ∙ ap (λ l. l ++ more.entry ∷ []) r.seen);
      limit = r.limit_is;
      origin = r.origin_is;
    }

pub returns-then-count-before : goal.returns-then-count-before
returns-then-count-before g c =
    let n = sym c.count.ensures ∙ (c.if-count-before.true ∙ c.count-before.ensures) in
    let r = turn_same g.V.StandsFor.entries g.V.StandsFor.limit g.V.StandsFor.origin (λ found limit origin seen. g.C.TurnCall.does c.args.call found limit origin c.apply-answer.result seen) c.args.self.now _ c.pass.inside.seat c.take_out-value.new.seat c.give_back.new.seat
    c.take_out-value.result c.apply-answer.new.value c.pass.view_is c.requires.pass c.pass.invariant c.take_out-value.ensures.out (c.give_back.ensures.same.0 ∙ c.take_out-value.ensures.same.0) c.give_back.ensures.freed
    (grown_none _ _ _ c.apply-answer.ensures.grows n) c.apply-answer.ensures.does in
    record { turn = r.0; own = r.1; places = r.2.places }

pub returns-else-count-before : goal.returns-else-count-before
returns-else-count-before g c =
    let more = grown_one _ _ _ c.apply-answer.ensures.grows (λ n. c.if-count-before.false (c.count.ensures ∙ (n ∙ sym c.count-before.ensures))) in
    let r = turn_more g.V.StandsFor.entries g.V.StandsFor.limit g.V.StandsFor.origin (λ found limit origin seen. g.C.TurnCall.does c.args.call found limit origin c.apply-answer.result seen) c.args.self.now _ c.pass.inside.seat c.take_out-value.new.seat c.give_back_more.new.seat
    c.take_out-value.result c.apply-answer.new.value c.pass.view_is c.requires.pass c.pass.invariant c.take_out-value.ensures.out (c.give_back_more.ensures.same.0 ∙ c.take_out-value.ensures.same.0) c.give_back_more.ensures.freed
    more c.apply-answer.ensures.does in
    record { turn = r.0; own = r.1; places = r.2.places }
