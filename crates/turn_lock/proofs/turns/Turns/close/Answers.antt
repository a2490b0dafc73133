use Rattle.std.proofs.Common.{ap, sym, ◌∙◌}
use Rattle.turn_lock.proofs.Passes.{closes, same_table}
use Rattle.turn_lock.proofs.turns.Turns.close.Goals as goal

pub take_out-value-requires : goal.take_out-value-requires
take_out-value-requires g c = record { desk = (same_table _ _ (ap (λ k. k.home) c.into_seat-seat.ensures.known ∙ c.requires.pass.home ∙ sym (ap (λ k. k.home) c.self.view_is)), c.self.invariant) }

pub returns-clause-within : goal.returns-clause-within
returns-clause-within g c =
    (closes g.V.StandsFor.entries g.V.StandsFor.limit g.V.StandsFor.origin c.args.self c.args.pass c.into_seat-seat.result c.take_out-value.new.seat c.take_out-value.result _ c.into_seat-seat.ensures.known
    (ap (λ k. k.begun) c.self.view_is) c.take_out-value.ensures.out c.end.ensures.told).0

pub returns-clause-whole : goal.returns-clause-whole
returns-clause-whole g c =
    (closes g.V.StandsFor.entries g.V.StandsFor.limit g.V.StandsFor.origin c.args.self c.args.pass c.into_seat-seat.result c.take_out-value.new.seat c.take_out-value.result _ c.into_seat-seat.ensures.known
    (ap (λ k. k.begun) c.self.view_is) c.take_out-value.ensures.out c.end.ensures.told).1
