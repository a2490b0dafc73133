use Rattle.std.proofs.Common.{arith, ap, sym, ◌∙◌}
use Rattle.turn_lock.proofs.Keeps.{joins, looks}
use Rattle.turn_lock.proofs.Passes.{meet_of, met_rise, rests_met, same_table}
use Rattle.turn_lock.proofs.turns.Turns.meet.Goals as goal

pub join_seat-requires : goal.join_seat-requires
join_seat-requires g c = (
  same_table _ _ (ap (λ k. k.home) c.pass.view_is ∙ c.requires.pass.home ∙ sym (ap (λ k. k.home) c.self.view_is)),
  same_table _ _ (ap (λ k. k.home) c.into_seat-seat.ensures.known ∙ c.requires.other.home ∙ sym (ap (λ k. k.home) c.self.view_is)),
  c.into_seat-seat.ensures.rest.empty,
  omega (arith, c.self.invariant.0),
  joins _ _ _ _ _ _ _ _ c.pass.invariant.away c.into_seat-seat.ensures.rest.away,
)

pub load-requires : goal.load-requires
load-requires g c = (
  c.join_seat.ensures.0 ∙ same_table _ _ (ap (λ k. k.home) c.pass.view_is ∙ c.requires.pass.home ∙ sym (ap (λ k. k.home) c.self.view_is)),
  omega (arith, c.self.invariant.0),
  looks _ _ _ _ _ _ _ _ _ (ap (λ m. m.0.hold) c.join_seat.ensures.2),
)

pub invariant_of-pass : goal.invariant_of-pass
invariant_of-pass g c = rests_met _ c.into_seat-seat.result c.join_seat.new.seat _ c.pass.invariant c.join_seat.ensures.2 (c.load.ensures.2 _ _ (ap (λ m. m.0.hold) c.join_seat.ensures.2))

pub returns : goal.returns
returns g c =
    let m = meet_of c.args.self.now _ _ c.pass.inside.seat c.into_seat-seat.result c.join_seat.new.seat c.load.new.seat c.pass.view_is c.into_seat-seat.ensures.known c.requires.pass c.join_seat.ensures.0 c.join_seat.ensures.2
    c.load.ensures.0 (c.load.ensures.2 _ _ (ap (λ m. m.0.hold) c.join_seat.ensures.2)) in
    let calm = rests_met c.pass.inside.seat c.into_seat-seat.result c.join_seat.new.seat c.load.new.seat c.pass.invariant c.join_seat.ensures.2 (c.load.ensures.2 _ _ (ap (λ m. m.0.hold) c.join_seat.ensures.2)) in
    record { met = m.0; own = m.1; places = calm.places; met_places = met_rise c.into_seat-seat.result c.args.other c.into_seat-seat.ensures.known c.into_seat-seat.ensures.rest }
