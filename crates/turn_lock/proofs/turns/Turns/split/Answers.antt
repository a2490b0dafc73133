use Rattle.std.proofs.Common.{arith, ap, sym, ◌∙◌}
use Rattle.turn_lock.proofs.Keeps.{splits}
use Rattle.turn_lock.proofs.Passes.{same_table}
use Rattle.turn_lock.proofs.turns.Turns.split.Goals as goal

pub split_seat-seat-requires : goal.split_seat-seat-requires
split_seat-seat-requires g c = (
  same_table _ _ (ap (λ k. k.home) c.pass.view_is ∙ c.requires.pass.home ∙ sym (ap (λ k. k.home) c.self.view_is)),
  omega (arith, c.self.invariant.0),
  splits _ _ _ _ _ _,
)
