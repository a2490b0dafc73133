use Rattle.std.proofs.Common.{arith, ap, sym, ◌∙◌, ◌∷◌, Some}
use Rattle.atomic_table.specs.Table.{rest}
use Rattle.turn_lock.proofs.Keeps.{loads}
use Rattle.turn_lock.proofs.steps.take_out.Goals as goal

pub exchange-slot-requires : goal.exchange-slot-requires
exchange-slot-requires g c = let t = c.claim.ensures.takes in
    (c.claim.ensures.same.0 ∙ c.requires.desk.0, (Some t.value, t.slot ∙ (λ i. (0, Some t.value) ∷ sym (ap rest t.slot) i)))

pub load-requires : goal.load-requires
load-requires g c = let t = c.claim.ensures.takes in (
  c.exchange-slot.ensures.0 ∙ (c.claim.ensures.same.0 ∙ c.requires.desk.0),
  omega (arith, c.requires.desk.1),
  loads _ _ _ _ _ _ _ _ (ap (λ m. m.0.hold) c.exchange-slot.ensures.3 ∙ ap (λ v. v.hold) t.view),
)
