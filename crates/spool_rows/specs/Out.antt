-- Slots that were taken from a rack.
use Rattle.std.specs.Prelude.{ℕ, true, false, List}
use Rattle.spool_slots.specs.States.{FullView, Keeps}
use Rattle.spool_rack.specs.Store.{Loan, OfItsMessage, WasTaken}

-- the slot of this number was taken free
pub record IsLentFree (n : ℕ) (out : List Loan) : Type 0 where
  pub was_free : WasTaken false n out
  pub untold : OfItsMessage (λ m. ⊥) n out

-- the slot was taken full, and has the message that it had then
pub record IsLentFull (slot : FullView) (out : List Loan) : Type 0 where
  pub was_full : WasTaken true slot.number out
  pub message : OfItsMessage (λ m. Keeps m slot) slot.number out
