-- How many slots of one number there are.
use Rattle.std.specs.Prelude.{◌≡◌, ℕ, ◌+◌, ◌==◌, List, sum_by, if◌then◌else◌}
use Rattle.spool_slots.specs.States.{SlotView, FullView, BrokenView}
use Rattle.spool_rack.specs.Store.{Loan, Queues}
use Rattle.shared_queue.specs.Moves.{Moves}
use Rattle.spool_pool.specs.Shelf.{ShelvedView, number_on}

-- 1 if this is the number
abbrev pub one_at : ℕ → ℕ → ℕ
one_at k n = if n == k then 1 else 0

abbrev pub slots_at : ℕ → List SlotView → ℕ
slots_at k slots = sum_by (λ slot. one_at k slot.number) slots

abbrev pub full_at : ℕ → List FullView → ℕ
full_at k slots = sum_by (λ slot. one_at k slot.number) slots

abbrev pub broken_at : ℕ → List BrokenView → ℕ
broken_at k slots = sum_by (λ slot. one_at k slot.number) slots

abbrev pub shelved_at : ℕ → List ShelvedView → ℕ
shelved_at k slots = sum_by (λ slot. one_at k (number_on slot)) slots

abbrev pub out_at : ℕ → List Loan → ℕ
out_at k out = sum_by (λ loan. one_at k loan.number) out

abbrev pub all_at : ℕ → Queues → ℕ
all_at k q = slots_at k q.free + full_at k q.full + slots_at k q.aside + broken_at k q.broken

-- of each number, as many slots were taken as were put and are out
pub record AreKept (free : Moves SlotView) (full : Moves FullView) (shelf : Moves ShelvedView) (out : List Loan) : Type 0 where
  pub each : (k : ℕ) → slots_at k free.taken + full_at k full.taken ≡ slots_at k free.put + full_at k full.put + shelved_at k shelf.put + out_at k out
