-- What the seats of a pass did with slots.
use Rattle.std.specs.Prelude.{ℕ, ◌+◌, List, [], ◌∷◌, ◌++◌, Option, Some, None, if◌then◌else◌}
use Rattle.spool_slots.specs.States.{SlotView, FullView, BrokenView}
use Rattle.spool_rack.specs.Store.{Loan, struck}
use Rattle.spool_pool.specs.Shelf.{ShelvedView, is_aside, is_broken}

-- A slot that wasn't taken full was put full, or broke; one that was taken full was put full again, given free, set
-- aside, or broke.
pub data Event : Type 0 where
  kept : FullView → Event
  spoilt : BrokenView → Event
  back : Loan → FullView → Event
  freed : Loan → Event
  shelved : Loan → SlotView → Event
  broke : Loan → BrokenView → Event

-- ---- what an event put, and what it had taken

abbrev pub first_of : Event → List FullView
first_of (kept slot) = slot ∷ []
first_of _ = []

abbrev pub released_of : Event → List Loan
released_of (freed loan) = loan ∷ []
released_of _ = []

abbrev pub set_aside_of : Event → List SlotView
set_aside_of (shelved loan slot) = slot ∷ []
set_aside_of _ = []

abbrev pub broke_of : Event → List BrokenView
broke_of (broke loan slot) = slot ∷ []
broke_of _ = []

abbrev pub full_of : Event → List FullView
full_of (kept slot) = slot ∷ []
full_of (back loan slot) = slot ∷ []
full_of _ = []

abbrev pub shelf_of : Event → List ShelvedView
shelf_of (spoilt slot) = is_broken slot ∷ []
shelf_of (shelved loan slot) = is_aside slot ∷ []
shelf_of (broke loan slot) = is_broken slot ∷ []
shelf_of _ = []

-- the full slot that a loan tells
abbrev pub told_in : Option FullView → List FullView
told_in None = []
told_in (Some slot) = slot ∷ []

abbrev pub told_of : Loan → List FullView
told_of loan = told_in loan.taken

abbrev pub taken_of : Event → List FullView
taken_of (kept slot) = []
taken_of (spoilt slot) = []
taken_of (back loan slot) = told_of loan
taken_of (freed loan) = told_of loan
taken_of (shelved loan slot) = told_of loan
taken_of (broke loan slot) = told_of loan

-- ---- putting

abbrev pub freed_by : Option Loan → List Event
freed_by None = []
freed_by (Some loan) = if loan.was_full then freed loan ∷ [] else []

abbrev pub filled_by : FullView → Option Loan → List Event
filled_by slot None = []
filled_by slot (Some loan) = if loan.was_full then back loan slot ∷ [] else kept slot ∷ []

abbrev pub shelved_by : SlotView → Option Loan → List Event
shelved_by slot None = []
shelved_by slot (Some loan) = shelved loan slot ∷ []

abbrev pub broken_by : BrokenView → Option Loan → List Event
broken_by slot None = []
broken_by slot (Some loan) = if slot.from_full then broke loan slot ∷ [] else spoilt slot ∷ []

-- ---- all that was done so far, and the slots that are out; and how many steps it was told in

pub record TallyView : Type 0 where
  pub events : List Event
  pub out : List Loan
  pub steps : ℕ

abbrev pub lent : Loan → TallyView → TallyView
lent loan t = record { events = t.events; out = loan ∷ t.out; steps = t.steps + 0 + 1 }

abbrev pub given : ℕ → List Event → TallyView → TallyView
given number events t = record { events = t.events ++ events; out = struck number t.out; steps = t.steps + 0 + 1 }

abbrev pub joined : TallyView → TallyView → TallyView
joined t other = record { events = t.events ++ other.events; out = t.out; steps = t.steps + other.steps + 1 }
