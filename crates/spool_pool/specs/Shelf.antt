-- Slots that stand aside or broken, in one queue.
use Rattle.std.specs.Prelude.{ℕ, List, [], ◌∷◌}
use Rattle.spool_slots.specs.States.{SlotView, BrokenView}
use Rattle.spool_pool.specs.declared.shelved.Kind.{Kind}
use Rattle.spool_pool.specs.declared.shelved.Kind.TheVariants.{Aside, Broken}

pub data ShelvedView : Type 0 where
  is_aside : SlotView → ShelvedView
  is_broken : BrokenView → ShelvedView

abbrev pub shelved_view : {D : Type 0} → Kind D → ShelvedView
shelved_view (Aside slot) = is_aside slot
shelved_view (Broken slot) = is_broken slot

abbrev pub number_on : ShelvedView → ℕ
number_on (is_aside slot) = slot.number
number_on (is_broken slot) = slot.number

abbrev pub aside_of : ShelvedView → List SlotView
aside_of (is_aside slot) = slot ∷ []
aside_of (is_broken slot) = []

abbrev pub broken_of : ShelvedView → List BrokenView
broken_of (is_aside slot) = []
broken_of (is_broken slot) = slot ∷ []
