-- What became of slots with messages.
use Rattle.std.specs.Prelude.{◌≡◌, ℕ, List, ◌++◌, map, filter, Option, Some, None}
use Rattle.std.specs.List.Sorted.{IsPermutation}
use Rattle.fw_disk.specs.Moments.{Now, EachImage}
use Rattle.slot_bytes.specs.Layout.{Mail}
use Rattle.spool_slots.specs.Images.{HasMessageBehind}
use Rattle.spool_slots.specs.States.{SlotView, FullView, BrokenView, Keeps, KeepsAside}
use Rattle.spool_rack.specs.Store.{Handed, Loan, Queues}
use Rattle.spool_pool.specs.Numbers.{all_at}

-- a slot with a message still stands full; it was taken and given free; it was set aside; or it broke
pub data End : Type 0 where
  stands : FullView → End
  released : Loan → End
  put_aside : SlotView → End
  broke : BrokenView → End

-- a full slot is told, and has this message
abbrev pub ToldWith : Mail → Option FullView → Type 0
ToldWith m None = ⊥
ToldWith m (Some slot) = Keeps m slot

-- the message that the slot has, or had when it was taken
abbrev pub Has : Mail → End → Type 0
Has m (stands slot) = Keeps m slot
Has m (released loan) = ToldWith m loan.taken
Has m (put_aside slot) = KeepsAside m slot
Has m (broke slot) = Now (EachImage (HasMessageBehind m)) slot.disk

-- a slot with a message, and what became of it, with the same message
pub record Fate : Type 0 where
  pub slot : FullView
  pub end : End
  pub same : (m : Mail) → Keeps m slot → Has m end

-- one for one, up to order, this became of these slots
pub record Became (slots : List FullView) (ends : List End) : Type 0 where
  pub fates : List Fate
  pub slots_are : IsPermutation slots (map (λ fate. fate.slot) fates)
  pub ends_are : IsPermutation ends (map (λ fate. fate.end) fates)

-- the broken slots that came from a `Full`
abbrev pub from_full : List BrokenView → List BrokenView
from_full slots = filter (λ slot. slot.from_full) slots

-- The whole account of a pool, between the slots that it was made of, what was handed to it, and those that it is closed
-- with: no message is lost and none stands twice; and of each number as many slots are there as were.
pub record IsSettled (handed : Handed) (left : Queues) : Type 0 where
  pub full : Became (handed.began.full ++ handed.put)
      (map stands left.full ++ (map released handed.released ++ (map put_aside handed.aside ++ map broke handed.broken)))
  pub slots : (k : ℕ) → all_at k left ≡ all_at k handed.began
  pub aside : IsPermutation (handed.began.aside ++ handed.aside) left.aside
  pub broken : IsPermutation (from_full handed.began.broken ++ handed.broken) (from_full left.broken)
