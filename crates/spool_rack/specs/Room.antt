-- What a rack is made of.
use Rattle.std.specs.Prelude.{◌≡◌, ℕ, ◌+◌, ◌≤◌, false, List, [], length, None}
use Rattle.std.specs.List.{AllByRecursion}
use Rattle.spool_slots.specs.States.{SlotView, FullView, BrokenView}
use Rattle.spool_rack.specs.Store.{Loan}
use Rattle.spool_rack.specs.declared.loans.Lent.{Lent}

-- members from the front on, and for how many there is room
pub record QueueView (X : Type 0) : Type 0 where
  pub items : List X
  pub room : ℕ

-- a rack tells no message of a slot that is out
abbrev pub loan_view : Lent → Loan
loan_view l = record { number = l.number; was_full = l.was_full; taken = None }

-- there is room for all slots, those that are out among them, in each queue; and no full slot couldn't be read
pub record HasRoom (free : QueueView SlotView) (full : QueueView FullView) (aside : QueueView SlotView) (broken : QueueView BrokenView) (out : QueueView Loan) (room : ℕ) : Type 0 where
  pub sum : length free.items + length full.items + length aside.items + length broken.items + length out.items ≤ room
  pub free_room : free.room ≡ room
  pub full_room : full.room ≡ room
  pub aside_room : aside.room ≡ room
  pub broken_room : broken.room ≡ room
  pub out_room : out.room ≡ room
  pub read : AllByRecursion (λ slot. slot.unread ≡ false) full.items

-- room for what is made of them in the end
pub record IsSpare {X Y : Type 0} (held : QueueView X) (home : QueueView Y) (room : ℕ) : Type 0 where
  pub held_is : held ≡ record { items = []; room = room }
  pub home_is : home ≡ record { items = []; room = room }
