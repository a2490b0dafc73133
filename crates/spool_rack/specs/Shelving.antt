-- Putting slots into queues.
use Rattle.std.specs.Prelude.{◌≡◌, ℕ, ◌+◌, ◌≤◌, false, List, [], ◌∷◌, ◌++◌, length}
use Rattle.std.specs.List.{AllByRecursion}
use Rattle.spool_slots.specs.declared.opening.Opened.{Opened}
use Rattle.spool_slots.specs.declared.opening.Opened.TheVariants.{Free, Full, Aside}
use Rattle.spool_slots.specs.States.{BrokenView}
use Rattle.spool_rack.specs.declared.shelving.Shelves.{Shelves}
use Rattle.spool_rack.specs.Store.{Loan}
use Rattle.spool_rack.specs.Room.{QueueView}
use Rattle.spool_rack.specs.Opening.{queues_of}

abbrev pub at_back : {X : Type 0} → X → QueueView X → QueueView X
at_back x q = record { items = q.items ++ x ∷ []; room = q.room }

abbrev pub shelved : {D : Type 0} → Opened D → Shelves D → Shelves D
shelved (Free slot) s = record { free = at_back slot s.free; full = s.full; aside = s.aside }
shelved (Full slot) s = record { free = s.free; full = at_back slot s.full; aside = s.aside }
shelved (Aside slot) s = record { free = s.free; full = s.full; aside = at_back slot s.aside }

-- so many more fit into each
pub record HasSpace {D : Type 0} (n : ℕ) (s : Shelves D) : Type 0 where
  pub free : length s.free.items + n ≤ s.free.room
  pub full : length s.full.items + n ≤ s.full.room
  pub aside : length s.aside.items + n ≤ s.aside.room

-- each full one can be read
abbrev pub IsReadable : {D : Type 0} → Opened D → Type 0
IsReadable (Free slot) = Unit {0}
IsReadable (Full slot) = slot.unread ≡ false
IsReadable (Aside slot) = Unit {0}

abbrev pub AreReadable : {D : Type 0} → List (Opened D) → Type 0
AreReadable slots = AllByRecursion IsReadable slots

-- they stand behind what was there
pub record IsShelved {D : Type 0} (slots : List (Opened D)) (old new : Shelves D) : Type 0 where
  pub free : new.free ≡ record { items = old.free.items ++ (queues_of slots).free; room = old.free.room }
  pub full : new.full ≡ record { items = old.full.items ++ (queues_of slots).full; room = old.full.room }
  pub aside : new.aside ≡ record { items = old.aside.items ++ (queues_of slots).aside; room = old.aside.room }

-- empty queues, with room for so many
pub record IsBare {D : Type 0} (room : ℕ) (s : Shelves D) (broken : QueueView BrokenView) (out : QueueView Loan) : Type 0 where
  pub free : s.free ≡ record { items = []; room = room }
  pub full : s.full ≡ record { items = []; room = room }
  pub aside : s.aside ≡ record { items = []; room = room }
  pub broken_is : broken ≡ record { items = []; room = room }
  pub out_is : out ≡ record { items = []; room = room }
