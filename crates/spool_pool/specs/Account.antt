-- How a pass's lists follow from what its seats did, and what its queues know of that.
use Rattle.std.specs.Prelude.{◌≡◌, ℕ, ◌<◌, Bool, true, false, List, [], ◌∷◌, ◌++◌, Option, Some, None, flat_map}
use Rattle.std.specs.List.{AllByRecursion}
use Rattle.std.specs.List.Sorted.{IsPermutation}
use Rattle.fw_disk.specs.Moments.{Now, EachImage}
use Rattle.slot_bytes.specs.Layout.{Mail}
use Rattle.spool_slots.specs.Images.{HasMessageBehind}
use Rattle.spool_slots.specs.States.{FullView, Keeps, KeepsAside}
use Rattle.spool_rack.specs.Store.{Handed, Loan, Queues}
use Rattle.shared_queue.specs.Moves.{Moves, less_one, met, split_off}
use Rattle.spool_pool.specs.declared.lanes.Lanes.{Lanes}
use Rattle.spool_pool.specs.Shelf.{ShelvedView, aside_of, broken_of}
use Rattle.spool_pool.specs.Events.{Event, kept, spoilt, back, freed, shelved, broke, TallyView, first_of, released_of, set_aside_of, broke_of, full_of, shelf_of, told_of, taken_of}
use Rattle.spool_pool.specs.Known.{PassView, SeatView}
use Rattle.spool_pool.specs.Numbers.{AreKept}

-- ---- lists

abbrev pub began_of : {D : Type 0} → Lanes D → Queues
began_of l = record {
  free = l.free.began;
  full = l.full.began;
  aside = flat_map aside_of l.shelf.began;
  broken = flat_map broken_of l.shelf.began;
}

abbrev pub homes_of : {D : Type 0} → Lanes D → List (List ℕ)
homes_of l = l.free.home ∷ l.full.home ∷ l.shelf.home ∷ []

abbrev pub handed_of : List (List ℕ) → ℕ → Queues → List Event → Handed
handed_of home parts began events = record {
  home = home;
  parts = parts;
  began = began;
  put = flat_map first_of events;
  released = flat_map released_of events;
  aside = flat_map set_aside_of events;
  broken = flat_map broke_of events;
}

abbrev pub handed_in : {D : Type 0} → Lanes D → List Event → Handed
handed_in l events = handed_of (homes_of l) l.full.parts (began_of l) events

-- a pass that a pool was closed with is of no pool
abbrev pub handed_by : {D : Type 0} → Bool → Lanes D → List Event → Handed
handed_by true l events = handed_of [] 0 (record { free = []; full = []; aside = []; broken = [] }) events
handed_by false l events = handed_in l events

-- ---- what holds of events and of slots that are out

-- the loan tells the full slot, and this holds of each message of that
pub record OfTaken (P : Mail → Type 0) (loan : Loan) : Type 0 where
  pub slot : FullView
  pub told : loan.taken ≡ Some slot
  pub keeps : (m : Mail) → Keeps m slot → P m

-- a slot that was taken full had the same message when it was put, and one that broke came from a `Full` exactly then
abbrev pub IsTrue : Event → Type 0
IsTrue (kept slot) = Unit {0}
IsTrue (spoilt slot) = slot.from_full ≡ false
IsTrue (back loan slot) = OfTaken (λ m. Keeps m slot) loan
IsTrue (freed loan) = OfTaken (λ m. Unit {0}) loan
IsTrue (shelved loan slot) = OfTaken (λ m. KeepsAside m slot) loan
IsTrue (broke loan slot) = (slot.from_full ≡ true) × OfTaken (λ m. Now (EachImage (HasMessageBehind m)) slot.disk) loan

-- a loan tells the slot exactly if it was taken full
abbrev pub IsTold : Bool → Option FullView → Type 0
IsTold true taken = (slot : FullView) × (taken ≡ Some slot)
IsTold false taken = taken ≡ None

abbrev pub TellsItsSlot : Loan → Type 0
TellsItsSlot loan = IsTold loan.was_full loan.taken

-- Each full slot that was taken is out or was put since; what was put into the queue of full slots and on the shelf is
-- what the events say.
pub record Account (full : Moves FullView) (shelf : Moves ShelvedView) (t : TallyView) : Type 0 where
  pub put : full.put ≡ flat_map full_of t.events
  pub shelf_put : shelf.put ≡ flat_map shelf_of t.events
  pub shelf_taken : shelf.taken ≡ []
  pub taken : IsPermutation full.taken (flat_map taken_of t.events ++ flat_map told_of t.out)
  pub events_true : AllByRecursion IsTrue t.events
  pub out_told : AllByRecursion TellsItsSlot t.out

-- the three queues have the same parts
pub record AreEven {D : Type 0} (l : Lanes D) : Type 0 where
  pub free : l.free.parts ≡ l.full.parts
  pub shelf : l.shelf.parts ≡ l.full.parts
  pub some_part : 0 < l.full.parts

pub record IsSound {D : Type 0} (l : Lanes D) (t : TallyView) : Type 0 where
  pub even : AreEven l
  pub account : Account l.full l.shelf t
  pub kept : AreKept l.free l.full l.shelf t.out

-- ---- cutting and joining

abbrev pub one_less : {D : Type 0} → Lanes D → Lanes D
one_less l = record { free = less_one l.free; full = less_one l.full; shelf = less_one l.shelf }

abbrev pub one_off : {D : Type 0} → Lanes D → Lanes D
one_off l = record { free = split_off l.free; full = split_off l.full; shelf = split_off l.shelf }

abbrev pub all_met : {D : Type 0} → Lanes D → Lanes D → Lanes D
all_met l other = record { free = met l.free other.free; full = met l.full other.full; shelf = met l.shelf other.shelf }

-- ---- passes and seats

abbrev pub IsSoundUnless : {D : Type 0} → Bool → Lanes D → TallyView → Type 0
IsSoundUnless true l t = Unit {0}
IsSoundUnless false l t = IsSound l t

-- how often a take gave no free slot, and how often none that is full, is what the passes of its queues counted
abbrev pub pass_of : {D : Type 0} → Bool → Lanes D → TallyView → ℕ → PassView
pass_of is_closed l t broken = record { handed = handed_by is_closed l t.events; no_free = l.free.misses; no_full = l.full.misses; broken = broken }

abbrev pub seat_of : {D : Type 0} → Lanes D → TallyView → ℕ → SeatView
seat_of l t broken = record {
  pass = pass_of false l t broken;
  out = t.out;
  free = l.free;
  full = l.full;
}
