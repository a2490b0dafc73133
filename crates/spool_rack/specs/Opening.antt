-- What opening a rack answers, and what closing one gives back.
use Rattle.std.specs.Prelude.{◌≡◌, ℕ, zero, suc, ◌+◌, List, [], ◌∷◌, ◌++◌, map, Some, None, ◌⊎◌}
use Rattle.std.specs.List.Sorted.{IsPermutation, IsNonDecreasingBy}
use Rattle.fw_disk.specs.DiskView.{Tape, DiskView}
use Rattle.fw_disk.specs.Moments.{EachImage}
use Rattle.spool_law.specs.Runs.{Known, Runs}
use Rattle.spool_slots.specs.Images.{IsGoodImage}
use Rattle.spool_slots.specs.Found.{IsBadSlot}
use Rattle.spool_slots.specs.declared.opening.Opened.{Opened}
use Rattle.spool_slots.specs.declared.opening.Opened.TheVariants.{Free, Full, Aside}
use Rattle.spool_slots.specs.declared.slot_why.SlotWhy.{SlotWhy}
use Rattle.spool_slots.specs.declared.slot_why.SlotWhy.TheVariants.{NoMemory}
use Rattle.spool_slots.specs.States.{SlotView, FullView, BrokenView, IsOnward}
use Rattle.spool_slots.specs.Opened.{IsReadAs, IsBecause, disk_of, number_of}
use Rattle.spool_rack.specs.Store.{Loan, Queues, StoreView}

-- ---- opening

-- what was done to a disk is events of the spool, which leave what its slot is used for
abbrev pub RunsOn : DiskView → DiskView → Type 0
RunsOn old new = (k : Known) → Runs k old k new

-- the slot of this number that stands on a disk
pub record IsSlotOf (D : Type 0) (n : ℕ) (disk : DiskView) (slot : Opened D) : Type 0 where
  pub onward : IsOnward n disk (number_of slot) (disk_of slot)
  pub read : IsReadAs slot
  pub events : RunsOn disk (disk_of slot)

-- the slots that stand on these disks, numbered in their order from a number on
abbrev pub AreSlotsOf : (D : Type 0) → ℕ → List DiskView → List (Opened D) → Type 0
AreSlotsOf D n [] [] = Unit {0}
AreSlotsOf D n (disk ∷ disks) (slot ∷ slots) = IsSlotOf D n disk slot × AreSlotsOf D (n + 1) disks slots
AreSlotsOf D n _ _ = ⊥

-- each in the queue for what it is read as
abbrev pub with_slot : {D : Type 0} → Opened D → Queues → Queues
with_slot (Free slot) q = record q { free = slot ∷ q.free }
with_slot (Full slot) q = record q { full = slot ∷ q.full }
with_slot (Aside slot) q = record q { aside = slot ∷ q.aside }

abbrev pub queues_of : {D : Type 0} → List (Opened D) → Queues
queues_of [] = record { free = []; full = []; aside = []; broken = [] }
queues_of (slot ∷ slots) = with_slot slot (queues_of slots)

-- a rack with these queues, of which no slot is out
abbrev pub store_of : List SlotView → List FullView → List SlotView → List BrokenView → List Loan → StoreView
store_of free full aside broken out = record {
  queues = Some (record { free = free; full = full; aside = aside; broken = broken });
  handed = None;
  out = out;
  no_free = 0;
  no_full = 0;
  broken = 0;
}

-- A rack of the slots that stand on these disks, in order of their numbers, which are the disks' places.
pub record IsRackOf (D : Type 0) (disks : List DiskView) (rack : StoreView) : Type 0 where
  pub slots : List (Opened D)
  pub are : AreSlotsOf D 0 disks slots
  pub is : rack ≡ store_of (queues_of slots).free (queues_of slots).full (queues_of slots).aside [] []

-- the slot on a disk wasn't opened, for this cause, which is never bad bytes if every image of the disk was good
pub record HasBroken (why : SlotWhy) (old new : DiskView) : Type 0 where
  pub slot : BrokenView
  pub because : IsBecause why old slot
  pub events : RunsOn old slot.disk
  pub good : (tape : Tape) → old.told ≡ Some tape → EachImage IsGoodImage tape.now → IsBadSlot why → ⊥
  pub disk : new ≡ slot.disk

-- the slot of this number that stands on a disk was opened, and the disk came back
pub record WasOpened (D : Type 0) (n : ℕ) (old new : DiskView) : Type 0 where
  pub slot : Opened D
  pub is : IsSlotOf D n old slot
  pub disk : new ≡ disk_of slot

-- The slots on so many disks, numbered in their order from a number on, were opened; the next wasn't, for this cause; the
-- disks behind it weren't called.
abbrev pub CameBack : (D : Type 0) → ℕ → ℕ → SlotWhy → List DiskView → List DiskView → Type 0
CameBack D n zero why (old ∷ olds) (new ∷ news) = HasBroken why old new × (news ≡ olds)
CameBack D n (suc k) why (old ∷ olds) (new ∷ news) = WasOpened D n old new × CameBack D (n + 1) k why olds news
CameBack D n k why _ _ = ⊥

-- want of memory before any call; or a slot that wasn't opened
abbrev pub IsRackFault : (D : Type 0) → List DiskView → ℕ → SlotWhy → List DiskView → Type 0
IsRackFault D disks slot why back = ((back ≡ disks) × (why ≡ NoMemory)) ⊎ CameBack D 0 slot why disks back

-- ---- closing

-- a slot's number and its disk
pub record HeldView : Type 0 where
  pub number : ℕ
  pub disk : DiskView

abbrev pub held_slot : SlotView → HeldView
held_slot slot = record { number = slot.number; disk = slot.disk }

abbrev pub held_full : FullView → HeldView
held_full slot = record { number = slot.number; disk = slot.disk }

abbrev pub held_broken : BrokenView → HeldView
held_broken slot = record { number = slot.number; disk = slot.disk }

abbrev pub all_of : Queues → List HeldView
all_of q = map held_slot q.free ++ map held_full q.full ++ map held_slot q.aside ++ map held_broken q.broken

-- the disks of all slots in order of their numbers
pub record AreInOrder (q : Queues) (disks : List DiskView) : Type 0 where
  pub slots : List HeldView
  pub same : IsPermutation (all_of q) slots
  pub rise : IsNonDecreasingBy (λ slot. slot.number) slots
  pub are : disks ≡ map (λ slot. slot.disk) slots
