-- The slots of the disks, by their places.
use Rattle.std.specs.Prelude.{◌≡◌, ℕ, zero, suc, List, [], ◌∷◌, length, ◌⊎◌}
use Rattle.std.specs.List.{AllByRecursion}
use Rattle.fw_disk.specs.DiskView.{DiskView}
use Rattle.fw_disk.specs.Moments.{Now}
use Rattle.session_acts.specs.Stored.{KeptMail}
use Rattle.slot_bytes.specs.Layout.{Mail}
use Rattle.slot_bytes.specs.Reading.Reading.{Whole}
use Rattle.spool_rack.specs.Opening.{AreSlotsOf, CameBack, IsRackFault}
use Rattle.spool_slots.specs.Media.{IsSettled}
use Rattle.spool_slots.specs.declared.opening.Opened.{Opened}
use Rattle.spool_slots.specs.declared.opening.Opened.TheVariants.{Free, Full, Aside}
use Rattle.spool_slots.specs.declared.slot_why.SlotWhy.{SlotWhy}
use Rattle.spool_slots.specs.declared.slot_why.SlotWhy.TheVariants.{BadSlot}

-- this holds of the disk at a place
abbrev pub AtPlace : (DiskView → Type 0) → ℕ → List DiskView → Type 0
AtPlace P zero (disk ∷ disks) = P disk
AtPlace P (suc place) (disk ∷ disks) = AtPlace P place disks
AtPlace P place [] = ⊥

-- the message stands on the disk whole, where that tells: its bytes are synced, so every image is these, and read so
abbrev pub HasMail : Mail → DiskView → Type 0
HasMail mail disk = Now (IsSettled (Whole mail)) disk

-- each of these messages stands on the disk at the place of its number
abbrev pub StandAtPlaces : List KeptMail → List DiskView → Type 0
StandAtPlaces mails disks = AllByRecursion (λ one. AtPlace (HasMail one.mail) one.number disks) mails

-- the disk of a slot that was opened with a message is, at the place of its number, as the opening left it; nothing is said of
-- one that was free
abbrev pub StaysAt : List DiskView → Opened (Unit {0}) → Type 0
StaysAt disks (Free slot) = Unit {0}
StaysAt disks (Full slot) = AtPlace (λ disk. disk ≡ slot.disk) slot.number disks
StaysAt disks (Aside slot) = AtPlace (λ disk. disk ≡ slot.disk) slot.number disks

abbrev pub StayAsOpened : List (Opened (Unit {0})) → List DiskView → Type 0
StayAsOpened slots disks = AllByRecursion (StaysAt disks) slots

-- the slots of all disks were opened
pub record AreOpened (disks : List DiskView) : Type 0 where
  pub slots : List (Opened (Unit {0}))
  pub opened : AreSlotsOf (Unit {0}) 0 disks slots

-- so they were, those with a message stayed so, and as many disks are there
pub record StaysBehind (old new : List DiskView) : Type 0 where
  pub slots : List (Opened (Unit {0}))
  pub opened : AreSlotsOf (Unit {0}) 0 old slots
  pub stay : StayAsOpened slots new
  pub many : length new ≡ length old

-- or they weren't all opened, and no disk was called but to open its slot
pub record IsUnopened (old new : List DiskView) : Type 0 where
  pub slot : ℕ
  pub why : SlotWhy
  pub fault : IsRackFault (Unit {0}) old slot why new

-- the slot at a place has no reading, and on each disk before it stands the slot of its place
pub record HasBadSlot (slot at : ℕ) (old new : List DiskView) : Type 0 where
  pub came : CameBack (Unit {0}) 0 slot (BadSlot at) old new

-- the disk of a slot that was opened set aside is, at the place of its number, as the opening left it
abbrev pub StaysAside : List DiskView → Opened (Unit {0}) → Type 0
StaysAside disks (Free slot) = Unit {0}
StaysAside disks (Full slot) = Unit {0}
StaysAside disks (Aside slot) = AtPlace (λ disk. disk ≡ slot.disk) slot.number disks

-- the slots of all disks were opened, those that were set aside stayed so, and as many disks are there
pub record StaysAsideBehind (old new : List DiskView) : Type 0 where
  pub slots : List (Opened (Unit {0}))
  pub opened : AreSlotsOf (Unit {0}) 0 old slots
  pub stay : AllByRecursion (StaysAside new) slots
  pub many : length new ≡ length old

-- what a round over the slots leaves, if there is one
abbrev pub LeavesAside : List DiskView → List DiskView → Type 0
LeavesAside old new = IsUnopened old new ⊎ StaysAsideBehind old new

-- what a session over the slots leaves, if there is one
abbrev pub LeavesSlots : List DiskView → List DiskView → Type 0
LeavesSlots old new = (new ≡ old) ⊎ (IsUnopened old new ⊎ StaysBehind old new)
