-- The states of a slot.
use Rattle.std.specs.Prelude.{◌≡◌, ℕ, ◌+◌, ◌≤◌, Bool, true, false, List, [], ◌∷◌, length, ◌⊎◌}
use Rattle.fw_outside.specs.Counts.{Rose}
use Rattle.fw_disk.specs.Medium.{Medium, settled}
use Rattle.fw_disk.specs.DiskView.{DiskView}
use Rattle.fw_disk.specs.Moments.{Now, Through, EachImage}
use Rattle.slot_bytes.specs.Layout.{Mail}
use Rattle.slot_bytes.specs.Reading.Reading.{Free, Whole, Aside}
use Rattle.spool_law.specs.Images.{IsReady}
use Rattle.spool_slots.specs.Images.{IsFreeImage, IsFreeOrWhole}
use Rattle.spool_slots.specs.Media.{Pen, IsDraft, IsSettled}

-- a slot by its number, and its disk
pub record SlotView : Type 0 where
  pub number : ℕ
  pub disk : DiskView

-- a slot that is being filled, and how far
pub record FillingView : Type 0 where
  pub number : ℕ
  pub disk : DiskView
  pub pen : Pen

-- a slot with a message, and whether its disk failed when it was read
pub record FullView : Type 0 where
  pub number : ℕ
  pub disk : DiskView
  pub unread : Bool

-- a broken slot, whether it came from a `Full`, and whether its disk failed
pub record BrokenView : Type 0 where
  pub number : ℕ
  pub disk : DiskView
  pub from_full : Bool
  pub from_fault : Bool

-- ---- messages, where the disk tells what it holds

-- this is the message that is being written
abbrev pub Drafts : Mail → FillingView → Type 0
Drafts m slot = Now (IsDraft m slot.pen) slot.disk

-- this is the message in the slot
abbrev pub Keeps : Mail → FullView → Type 0
Keeps m slot = Now (IsSettled (Whole m)) slot.disk

-- this is the message in the slot, set aside
abbrev pub KeepsAside : Mail → SlotView → Type 0
KeepsAside m slot = Now (IsSettled (Aside m)) slot.disk

-- ---- refusals

-- a slot that didn't come from a `Full`, and whose disk failed in this call
pub record IsBrokenIn (number : ℕ) (old : DiskView) (slot : BrokenView) : Type 0 where
  pub number_is : slot.number ≡ number
  pub rose : Rose old.faults slot.disk.faults
  pub empty : slot.from_full ≡ false
  pub fault : slot.from_fault ≡ true

-- a slot that came from a `Full`, and whose disk failed in this call
pub record IsBrokenFull (number : ℕ) (old : DiskView) (slot : BrokenView) : Type 0 where
  pub number_is : slot.number ≡ number
  pub rose : Rose old.faults slot.disk.faults
  pub full : slot.from_full ≡ true
  pub fault : slot.from_fault ≡ true

-- ---- answers

-- a disk that tells its media goes on telling them, and no other begins to
abbrev pub StillTells : DiskView → DiskView → Type 0
StillTells old new = Through (λ m. Unit {0}) old new

-- two zeros, which are synced
pub record HasCleared (old new : DiskView) : Type 0 where
  pub faults : new.faults ≡ old.faults
  pub bytes : Now (λ m. m ≡ settled (0 ∷ 0 ∷ [])) new

-- a slot that was formatted without a failure
pub record IsFormatted (number : ℕ) (old : DiskView) (slot : SlotView) : Type 0 where
  pub number_is : slot.number ≡ number
  pub cleared : HasCleared old slot.disk

-- the disk didn't fail, and the slot keeps its number
pub record IsOnward (number : ℕ) (old : DiskView) (to : ℕ) (new : DiskView) : Type 0 where
  pub number_is : to ≡ number
  pub faults : new.faults ≡ old.faults

-- So long as the gate isn't written, each image is free; then each would be this message if its gate were open; and from
-- then on each is free or the message.
pub record Opens (m : Mail) (old new : DiskView) : Type 0 where
  pub middle : DiskView
  pub before : Through (EachImage IsFreeImage) old middle
  pub ready : Now (EachImage (IsReady m)) middle
  pub after : Through (EachImage (IsFreeOrWhole m)) middle new

-- the gate wasn't written yet, or it was, but not before every image was ready
abbrev pub OpensOrNot : Mail → DiskView → DiskView → Type 0
OpensOrNot m old new = Through (EachImage IsFreeImage) old new ⊎ Opens m old new
