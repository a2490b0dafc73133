-- What opening a slot answers.
use Rattle.std.specs.Prelude.{◌≡◌, ℕ, true, false}
use Rattle.fw_outside.specs.Counts.{Rose}
use Rattle.fw_disk.specs.DiskView.{DiskView}
use Rattle.fw_disk.specs.Moments.{Now}
use Rattle.slot_bytes.specs.Reading.{Reading as readings}
use Rattle.spool_slots.specs.declared.opening.Opened.{Opened}
use Rattle.spool_slots.specs.declared.opening.Opened.TheVariants as opened
use Rattle.spool_slots.specs.declared.slot_why.SlotWhy.{SlotWhy}
use Rattle.spool_slots.specs.declared.slot_why.SlotWhy.TheVariants.{BadSlot, DiskFault, NoMemory}
use Rattle.spool_slots.specs.Media.{IsSettled, IsFull, IsAside}
use Rattle.spool_slots.specs.States.{BrokenView}

-- the number of what was opened, and its disk
abbrev pub number_of : {D : Type 0} → Opened D → ℕ
number_of (opened.Free slot) = slot.number
number_of (opened.Full slot) = slot.number
number_of (opened.Aside slot) = slot.number

abbrev pub disk_of : {D : Type 0} → Opened D → DiskView
disk_of (opened.Free slot) = slot.disk
disk_of (opened.Full slot) = slot.disk
disk_of (opened.Aside slot) = slot.disk

-- the disk is synced, and what stands there is read so
abbrev pub IsReadAs : {D : Type 0} → Opened D → Type 0
IsReadAs (opened.Free slot) = Now (IsSettled readings.Free) slot.disk
IsReadAs (opened.Full slot) = Now IsFull slot.disk × (slot.unread ≡ false)
IsReadAs (opened.Aside slot) = Now IsAside slot.disk

-- why it wasn't opened: bad bytes from exactly that place on; a failure, which was counted in this call; or no memory
abbrev pub IsBecause : SlotWhy → DiskView → BrokenView → Type 0
IsBecause (BadSlot at) old slot = Now (IsSettled (readings.Bad at)) slot.disk × (slot.disk.faults ≡ old.faults) × (slot.from_fault ≡ false)
IsBecause DiskFault old slot = Rose old.faults slot.disk.faults × (slot.from_fault ≡ true)
IsBecause NoMemory old slot = (slot.disk.faults ≡ old.faults) × (slot.from_fault ≡ false)
