-- What is found of a slot's disk.
use Rattle.std.specs.Prelude.{◌≡◌, ◌==◌, ℕ, Option, Some, None, Result, Ok, Err, if◌then◌else◌}
use Rattle.fw_outside.specs.Counts.{Rose}
use Rattle.fw_disk.specs.DiskView.{DiskView, HasSynced}
use Rattle.fw_disk.specs.Moments.{Now}
use Rattle.slot_bytes.specs.Layout.{Mail}
use Rattle.slot_bytes.specs.Reading.{Reading}
use Rattle.slot_bytes.specs.Reading.{Reading as readings}
use Rattle.spool_slots.specs.Media.{IsSettled, IsFull, IsAside}
use Rattle.spool_slots.specs.declared.opening.Found.{Found}
use Rattle.spool_slots.specs.declared.opening.Found.TheVariants.{Free, Full, Aside}
use Rattle.spool_slots.specs.declared.slot_why.SlotWhy.{SlotWhy}
use Rattle.spool_slots.specs.declared.slot_why.SlotWhy.TheVariants.{BadSlot, DiskFault, NoMemory}

-- the bytes are read as what was found
abbrev pub IsFoundIn : Result Found SlotWhy → Reading → Type 0
IsFoundIn (Ok Free) reading = reading ≡ readings.Free
IsFoundIn (Ok Full) reading = (m : Mail) × (reading ≡ readings.Whole m)
IsFoundIn (Ok Aside) reading = (m : Mail) × (reading ≡ readings.Aside m)
IsFoundIn (Err (BadSlot at)) reading = reading ≡ readings.Bad at
IsFoundIn (Err DiskFault) reading = Unit {0}
IsFoundIn (Err NoMemory) reading = Unit {0}

-- a disk fault is counted, and nothing else is
abbrev pub Counts : SlotWhy → DiskView → DiskView → Type 0
Counts (BadSlot at) old new = new.faults ≡ old.faults
Counts DiskFault old new = Rose old.faults new.faults
Counts NoMemory old new = new.faults ≡ old.faults

abbrev pub IsNotBad : SlotWhy → Type 0
IsNotBad (BadSlot at) = ⊥
IsNotBad DiskFault = Unit {0}
IsNotBad NoMemory = Unit {0}

-- the disk is synced, and its bytes are read as what was found; a fault, or want of memory, says nothing
abbrev pub IsSettledAs : Result Found SlotWhy → DiskView → Type 0
IsSettledAs (Ok Free) view = Now (IsSettled readings.Free) view
IsSettledAs (Ok Full) view = Now IsFull view
IsSettledAs (Ok Aside) view = Now IsAside view
IsSettledAs (Err (BadSlot at)) view = Now (IsSettled (readings.Bad at)) view
IsSettledAs (Err DiskFault) view = Unit {0}
IsSettledAs (Err NoMemory) view = Unit {0}

-- bytes that are no slot file
abbrev pub IsBadSlot : SlotWhy → Type 0
IsBadSlot (BadSlot at) = Unit {0}
IsBadSlot DiskFault = ⊥
IsBadSlot NoMemory = ⊥

abbrev pub IsBad : Result Found SlotWhy → Type 0
IsBad (Ok found) = ⊥
IsBad (Err why) = IsBadSlot why

-- the disk was synced, and nothing else was done to it; a fault says nothing
abbrev pub IsSyncedBut : SlotWhy → DiskView → DiskView → Type 0
IsSyncedBut (BadSlot at) old new = HasSynced old new
IsSyncedBut DiskFault old new = Unit {0}
IsSyncedBut NoMemory old new = HasSynced old new

abbrev pub IsSyncedFor : Result Found SlotWhy → DiskView → DiskView → Type 0
IsSyncedFor (Ok found) old new = HasSynced old new
IsSyncedFor (Err why) old new = IsSyncedBut why old new

-- what is found of a message by its mark, where its file ends early or doesn't
abbrev pub found_of : ℕ → Option ℕ → Result Found SlotWhy
found_of aside None = if aside == 0 then Ok Full else Ok Aside
found_of aside (Some end) = Err (BadSlot end)

-- a disk fault is counted, and nothing else is
abbrev pub CountsIn : Result Found SlotWhy → DiskView → DiskView → Type 0
CountsIn (Ok found) old new = new.faults ≡ old.faults
CountsIn (Err why) old new = Counts why old new
