-- What reading a message costs.
use Rattle.std.specs.Prelude.{◌≡◌, ℕ, ◌+◌, ◌≤◌, true, List, length, take, drop}
use Rattle.fw_outside.specs.Counts.{Rose}
use Rattle.fw_disk.specs.DiskView.{DiskView}
use Rattle.slot_bytes.specs.declared.head.Head as code
use Rattle.spool_slots.specs.declared.read_back.ReadBack.{ReadBack}
use Rattle.spool_slots.specs.declared.read_back.ReadBack.TheVariants.{DiskFault, NoMemory}
use Rattle.spool_slots.specs.States.{FullView}

-- a disk fault is counted, and want of memory isn't
abbrev pub Costs : ReadBack → DiskView → DiskView → Type 0
Costs DiskFault old new = Rose old.faults new.faults
Costs NoMemory old new = new.faults ≡ old.faults

-- a disk fault leaves the slot unread; want of memory leaves it as it was
abbrev pub Leaves : ReadBack → FullView → FullView → Type 0
Leaves DiskFault old new = Rose old.disk.faults new.disk.faults × (new.unread ≡ true)
Leaves NoMemory old new = (new.disk.faults ≡ old.disk.faults) × (new.unread ≡ old.unread)

-- the body behind a head, which is all there
pub record IsBodyAt (head : code.Head) (place : ℕ) (body bytes : List ℕ) : Type 0 where
  pub there : place + head.len ≤ length bytes
  pub is : body ≡ take head.len (drop place bytes)
