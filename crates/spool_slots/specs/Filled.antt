-- More of a message on a disk.
use Rattle.std.specs.Prelude.{◌≡◌, ℕ, ◌+◌, List, [], length, option_map}
use Rattle.std.specs.Int.{w64, to_be_bytes}
use Rattle.fw_disk.specs.Medium.{written_at}
use Rattle.fw_disk.specs.DiskView.{DiskView, HasSynced, changed}
use Rattle.fw_disk.specs.Moments.{Now, Through}
use Rattle.slot_bytes.specs.Layout.{Mail}
use Rattle.spool_slots.specs.Media.{IsShut, Pen, IsDraft, IsFilling, longer}

-- a piece was added to every message that was being written, behind a gate that stays closed
pub record HasAdded (piece : List ℕ) (pen : Pen) (old : DiskView) (pen' : Pen) (new : DiskView) : Type 0 where
  pub faults : new.faults ≡ old.faults
  pub moments : Through IsShut old new
  pub filling : Now (IsFilling pen') new
  pub len : pen'.len ≡ pen.len + length piece
  pub drafts : (m : Mail) → Now (IsDraft m pen) old → Now (IsDraft (longer m piece) pen') new

-- a body's length was written at its place, and then all was synced
pub record HasLaid (len : ℕ) (old new : DiskView) : Type 0 where
  pub middle : DiskView
  pub wrote : middle ≡ record old { told = option_map (changed (written_at 6 (to_be_bytes w64 len))) old.told }
  pub syncs : HasSynced middle new
