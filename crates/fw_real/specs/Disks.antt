-- A file as a disk.
use Rattle.std.specs.Prelude.{ℕ, Bool, true, false, ◌||◌, Option, Some, None, Result, Ok, Err}
use Rattle.fw_disk.specs.DiskView.{DiskView}

-- a disk that tells nothing
abbrev pub untold_disk : ℕ → DiskView
untold_disk faults = record { told = None; faults = faults }

abbrev pub is_open : {F : Type 0} → Option F → Bool
is_open None = false
is_open (Some _) = true

-- whether the disk is lost after a call that answered so: it is once such a call of its open file failed
abbrev pub is_lost_after : {F E : Type 0} → Bool → Option F → Result (Unit {0}) E → Bool
is_lost_after lost file (Ok _) = lost
is_lost_after lost file (Err _) = is_open file || lost
