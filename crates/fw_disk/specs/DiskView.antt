-- What a disk means, and what its calls do to that.
use Rattle.std.specs.Prelude.{◌≡◌, ℕ, ◌≤◌, min, ◌-◌, List, [], ◌∷◌, length, take, drop, Option, Some, None, IfSome, option_map, Result, Ok, Err, ◌⊎◌}
use Rattle.fw_outside.specs.declared.failed.Failed.{Failed}
use Rattle.fw_outside.specs.Counts.{Rose}
use Rattle.fw_disk.specs.Medium.{Medium, IsImage, synced_now, written_at}

-- the medium now, and what it was before, the latest first
pub record Tape : Type 0 where
  pub now : Medium
  pub past : List Medium

-- the media, where the disk tells; how often it failed
pub record DiskView : Type 0 where
  pub told : Option Tape
  pub faults : ℕ

-- the length of the file, where it is told
abbrev pub length_told : DiskView → Option ℕ
length_told v = option_map (λ (tape : Tape). length tape.now.seen) v.told

-- a further moment, at which this is the medium
abbrev pub onward : Medium → Tape → Tape
onward m tape = record { now = m; past = tape.now ∷ tape.past }

-- ---- reading

-- so many bytes were read into the front of a buffer of this length: those that stand from a place on
pub record IsFront (n at room : ℕ) (front seen : List ℕ) : Type 0 where
  pub count : n ≡ min room (length seen - at)
  pub bytes : take n front ≡ take n (drop at seen)

pub record HasRead (n at room : ℕ) (buf : List ℕ) (old new : DiskView) : Type 0 where
  pub fits : n ≤ room
  pub told : IfSome old.told (λ tape. IsFront n at room buf tape.now.seen)
  pub is : new ≡ old

-- the disk failed and did nothing, which is counted
pub record HasFailed (old new : DiskView) : Type 0 where
  pub count : ℕ
  pub rose : Rose old.faults count
  pub is : new ≡ record old { faults = count }

-- what a read at a place answers and leaves, into a buffer with this room
abbrev pub Reads : Result ℕ Failed → ℕ → ℕ → List ℕ → DiskView → DiskView → Type 0
Reads (Ok n) at room buf old new = HasRead n at room buf old new
Reads (Err _) at room buf old new = HasFailed old new

-- ---- changing

-- the medium is changed, and its bytes as read are this image of it
pub record IsPart (change : Medium → Medium) (image : List ℕ) (old new : Tape) : Type 0 where
  pub image_of : IsImage (change old.now) image
  pub is : new ≡ onward (record (change old.now) { seen = image }) old

-- the medium is what it was, or it is changed and its bytes as read are any image of that
abbrev pub IsTorn : (Medium → Medium) → Tape → Tape → Type 0
IsTorn change old new = (new ≡ old) ⊎ ((image : List ℕ) × IsPart change image old new)

-- the same where it is told; a disk that tells goes on, and no other begins
abbrev pub IsToldTorn : (Medium → Medium) → Option Tape → Option Tape → Type 0
IsToldTorn change None None = Unit {0}
IsToldTorn change (Some old) (Some new) = IsTorn change old new
IsToldTorn change _ _ = ⊥

-- the disk failed within a change, which is counted
pub record Tears (change : Medium → Medium) (old new : DiskView) : Type 0 where
  pub told : Option Tape
  pub count : ℕ
  pub torn : IsToldTorn change old.told told
  pub rose : Rose old.faults count
  pub is : new ≡ record { told = told; faults = count }

-- the tape after a change
abbrev pub changed : (Medium → Medium) → Tape → Tape
changed change tape = onward (change tape.now) tape

-- what a change answers and leaves
abbrev pub Changes : Result (Unit {0}) Failed → (Medium → Medium) → DiskView → DiskView → Type 0
Changes (Ok _) change old new = new ≡ record old { told = option_map (changed change) old.told }
Changes (Err _) change old new = Tears change old new

-- ---- syncing

-- everything is synced; the bytes as read were an image, which is now the only one
pub record HasSynced (old new : DiskView) : Type 0 where
  pub sound : IfSome old.told (λ tape. IsImage tape.now tape.now.seen)
  pub is : new ≡ record old { told = option_map (changed synced_now) old.told }

-- what a sync answers and leaves
abbrev pub Syncs : Result (Unit {0}) Failed → DiskView → DiskView → Type 0
Syncs (Ok _) old new = HasSynced old new
Syncs (Err _) old new = HasFailed old new

-- ---- doubting

-- what counting a failure leaves
abbrev pub Doubts : DiskView → DiskView → Type 0
Doubts old new = HasFailed old new

-- ---- setting a byte

-- a byte was written at a place, and then all was synced
pub record HasSetByte (at byte : ℕ) (old new : DiskView) : Type 0 where
  pub middle : DiskView
  pub wrote : middle ≡ record old { told = option_map (changed (written_at at (byte ∷ []))) old.told }
  pub syncs : HasSynced middle new

-- a byte was written at a place, and then the disk failed to sync
pub record HasUnsyncedByte (at byte : ℕ) (old new : DiskView) : Type 0 where
  pub middle : DiskView
  pub wrote : middle ≡ record old { told = option_map (changed (written_at at (byte ∷ []))) old.told }
  pub fails : HasFailed middle new

-- the write of a byte failed, or the sync after it
abbrev pub FailsToSet : ℕ → ℕ → DiskView → DiskView → Type 0
FailsToSet at byte old new = Tears (written_at at (byte ∷ [])) old new ⊎ HasUnsyncedByte at byte old new
