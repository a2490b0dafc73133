-- A disk in memory, and what a crash leaves of it.
use Rattle.std.specs.Prelude.{◌≡◌, ℕ, zero, suc, ◌+◌, ◌-◌, ◌/◌, ◌%◌, ◌==◌, nat_lt, Bool, not, ◌&&◌, List, [], ◌∷◌, length, get_or, Some, if◌then◌else◌}
use Rattle.fw_outside.specs.Counts.{counted}
use Rattle.fw_disk.specs.Medium.{Medium, is_written}
use Rattle.fw_disk.specs.DiskView.{Tape, DiskView}
use Rattle.fw_memory.specs.CallsView.{CallsView}

-- the media, the calls that fail, how many calls there were, and the count of failures
pub record MemDiskView : Type 0 where
  pub tape : Tape
  pub fails : CallsView
  pub calls : ℕ
  pub faults : ℕ

-- it tells all
abbrev pub disk_view_of : MemDiskView → DiskView
disk_view_of d = record { told = Some d.tape; faults = d.faults }

-- one more call was made
pub record CountsCall (old new : MemDiskView) : Type 0 where
  pub fails : new.fails ≡ old.fails
  pub calls : new.calls ≡ counted old.calls

-- ---- the image that a number picks

-- A number is a mode, its remainder by 4, and its rest, its quotient by 4: so each mode comes with each rest.

-- 0 picks the bytes as read, and the rest of each other number one of the lengths that an image may have
abbrev pub picked_len : Medium → ℕ → ℕ
picked_len m pick = if pick == 0 then length m.seen else m.least + pick / 4 % (m.greatest - m.least + 1)

-- whether a crash keeps the synced byte at a place
abbrev pub is_kept : Medium → ℕ → Bool
is_kept m place = nat_lt place m.least && not (is_written m place)

-- as read below a place and synced from there on, 0 where there is none
abbrev pub torn_byte : Medium → ℕ → ℕ → ℕ
torn_byte m first place = if nat_lt place first then get_or m.seen place 0 else get_or m.synced place 0

-- a byte that a crash needn't keep: by the mode the one as read, the synced one (0 where there is none), torn at the
-- place that the rest names, or the one that the rest and the place count
abbrev pub loose_byte : Medium → ℕ → ℕ → ℕ
loose_byte m pick place =
    if pick % 4 == 0 then get_or m.seen place 0
    else if pick % 4 == 1 then get_or m.synced place 0
    else if pick % 4 == 2 then torn_byte m (pick / 4) place
    else (pick / 4 + place) % 256

abbrev pub picked_byte : Medium → ℕ → ℕ → ℕ
picked_byte m pick place = if is_kept m place then get_or m.synced place 0 else loose_byte m pick place

-- so many bytes, from a place on
abbrev pub picked_from : Medium → ℕ → ℕ → ℕ → List ℕ
picked_from m pick place zero = []
picked_from m pick place (suc n) = picked_byte m pick place ∷ picked_from m pick (place + 1) n

abbrev pub picked : Medium → ℕ → List ℕ
picked m pick = picked_from m pick 0 (picked_len m pick)
