-- What a disk holds between two syncs, and which bytes a crash may leave of it. All of it is plain data, in bytes.
use Rattle.std.specs.Prelude.{◌≡◌, ℕ, ◌+◌, ◌<◌, ◌≤◌, Bool, false, ◌&&◌, nat_le, nat_lt, min, max, List, [], ◌∷◌, ◌++◌, length, take, drop, get_or}
use Rattle.std.specs.List.{list_any}

-- the bytes as a read gives them; the bytes of the last sync; the ranges written since, each as its place and its
-- length; the least and the greatest length since
pub record Medium : Type 0 where
  pub seen : List ℕ
  pub synced : List ℕ
  pub written : List (ℕ × ℕ)
  pub least : ℕ
  pub greatest : ℕ

-- ---- what a crash may leave

-- whether a place is in a range
abbrev pub is_within : ℕ → ℕ × ℕ → Bool
is_within place range = nat_le range.0 place && nat_lt place (range.0 + range.1)

-- whether a place was written since the sync
abbrev pub is_written : Medium → ℕ → Bool
is_written m place = list_any (is_within place) m.written

-- A crash now may leave these bytes: as many as the file had at some time since the sync or a number between, and those
-- below all these lengths that weren't written since are the synced ones. All others are any.
pub record IsImage (m : Medium) (image : List ℕ) : Type 0 where
  pub bytes : (place : ℕ) → get_or image place 0 < 256
  pub no_shorter : m.least ≤ length image
  pub no_longer : length image ≤ m.greatest
  pub kept : (place : ℕ) → place < m.least → is_written m place ≡ false → get_or image place 0 ≡ get_or m.synced place 0

-- ---- what calls do

-- these bytes laid over others from a place on
abbrev pub laid_over : ℕ → List ℕ → List ℕ → List ℕ
laid_over at bytes old = take at old ++ (bytes ++ drop (at + length bytes) old)

-- after a write of these bytes at a place
abbrev pub written_at : ℕ → List ℕ → Medium → Medium
written_at at bytes m = record {
  seen = laid_over at bytes m.seen;
  synced = m.synced;
  written = m.written ++ (at, length bytes) ∷ [];
  least = m.least;
  greatest = max m.greatest (at + length bytes);
}

-- after a cut at a length
abbrev pub cut_at : ℕ → Medium → Medium
cut_at len m = record {
  seen = take len m.seen;
  synced = m.synced;
  written = m.written;
  least = min m.least len;
  greatest = m.greatest;
}

-- of bytes that are all synced
abbrev pub settled : List ℕ → Medium
settled bytes = record { seen = bytes; synced = bytes; written = []; least = length bytes; greatest = length bytes }

-- after a sync
abbrev pub synced_now : Medium → Medium
synced_now m = settled m.seen
