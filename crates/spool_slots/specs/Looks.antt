-- What a front of a slot's file shows of the whole file.
use Rattle.std.specs.Prelude.{◌≡◌, ℕ, nat_eq, ◌<◌, ◌≤◌, Bool, true, false, List, [], ◌∷◌, ◌++◌, length, drop, Ok, Option, Some, None}
use Rattle.slot_bytes.specs.declared.head.Head as code
use Rattle.slot_bytes.specs.HeadView.{head_view}
use Rattle.slot_bytes.specs.Reading.{reads, head_at, whole_at, kept_or_bad}
use Rattle.slot_bytes.specs.Reading.{Reading as readings}
use Rattle.spool_slots.specs.declared.looking.Look.{Look}
use Rattle.spool_slots.specs.declared.looking.Look.TheVariants.{Free, Bad, Kept}

-- the file begins so, and where it was read to its end that is all of it
pub record IsFrontOf (front : List ℕ) (ended : Bool) (bytes : List ℕ) : Type 0 where
  pub rest : List ℕ
  pub parts : bytes ≡ front ++ rest
  pub all : ended ≡ true → rest ≡ []

-- the gate is open, and the body, if all of it is there, begins at this place
pub record IsHeadOf (head : code.Head) (place : ℕ) (bytes : List ℕ) : Type 0 where
  pub is_open : reads bytes ≡ kept_or_bad (length bytes) (whole_at bytes)
  pub read : head_at bytes ≡ Ok (head_view head, drop place bytes)
  pub within : place ≤ length bytes

-- what is known of a file's reading
abbrev pub Says : Look → List ℕ → Type 0
Says Free bytes = reads bytes ≡ readings.Free
Says (Bad at) bytes = reads bytes ≡ readings.Bad at
Says (Kept head place) bytes = IsHeadOf head place bytes

-- the body's place is at most so far
abbrev pub HasPlace : ℕ → Look → Type 0
HasPlace most Free = Unit {0}
HasPlace most (Bad at) = Unit {0}
HasPlace most (Kept head place) = place ≤ most

-- a file with this front has an open gate
pub record IsOpened (front : List ℕ) : Type 0 where
  pub gate : ℕ
  pub rest : List ℕ
  pub is : front ≡ gate ∷ rest
  pub some : nat_eq gate 0 ≡ false

-- a file of this length is shorter than it should be, and ends there; or it isn't
abbrev pub EndsAt : Option ℕ → ℕ → ℕ → Type 0
EndsAt None wanted len = wanted ≤ len
EndsAt (Some end) wanted len = (end ≡ len) × (len < wanted)
