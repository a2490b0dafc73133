-- Which files are slot files, and the first byte that can't go on one.
use Rattle.std.specs.Prelude.{◌≡◌, ℕ, ◌≤◌, List, ◌++◌, length, take, get_or, ◌⊎◌}
use Rattle.byte_reader.specs.Exact.{InRange}
use Rattle.slot_bytes.specs.Layout.{Mail, IsMail, AreMarks, slot_bytes}

-- two bytes or more behind a closed gate
pub record IsFreeFile (bytes : List ℕ) : Type 0 where
  pub long : 2 ≤ length bytes
  pub gate : get_or bytes 0 1 ≡ 0

-- a message of either version with an open gate, and anything after it
pub record IsKeptFile (bytes : List ℕ) : Type 0 where
  pub version : ℕ
  pub gate : ℕ
  pub aside : ℕ
  pub marks : List ℕ
  pub m : Mail
  pub rest : List ℕ
  pub open_gate : InRange 1 255 gate
  pub mark : InRange 0 255 aside
  pub are_marks : AreMarks version (length m.rcpts) marks
  pub mail : IsMail m
  pub parts : bytes ≡ slot_bytes version gate aside marks m ++ rest

abbrev pub IsSlotFile : List ℕ → Type 0
IsSlotFile bytes = IsFreeFile bytes ⊎ IsKeptFile bytes

-- some slot file begins so
abbrev pub BeginsSlot : List ℕ → Type 0
BeginsSlot front = (rest : List ℕ) × IsSlotFile (front ++ rest)

-- the longest prefix that begins some slot file has this length
pub record IsLongestBeginning (bytes : List ℕ) (at : ℕ) : Type 0 where
  pub within : at ≤ length bytes
  pub begins : BeginsSlot (take at bytes)
  pub longest : (n : ℕ) → n ≤ length bytes → BeginsSlot (take n bytes) → n ≤ at
