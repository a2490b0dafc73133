-- The first bad byte of what is no record.
use Rattle.std.specs.Prelude.{◌≡◌, ℕ, ◌≤◌, List, ◌++◌, length, take}
use Rattle.auth_records.specs.declared.record.Record.{Record}
use Rattle.auth_records.specs.Spelling.{IsRecord, Spells}

-- some record's bytes, in either version, begin so
abbrev pub BeginsRecord : List ℕ → Type 0
BeginsRecord front = (r : Record) × IsRecord r × (rest : List ℕ) × Spells (front ++ rest) r

-- the longest prefix that begins some record's bytes has this length. Kept by `decode` (`at`); body: src/decoding.rt.
pub record IsLongestBeginning (bytes : List ℕ) (at : ℕ) : Type 0 where
  pub within : at ≤ length bytes
  pub begins : BeginsRecord (take at bytes)
  pub longest : (n : ℕ) → n ≤ length bytes → BeginsRecord (take n bytes) → n ≤ at
