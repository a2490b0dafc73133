-- Opening a book: what the records are that a keeper has, or which is the first bad one.
use Rattle.std.specs.Prelude.{◌≡◌, ℕ, ◌==◌, List, [], ◌∷◌, Result, Ok, Err, if◌then◌else◌}
use Rattle.std.specs.Str.{bytes_eq}
use Rattle.fw_outside.specs.KeeperView.{AreLoaded, IsCalled, KeeperFailed, NamedBytes, KeeperView}
use Rattle.auth_records.specs.Reading.{decoded}
use Rattle.auth_records.specs.Spelling.{Fields}
use Rattle.auth_machine.specs.declared.open_fault.OpenFault.{OpenFault}
use Rattle.auth_machine.specs.declared.open_fault.OpenFault.TheVariants.{LoadFault, BadRecord, NoMemory}

-- the place of the first byte of the name in the bytes of a record: by the first byte, which is the version
abbrev pub name_place : List ℕ → ℕ
name_place [] = 30
name_place (version ∷ rest) = if version == 1 then 14 else 30

-- a record has the name under which it stands: another name is a fault at the first byte of the name
abbrev pub with_name : List ℕ → ℕ → Result Fields ℕ → Result Fields ℕ
with_name name place (Err at) = Err at
with_name name place (Ok f) = if bytes_eq f.name name then Ok f else Err place

-- the record that an entry is, or the place of its first bad byte
abbrev pub record_in : (List ℕ × List ℕ) → Result Fields ℕ
record_in entry = with_name entry.0 (name_place entry.1) (decoded entry.1)

abbrev pub in_front : List ℕ → Result Fields ℕ → Result (List Fields) (List ℕ × ℕ) → Result (List Fields) (List ℕ × ℕ)
in_front name (Err at) others = Err (name, at)
in_front name (Ok f) (Err bad) = Err bad
in_front name (Ok f) (Ok others) = Ok (f ∷ others)

-- the records that all entries are, or the name of the first bad one with the place of its first bad byte; in a table in the
-- order of names the first has the least name
abbrev pub records_in : NamedBytes → Result (List Fields) (List ℕ × ℕ)
records_in [] = Ok []
records_in (entry ∷ entries) = in_front entry.0 (record_in entry) (records_in entries)

-- the fault that reading these entries ends with
abbrev pub IsBadIn : NamedBytes → OpenFault → Type 0
IsBadIn entries LoadFault = ⊥
IsBadIn entries (BadRecord name at) = records_in entries ≡ Err (name, at)
IsBadIn entries NoMemory = Unit {0}

-- all that the keeper has was loaded, and is read so
pub record ReadsAs (read : Result (List Fields) (List ℕ × ℕ)) (old new : KeeperView) : Type 0 where
  pub loaded : NamedBytes
  pub are : AreLoaded loaded old new
  pub is : records_in loaded ≡ read

-- why a book isn't opened, and how it leaves the keeper. Kept by `Book::open` (`fault`); body: src/opening.rt.
abbrev pub RefusesBook : OpenFault → KeeperView → KeeperView → Type 0
RefusesBook LoadFault old new = KeeperFailed old new
RefusesBook (BadRecord name at) old new = ReadsAs (Err (name, at)) old new
RefusesBook NoMemory old new = IsCalled old new
