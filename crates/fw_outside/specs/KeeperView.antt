-- What a keeper means, and what its calls do to that.
use Rattle.std.specs.Prelude.{◌≡◌, ℕ, List, Option, Some, None, Result, Ok, Err, IfSome, if◌then◌else◌}
use Rattle.std.specs.Str.{bytes_eq}
use Rattle.fw_outside.specs.FilesView.{bytes_under}
use Rattle.fw_outside.specs.Counts.{Grew, Rose}
use Rattle.fw_types.specs.Keyed.{Ascends}
use Rattle.fw_outside.specs.declared.keep_fault.KeepFault.{KeepFault}
use Rattle.fw_outside.specs.declared.keep_fault.KeepFault.TheVariants.{Failed, NoMemory}

-- names with their bytes: under a name stand the bytes of the first entry with that name, which are `bytes_under`
abbrev pub NamedBytes : Type 0
NamedBytes = List (List ℕ × List ℕ)

-- the names with their bytes, where the keeper tells; how often it failed, and how often it was called
pub record KeeperView : Type 0 where
  pub table : Option NamedBytes
  pub faults : ℕ
  pub calls : ℕ

-- the name of an entry
abbrev pub entry_name : (List ℕ × List ℕ) → List ℕ
entry_name entry = entry.0

-- ---- what calls do

-- under the name stands this and nothing else, and under every other name what stood there
abbrev pub IsSetTo : List ℕ → Option (List ℕ) → NamedBytes → NamedBytes → Type 0
IsSetTo name value old new = (other : List ℕ) → bytes_under new other ≡ (if bytes_eq other name then value else bytes_under old other)

-- the same of what is told; a keeper that tells goes on, and no other begins
abbrev pub IsToldSet : List ℕ → Option (List ℕ) → Option NamedBytes → Option NamedBytes → Type 0
IsToldSet name value None None = Unit {0}
IsToldSet name value (Some old) (Some new) = IsSetTo name value old new
IsToldSet name value _ _ = ⊥

-- the same bytes stand under each name
abbrev pub AreSame : NamedBytes → NamedBytes → Type 0
AreSame one other = (name : List ℕ) → bytes_under one name ≡ bytes_under other name

-- one more call was made, and nothing else changed
pub record IsCalled (old new : KeeperView) : Type 0 where
  pub calls : ℕ
  pub called : Grew 1 old.calls calls
  pub is : new ≡ record old { calls = calls }

-- one more call was made: this stands under the name from now on, and nothing else changed
pub record Stores (name : List ℕ) (value : Option (List ℕ)) (old new : KeeperView) : Type 0 where
  pub table : Option NamedBytes
  pub told : IsToldSet name value old.table table
  pub calls : ℕ
  pub called : Grew 1 old.calls calls
  pub is : new ≡ record old { table = table; calls = calls }

-- one more call was made: the keeper failed, which is counted
pub record KeeperFailed (old new : KeeperView) : Type 0 where
  pub count : ℕ
  pub rose : Rose old.faults count
  pub calls : ℕ
  pub called : Grew 1 old.calls calls
  pub is : new ≡ record old { faults = count; calls = calls }

-- what a refused call leaves
abbrev pub Refuses : KeepFault → KeeperView → KeeperView → Type 0
Refuses Failed old new = KeeperFailed old new
Refuses NoMemory old new = IsCalled old new

-- what setting what stands under a name answers and leaves
abbrev pub Sets : Result (Unit {0}) KeepFault → List ℕ → Option (List ℕ) → KeeperView → KeeperView → Type 0
Sets (Ok _) name value old new = Stores name value old new
Sets (Err fault) name value old new = Refuses fault old new

-- one more call was made: this is all that the keeper has, in order
pub record AreLoaded (loaded : NamedBytes) (old new : KeeperView) : Type 0 where
  pub ordered : Ascends entry_name loaded
  pub told : IfSome old.table (AreSame loaded)
  pub calls : ℕ
  pub called : Grew 1 old.calls calls
  pub is : new ≡ record old { calls = calls }
