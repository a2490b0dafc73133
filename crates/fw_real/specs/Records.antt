-- Records in a file.
use Rattle.std.specs.Prelude.{◌≡◌, ◌⊎◌, ℕ, List, [], Option, Some, None, MatchOption, Ok}
use Rattle.sqlite.specs.Files.{file_state, IsOpened}
use Rattle.sqlite.specs.State.{State, HasCleanDisk, Executes}
use Rattle.fw_outside.specs.Counts.{counted}
use Rattle.fw_outside.specs.KeeperView.{KeeperView}
use Rattle.fw_outside.specs.declared.keep_fault.KeepFault.{KeepFault}
use Rattle.fw_outside.specs.declared.keep_fault.KeepFault.TheVariants.{Failed, NoMemory}
use Rattle.fw_real.specs.Statements.{create_text}
use Rattle.fw_real.specs.declared.database.Database.{Database}

-- a keeper that tells only counts
abbrev pub untold_keeper : ℕ → ℕ → KeeperView
untold_keeper faults calls = record { table = None; faults = faults; calls = calls }

-- the count after a refusal: want of memory is no failure
abbrev pub after_fault : KeepFault → ℕ → ℕ
after_fault Failed faults = counted faults
after_fault NoMemory faults = faults

-- what an open database shows
abbrev pub shown_by : Database → State
shown_by database = file_state database.connection

-- the table was made, where it wasn't there, in a file that had been opened
pub record IsReady (database : Database) : Type 0 where
  pub first : Database
  pub count : ℕ
  pub opened : IsOpened first.connection
  pub made : Executes create_text [] (shown_by first) (shown_by database) (Ok count)

abbrev pub IsReadyIfClean : Database → Type 0
IsReadyIfClean database = HasCleanDisk (shown_by database) → IsReady database

-- it was opened by this path
abbrev pub IsOpen : List ℕ → Database → Type 0
IsOpen path database = (database.path.value ≡ path) × IsReadyIfClean database

-- this was done in the database that was open, or in one that was opened for it by this path, and it is open now
pub record Did (path : List ℕ) (what : State → State → Type 0) (old new : Option Database) : Type 0 where
  pub before : Database
  pub after : Database
  pub was : MatchOption old (IsOpen path before) (λ database. before ≡ database)
  pub is : new ≡ Some after
  pub did : HasCleanDisk (shown_by after) → what (shown_by before) (shown_by after)

-- no file was open, and none is
abbrev pub StaysClosed : Option Database → Option Database → Type 0
StaysClosed old new = (old ≡ None) × (new ≡ None)

-- the file couldn't be opened, or this was done in it; so one that was open stays open
abbrev pub StaysClosedOrDid : List ℕ → (State → State → Type 0) → Option Database → Option Database → Type 0
StaysClosedOrDid path what old new = StaysClosed old new ⊎ Did path what old new
