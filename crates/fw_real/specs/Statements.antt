-- What a keeper's calls do to an open database.
use Rattle.std.specs.Prelude.{◌≡◌, ◌≢◌, ◌⊎◌, ℕ, List, [], codes, Some, None, Result, Ok, Err}
use Rattle.sqlite.specs.Order.{Row}
use Rattle.sqlite.specs.State.{State, Executes, FailsToQuery, Shown}
use Rattle.sqlite.specs.declared.error.Error.{Error}
use Rattle.sqlite.specs.declared.error.Error.TheVariants.{SqliteFailure}
use Rattle.sqlite.specs.declared.error.ErrorCode.TheVariants.{OutOfMemory}
use Rattle.fw_outside.specs.KeeperView.{NamedBytes}
use Rattle.fw_outside.specs.declared.keep_fault.KeepFault.{KeepFault}
use Rattle.fw_outside.specs.declared.keep_fault.KeepFault.TheVariants.{Failed, NoMemory}
use Rattle.fw_real.specs.Entries.{with_rows}

-- ---- the texts

-- the table: names, each once, with the bytes that are kept under them
abbrev pub create_text : List ℕ
create_text = codes "CREATE TABLE IF NOT EXISTS user (name TEXT PRIMARY KEY NOT NULL, record BLOB NOT NULL) STRICT"

-- these bytes stand under this name, whatever stood there
abbrev pub put_text : List ℕ
put_text = codes "INSERT INTO user (name, record) VALUES (?1, ?2) ON CONFLICT (name) DO UPDATE SET record = excluded.record"

-- nothing stands under this name
abbrev pub drop_text : List ℕ
drop_text = codes "DELETE FROM user WHERE name = ?1"

-- all rows, in the order of the bytes of the names
abbrev pub load_text : List ℕ
load_text = codes "SELECT * FROM user ORDER BY name"

-- ---- what running them answers

-- want of memory, or a failure
abbrev pub keep_fault_of : Error → KeepFault
keep_fault_of (SqliteFailure OutOfMemory) = NoMemory
keep_fault_of _ = Failed

-- the statement was run with these values, and its refusal is the answer's
abbrev pub Runs : List ℕ → Row → State → State → Result (Unit {0}) KeepFault → Type 0
Runs text values old new (Ok _) = (count : ℕ) × Executes text values old new (Ok count)
Runs text values old new (Err fault) = (e : Error) × (fault ≡ keep_fault_of e) × Executes text values old new (Err e)

-- the query was refused, and its refusal is the answer's
abbrev pub IsQueryRefused : List ℕ → State → State → KeepFault → Type 0
IsQueryRefused text old new fault = (e : Error) × (fault ≡ keep_fault_of e) × FailsToQuery text [] old new e

-- the rows were shown, and are these entries
pub record Loads (old new : State) (entries : NamedBytes) : Type 0 where
  pub rows : List Row
  pub shown : Shown load_text [] old new rows
  pub read : with_rows [] rows ≡ Some entries

-- the query was refused, or a row that it showed is no entry or stands out of order
abbrev pub FailsToLoad : State → State → KeepFault → Type 0
FailsToLoad old new fault = IsQueryRefused load_text old new fault ⊎ ((rows : List Row) × Shown load_text [] old new rows × (fault ≢ NoMemory → with_rows [] rows ≡ None))
