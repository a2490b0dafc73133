-- Keeping what becomes of the records.
use Rattle.std.specs.Prelude.{◌≡◌, ◌⊎◌, Bool, true, false, Some, None, Result, Ok, Err}
use Rattle.fw_outside.specs.Counts.{Grew}
use Rattle.auth_records.specs.Spelling.{spelling}
use Rattle.fw_outside.specs.declared.keep_fault.KeepFault.{KeepFault}
use Rattle.fw_outside.specs.declared.keep_fault.KeepFault.TheVariants as faults
use Rattle.fw_types.specs.declared.no_memory.NoMemory.{NoMemory}
use Rattle.fw_outside.specs.KeeperView.{IsCalled, Stores, KeeperFailed, KeeperView}
use Rattle.auth_machine.specs.declared.record_change.RecordChange.{RecordChange}
use Rattle.auth_machine.specs.declared.record_change.RecordChange.TheVariants.{Leave, Put, Delete}

-- the keeper was called once: it has kept this, or has failed
abbrev pub Calls : RecordChange → Bool → KeeperView → KeeperView → Type 0
Calls Leave kept old new = ⊥
Calls (Put f) true old new = Stores f.name (Some (spelling f)) old new
Calls (Delete name) true old new = Stores name None old new
Calls (Put f) false old new = KeeperFailed old new
Calls (Delete name) false old new = KeeperFailed old new

-- where the records are edited, the keeper has kept that or has failed; elsewhere all is as it was, and counts as kept.
-- Kept by `Book::ask` (`keeper_follows`); body: src/keeping.rt.
abbrev pub KeepsChange : Bool → RecordChange → Bool → KeeperView → KeeperView → Type 0
KeepsChange true change kept old new = Calls change kept old new
KeepsChange false change kept old new = (kept ≡ true) × (new ≡ old)

-- the keeper was called once where the records are edited, and else not. Kept by `Book::ask` (`keeper_called`).
abbrev pub IsCalledIf : Bool → KeeperView → KeeperView → Type 0
IsCalledIf true old new = Grew 1 old.calls new.calls
IsCalledIf false old new = new.calls ≡ old.calls

-- where the records were to be edited the keeper may have been called once, and had no memory; else all is as it was
abbrev pub MayBeCalled : Bool → KeeperView → KeeperView → Type 0
MayBeCalled true old new = (new ≡ old) ⊎ IsCalled old new
MayBeCalled false old new = new ≡ old

-- whether a keeper has kept it
abbrev pub kept_by : Result (Unit {0}) KeepFault → Result Bool NoMemory
kept_by (Ok _) = Ok true
kept_by (Err faults.Failed) = Ok false
kept_by (Err faults.NoMemory) = Err (record {})
