-- A keeper in memory.
use Rattle.std.specs.Prelude.{◌≡◌, ℕ, true, false, List, [], ◌∷◌, ◌++◌, Some, Result, Ok, Err, is_some, if◌then◌else◌}
use Rattle.fw_outside.specs.Counts.{counted}
use Rattle.fw_types.specs.Keyed.{replaced, under}
use Rattle.fw_memory.specs.CallsView.{CallsView, comes_at}
use Rattle.fw_outside.specs.KeeperView.{NamedBytes, KeeperView, entry_name}
use Rattle.fw_outside.specs.declared.keep_fault.KeepFault.{KeepFault}
use Rattle.fw_outside.specs.declared.keep_fault.KeepFault.TheVariants.{Failed, NoMemory}

-- names with their bytes, the calls that fail, how many calls there were, and the count of failures
pub record MemKeeperView : Type 0 where
  pub table : NamedBytes
  pub fails : CallsView
  pub calls : ℕ
  pub faults : ℕ

-- it tells all
abbrev pub keeper_view_of : MemKeeperView → KeeperView
keeper_view_of c = record { table = Some c.table; faults = c.faults; calls = c.calls }

-- the bytes under a name: in the place of those that stood there, or after all
abbrev pub put : List ℕ → List ℕ → NamedBytes → NamedBytes
put name bytes table = if is_some (under entry_name name table) then replaced entry_name (name, bytes) table else table ++ (name, bytes) ∷ []

-- one more call was made
abbrev pub called : MemKeeperView → MemKeeperView
called c = record c { calls = counted c.calls }

-- a call fails exactly as told, which is counted; another one that was not refused for want of memory leaves this table
abbrev pub FailsAsTold : {A : Type 0} → Result A KeepFault → NamedBytes → MemKeeperView → MemKeeperView → Type 0
FailsAsTold (Ok _) table old new = (comes_at old.fails old.calls ≡ false) × (new ≡ record (called old) { table = table })
FailsAsTold (Err Failed) table old new = (comes_at old.fails old.calls ≡ true) × (new ≡ record (called old) { faults = counted old.faults })
FailsAsTold (Err NoMemory) table old new = (comes_at old.fails old.calls ≡ false) × (new ≡ called old)
