use Rattle.std.proofs.Common.{◌≡◌, ℕ, List, take}
use Rattle.fw_types.specs.Keyed.{Ascends, under}
use Rattle.fw_outside.specs.KeeperView.{entry_name}
use Rattle.fw_memory.proofs.mem_keeper.sorted.Given as goal

abbrev pub invariant-loop-entry : goal.invariant-loop-entry
invariant-loop-entry l = record {
  ordered : Ascends entry_name l.sorted.items;
  same : (name : List ℕ) → under entry_name name l.sorted.items ≡ under entry_name name (take l.entry-index l.entries);
}
