use Rattle.std.proofs.Common.{◌≡◌, [], drop}
use Rattle.fw_types.specs.Keyed.{Ascends}
use Rattle.fw_outside.specs.KeeperView.{entry_name}
use Rattle.fw_real.specs.Entries.{with_rows}
use Rattle.fw_real.proofs.entries.read_all.Given as goal

abbrev pub invariant-loop-row : goal.invariant-loop-row
invariant-loop-row l = record {
  ordered : Ascends entry_name l.entries.items;
  same : with_rows [] l.rows ≡ with_rows l.entries.items (drop l.row-index l.rows);
}
