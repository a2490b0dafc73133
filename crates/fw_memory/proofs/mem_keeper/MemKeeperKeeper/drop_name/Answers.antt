use Rattle.std.proofs.Common.{Some, refl}
use Rattle.fw_memory.proofs.MemKeeperLemmas.{failed, drop_sets}
use Rattle.fw_types.specs.Keyed.{without}
use Rattle.fw_outside.specs.KeeperView.{entry_name}
use Rattle.fw_memory.proofs.mem_keeper.MemKeeperKeeper.drop_name.Goals as goal

pub returns-clause-sets : goal.returns-clause-sets
returns-clause-sets c = record {
  table = Some (without entry_name c.args.name.now c.args.self.now.table);
  told = drop_sets c.args.name.now c.args.self.now.table;
  calls = c.is_failing.new.self.calls;
  called = c.is_failing.ensures.grew;
  is = rw (c.let_go.ensures, c.is_failing.ensures.is) refl;
}

pub returns-then-is_failing-clause-sets : goal.returns-then-is_failing-clause-sets
returns-then-is_failing-clause-sets c = failed _ _ _ _ c.fail.ensures.answer c.is_failing.ensures.is c.is_failing.ensures.grew c.fail.ensures.rose c.fail.ensures.is
