use Rattle.std.proofs.Common.{option_map, refl, ap, ◌∙◌}
use Rattle.fw_memory.specs.MemKeeperView.{MemKeeperView}
use Rattle.fw_types.specs.Keyed.{under}
use Rattle.fw_outside.specs.KeeperView.{entry_name}
use Rattle.fw_memory.proofs.MemKeeperLemmas.{failed, lacked}
use Rattle.fw_memory.proofs.mem_keeper.MemKeeperKeeper.load.Goals as goal

pub returns-clause-loaded : goal.returns-clause-loaded
returns-clause-loaded c = record {
  ordered = c.in-Ok.ensures.ordered;
  told = λ k. ap (option_map (λ e. e.1)) (c.in-Ok.ensures.same k ∙ ap (λ (chest : MemKeeperView). under entry_name k chest.table) c.is_failing.ensures.is);
  calls = c.is_failing.new.self.calls;
  called = c.is_failing.ensures.grew;
  is = rw c.is_failing.ensures.is refl;
}

pub returns-then-is_failing-clause-refused : goal.returns-then-is_failing-clause-refused
returns-then-is_failing-clause-refused c = failed _ _ _ _ c.fail.ensures.answer c.is_failing.ensures.is c.is_failing.ensures.grew c.fail.ensures.rose c.fail.ensures.is

pub returns-in_default-clause-refused : goal.returns-in_default-clause-refused
returns-in_default-clause-refused c = lacked _ _ _ c.is_failing.ensures.is c.is_failing.ensures.grew refl
