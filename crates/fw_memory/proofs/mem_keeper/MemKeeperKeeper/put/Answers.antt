use Rattle.std.proofs.Common.{Some, refl}
use Rattle.fw_memory.proofs.MemKeeperLemmas.{failed, lacked, put_sets}
use Rattle.fw_memory.specs.MemKeeperView.{put}
use Rattle.fw_memory.proofs.mem_keeper.MemKeeperKeeper.put.Goals as goal

pub returns-in-Ok-clause-sets : goal.returns-in-Ok-clause-sets
returns-in-Ok-clause-sets c = record {
  table = Some (put c.args.name.now c.args.bytes.now c.args.self.now.table);
  told = put_sets c.args.name.now c.args.bytes.now c.args.self.now.table;
  calls = c.is_failing.new.self.calls;
  called = c.is_failing.ensures.grew;
  is = rw (c.in-Ok.ensures.ok, c.is_failing.ensures.is) refl;
}

pub returns-then-is_failing-clause-sets : goal.returns-then-is_failing-clause-sets
returns-then-is_failing-clause-sets c = failed _ _ _ _ c.fail.ensures.answer c.is_failing.ensures.is c.is_failing.ensures.grew c.fail.ensures.rose c.fail.ensures.is

pub returns-in-Err-clause-sets : goal.returns-in-Err-clause-sets
returns-in-Err-clause-sets c = lacked _ _ _ c.is_failing.ensures.is c.is_failing.ensures.grew c.in-Err.ensures.err
