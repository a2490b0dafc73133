use Rattle.std.proofs.Common.{◌∙◌}
use Rattle.fw_types.proofs.KeyedLemmas.{insert_is_placed}
use Rattle.fw_outside.specs.KeeperView.{entry_name}
use Rattle.fw_memory.proofs.mem_keeper.insert.Goals as goal

pub returns : goal.returns
returns c = c.in_ok-insert.ensures.items ∙ rw (c.count_before-at.ensures.count, c.deref.ensures.value) (insert_is_placed entry_name c.args.entry c.args.sorted.now.items)
