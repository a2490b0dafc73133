use Rattle.fw_types.proofs.KeyedLemmas.{position_is_place}
use Rattle.fw_outside.specs.KeeperView.{entry_name}
use Rattle.fw_memory.proofs.mem_keeper.place_of.Goals as goal

pub returns : goal.returns
returns c = rw c.position_of.ensures (position_is_place entry_name c.args.name.now c.args.entries.now)
