use Rattle.std.proofs.Common.{◌≡◌, take}
use Rattle.fw_memory.proofs.mem_launcher.copy_of.Given as goal

abbrev pub invariant-loop-item : goal.invariant-loop-item
invariant-loop-item l = l.copy ≡ take l.item-index l.items
