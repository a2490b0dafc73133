use Rattle.std.proofs.Common.{◌≡◌}
use Rattle.fw_memory.specs.MemDiskView.{picked_from}
use Rattle.fw_memory.proofs.picking.picked.Given as goal

abbrev pub invariant-loop-place : goal.invariant-loop-place
invariant-loop-place l = l.bytes.items ≡ picked_from l.medium l.pick 0 l.place
