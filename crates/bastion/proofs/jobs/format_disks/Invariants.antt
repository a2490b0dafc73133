use Rattle.std.proofs.Common.{◌≤◌, ◌-◌, length, map}
use Rattle.bastion.specs.Jobs.{AreFormatted}
use Rattle.bastion.proofs.jobs.format_disks.Given as goal

abbrev pub invariant-loop-slot : goal.invariant-loop-slot
invariant-loop-slot g l = (l.slot ≤ length l.disks) × AreFormatted l.slot (map g.D.Disk.disk_view l.initial.disks) (map g.D.Disk.disk_view l.disks)

abbrev pub decreases-loop-slot : goal.decreases-loop-slot
decreases-loop-slot g l = length l.disks - l.slot
