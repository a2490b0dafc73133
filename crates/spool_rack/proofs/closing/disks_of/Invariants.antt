use Rattle.std.proofs.Common.{length}
use Rattle.fw_disk.specs.DiskView.{DiskView}
use Rattle.spool_rack.specs.Opening.{HeldView}
use Rattle.spool_rack.proofs.ClosingLemmas.{IsMade}
use Rattle.spool_rack.proofs.closing.disks_of.Given as goal

abbrev pub invariant-loop-slot : goal.invariant-loop-slot
invariant-loop-slot g l = IsMade HeldView g.row.D.Denot DiskView (λ h. h.disk) g.D.Disk.disk_view l.fn.held.items l.held.items l.fn.home l.home

abbrev pub decreases-loop-slot : goal.decreases-loop-slot
decreases-loop-slot g l = length l.held.items
