use Rattle.std.proofs.Common.{◌≡◌, ◌-◌, ◌≤◌, length}
use Rattle.std.specs.Prelude.{IfSome}
use Rattle.spool_slots.proofs.opening.find_end.Given as goal

abbrev pub invariant-loop-at : goal.invariant-loop-at
invariant-loop-at g l = record {
  told : (g.D.Disk.disk_view l.disk).told ≡ (g.D.Disk.disk_view l.initial.disk).told;
  faults : (g.D.Disk.disk_view l.disk).faults ≡ (g.D.Disk.disk_view l.initial.disk).faults;
  within : IfSome (g.D.Disk.disk_view l.initial.disk).told (λ tape. l.at ≤ length tape.now.seen);
}

abbrev pub decreases-loop-at : goal.decreases-loop-at
decreases-loop-at g l = l.wanted - l.at
