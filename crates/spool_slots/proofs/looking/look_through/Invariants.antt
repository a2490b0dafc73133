use Rattle.std.proofs.Common.{◌≡◌, ◌-◌, ◌^◌, false, length}
use Rattle.std.specs.Prelude.{IfSome}
use Rattle.spool_slots.specs.Looks.{IsFrontOf}
use Rattle.spool_slots.proofs.looking.look_through.Given as goal

abbrev pub invariant-loop-front : goal.invariant-loop-front
invariant-loop-front g l = record {
  told : (g.D.Disk.disk_view l.disk).told ≡ (g.D.Disk.disk_view l.initial.disk).told;
  faults : (g.D.Disk.disk_view l.disk).faults ≡ (g.D.Disk.disk_view l.initial.disk).faults;
  front : IfSome (g.D.Disk.disk_view l.initial.disk).told (λ tape. IsFrontOf l.front.items false tape.now.seen);
}

abbrev pub decreases-loop-front : goal.decreases-loop-front
decreases-loop-front g l = 2 ^ 63 - length l.front.items
