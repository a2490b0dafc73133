use Rattle.std.proofs.Common.{◌≡◌, List, drop, ap, subst, sym}
use Rattle.fw_disk.specs.DiskView.{DiskView}
use Rattle.spool_rack.specs.Opening.{HeldView}
use Rattle.spool_rack.specs.Room.{QueueView}
use Rattle.spool_rack.proofs.ClosingLemmas.{IsMade, made_next}
use Rattle.spool_rack.proofs.closing.disks_of.Goals as goal

pub loop-slot-preserved : goal.loop-slot-preserved
loop-slot-preserved g c =
    let D = g.row.D.Denot in
    let rest : c.pop.new.self.items ≡ drop 1 c.loop-slot.held.items = ap (λ (q : QueueView HeldView). q.items) c.in-Some.ensures.rest in
    subst (λ (l : List HeldView). IsMade HeldView D DiskView (λ h. h.disk) g.D.Disk.disk_view c.args.held.items l c.args.home c.push.new.self) (sym rest)
    (made_next HeldView D DiskView (λ h. h.disk) g.D.Disk.disk_view c.args.held.items c.loop-slot.held.items c.args.home c.loop-slot.home c.push.new.self c.in-Some.slot c.into_disk.result c.loop-slot.invariant c.in-Some.ensures.front c.into_disk.ensures c.push.ensures)
