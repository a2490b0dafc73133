use Rattle.std.proofs.Common.{◌≡◌, List, ◌∷◌, ◌++◌, drop, map, refl, ap, ◌∙◌}
use Rattle.fw_disk.specs.DiskView.{DiskView}
use Rattle.spool_slots.specs.Opened.{disk_of}
use Rattle.spool_rack.specs.Room.{QueueView}
use Rattle.spool_rack.specs.Opening.{IsSlotOf, HasBroken}
use Rattle.spool_rack.proofs.OpeningLemmas.{so_far_next, so_far_last, so_far_stopped}
use Rattle.spool_rack.proofs.opening.open_all.Goals as goal

pub returns-in-Err-clause-err : goal.returns-in-Err-clause-err
returns-in-Err-clause-err g c =
    let X = g.row.D.Denot in
    let view = g.D.Disk.disk_view in
    let rest : List X = drop 1 c.loop-disk.rest.items in
    let pushed : c.push_front.new.self.items ≡ c.into_disk.result ∷ c.pop.new.self.items = ap (λ (q : QueueView X). q.items) c.push_front.ensures in
    let popped : c.pop.new.self.items ≡ rest = ap (λ (q : QueueView X). q.items) c.in-Some.ensures.rest in
    let back : map view c.give_back.result.items ≡ map (disk_of {D = X}) c.loop-disk.found.items ++ (c.in-Err.broken.disk ∷ map view rest) =
    c.give_back.ensures
    ∙ ap (λ (l : List X). map (disk_of {D = X}) c.loop-disk.found.items ++ map view l) pushed
    ∙ ap (λ (l : List X). map (disk_of {D = X}) c.loop-disk.found.items ++ (view c.into_disk.result ∷ map view l)) popped
    ∙ ap (λ (d : DiskView). map (disk_of {D = X}) c.loop-disk.found.items ++ (d ∷ map view rest)) c.into_disk.ensures in
    let one : HasBroken c.in-Err.why (view c.in-Some.disk) c.in-Err.broken.disk = record {
      slot = c.in-Err.broken;
      because = c.in-Err.ensures.err;
      events = c.in-Err.ensures.events;
      good = c.in-Err.ensures.good;
      disk = refl;
    } in
    so_far_stopped X view (map view c.args.disks.items) c.loop-disk.number c.loop-disk.found c.loop-disk.rest c.in-Some.disk c.in-Err.broken c.in-Err.why (map view c.give_back.result.items)
    c.loop-disk.invariant c.in-Some.ensures.front one back

pub loop-disk-preserved : goal.loop-disk-preserved
loop-disk-preserved g c =
    let one : IsSlotOf g.row.D.Denot c.loop-disk.number (g.D.Disk.disk_view c.in-Some.disk) c.in-Ok.slot = record {
      onward = c.in-Ok.ensures.ok;
      read = c.in-Ok.ensures.read;
      events = c.in-Ok.ensures.events;
    } in
    so_far_next g.row.D.Denot g.D.Disk.disk_view (map g.D.Disk.disk_view c.args.disks.items) c.loop-disk.number c.loop-disk.found c.push.new.self c.loop-disk.rest c.pop.new.self c.in-Some.disk c.in-Ok.slot
    c.loop-disk.invariant c.in-Some.ensures.front c.in-Some.ensures.rest c.push.ensures one

pub returns-clause-ok : goal.returns-clause-ok
returns-clause-ok g c = so_far_last g.row.D.Denot g.D.Disk.disk_view (map g.D.Disk.disk_view c.args.disks.items) c.loop-disk.number c.loop-disk.found c.loop-disk.rest c.loop-disk.invariant c.in_default.ensures.front
