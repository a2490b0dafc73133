use Rattle.std.proofs.Common.{get_or, map}
use Rattle.bastion.specs.Jobs.{IsFormatted, IsUnformatted}
use Rattle.bastion.proofs.FormatLemmas.{fails_here, formatted_next, still_long}
use Rattle.bastion.proofs.jobs.format_disks.Goals as goal

pub loop-slot-preserved : goal.loop-slot-preserved
loop-slot-preserved g c =
    let view = g.D.Disk.disk_view in
    let item = c.index-disks-slot.result in
    let one : IsFormatted (view (get_or c.loop-slot.disks c.loop-slot.slot item)) (view c.format_in_place.new.disk) = record {
      cleared = c.in-Ok.ensures.ok;
      free = c.in-Ok.ensures.images;
      tells = c.format_in_place.ensures.tells;
    } in
    let below = c.loop-slot-test.true in (
      still_long view c.loop-slot.slot c.loop-slot.disks c.format_in_place.new.disk below,
      formatted_next view (map view c.args.disks.now) c.loop-slot.slot c.loop-slot.disks c.format_in_place.new.disk item below c.loop-slot.invariant.1 one,
    )

pub returns-in-Err : goal.returns-in-Err
returns-in-Err g c =
    let view = g.D.Disk.disk_view in
    let item = c.index-disks-slot.result in
    let one : IsUnformatted (view (get_or c.loop-slot.disks c.loop-slot.slot item)) (view c.format_in_place.new.disk) = record { rose = c.in-Err.ensures.err; tells = c.format_in_place.ensures.tells } in
    fails_here view (map view c.args.disks.now) c.loop-slot.slot c.loop-slot.disks c.format_in_place.new.disk item c.loop-slot-test.true c.loop-slot.invariant.1 one
