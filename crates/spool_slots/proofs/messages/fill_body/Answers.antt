use Rattle.std.proofs.Common.{length, arith}
use Rattle.spool_slots.proofs.OpenLemmas.{short_body}
use Rattle.spool_slots.proofs.messages.fill_body.Goals as goal

pub doubted-requires : goal.doubted-requires
doubted-requires g c =
    short_body c.args.head.now c.args.place c.in-Ok.count (length c.args.body.now) c.read.new.buf (g.D.Disk.disk_view c.args.disk.now) (g.D.Disk.disk_view c.read.new.self) c.in-Ok.ensures c.requires.head c.requires.full c.requires.room (omega (arith, c.if-count-head.true))
