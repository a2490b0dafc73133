use Rattle.std.proofs.Common.{refl}
use Rattle.spool_slots.proofs.LookLemmas.{empty_front}
use Rattle.spool_slots.proofs.looking.look_through.Goals as goal

pub loop-front-init : goal.loop-front-init
loop-front-init g c = record { told = refl; faults = refl; front = empty_front c.new-front.result.items (g.D.Disk.disk_view c.args.disk.now).told c.new-front.ensures.items }
