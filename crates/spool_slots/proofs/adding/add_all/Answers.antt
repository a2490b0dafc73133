use Rattle.spool_slots.proofs.FillingLemmas.{front_moments}
use Rattle.spool_slots.proofs.adding.add_all.Goals as goal

pub returns-in_err-write_block-clause-moments : goal.returns-in_err-write_block-clause-moments
returns-in_err-write_block-clause-moments g c =
    front_moments c.args.piece.now c.loop-rest.rest.now c.args.pen.now c.loop-rest.pen (g.D.Disk.disk_view c.args.disk.now) (g.D.Disk.disk_view c.loop-rest.disk) (g.D.Disk.disk_view c.write_block.new.disk) c.loop-rest.invariant.added c.write_block.ensures.moments
