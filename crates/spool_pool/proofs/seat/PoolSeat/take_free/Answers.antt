use Rattle.spool_pool.proofs.Seats.{after_take_free}
use Rattle.spool_pool.proofs.seat.PoolSeat.take_free.Goals as goal

pub invariant_of-self : goal.invariant_of-self
invariant_of-self g c = (after_take_free {D = g.row.D.Denot} c.self.inside.lanes.free c.self.inside.lanes.full c.self.inside.lanes.shelf c.self.inside.tally c.self.inside.pool.now.home c.self.inside.breaks c.self.invariant
    c.in-Some.slot c.take_counted.new.pass c.took_free.result c.in-Some.ensures.taken c.took_free.ensures).0
