use Rattle.std.proofs.Common.{ap, sym, ◌∙◌}
use Rattle.shared_queue.specs.Moves.{taken_out}
use Rattle.spool_pool.proofs.Seats.{after_take_full}
use Rattle.spool_pool.proofs.seat.PoolSeat.take_full.Goals as goal

pub invariant_of-self : goal.invariant_of-self
invariant_of-self g c = (after_take_full {D = g.row.D.Denot} c.self.inside.lanes.free c.self.inside.lanes.full c.self.inside.lanes.shelf c.self.inside.tally c.self.inside.pool.now.home c.self.inside.breaks c.self.invariant
    c.into_slot-slot.result c.take_counted.new.pass c.took_full.result c.into_slot-slot.ensures.read (c.in-Some.ensures.taken ∙ ap (λ x. taken_out x c.self.inside.lanes.full) (sym c.into_slot-slot.ensures.same)) c.took_full.ensures).0
