use Rattle.std.proofs.Common.{◌<◌, ap, subst, sym, ◌∙◌}
use Rattle.shared_queue.specs.Moves.{put_more}
use Rattle.spool_rack.specs.Store.{MayPutAside}
use Rattle.spool_pool.specs.Known.{PoolView, SeatView}
use Rattle.spool_pool.proofs.Passes.{homes_each}
use Rattle.spool_pool.proofs.Seats.{after_put_aside}
use Rattle.spool_pool.proofs.seat.PoolSeat.put_aside.Goals as goal

pub put-requires-clause-home : goal.put-requires-clause-home
put-requires-clause-home g c = (homes_each c.self.inside.lanes c.pool.inside.free.home c.pool.inside.full.home c.pool.inside.shelf.home (c.self.invariant.1 ∙ sym (ap (λ (p : PoolView). p.home) c.pool.view_is))).2

pub put-requires-clause-part : goal.put-requires-clause-part
put-requires-clause-part g c = subst (λ n. 0 < n) (sym c.self.invariant.0.even.shelf) c.self.invariant.0.even.some_part

pub invariant_of-self : goal.invariant_of-self
invariant_of-self g c = (after_put_aside {D = g.row.D.Denot} c.self.inside.lanes.free c.self.inside.lanes.full c.self.inside.lanes.shelf c.self.inside.tally c.self.inside.pool.now.home c.self.inside.breaks c.self.invariant
    c.args.slot c.put.new.pass c.put_aside.result (subst (λ (s : SeatView). MayPutAside c.args.slot s.out) (sym c.self.view_is) c.requires) (c.put.ensures ∙ ap (λ x. put_more x c.self.inside.lanes.shelf) c.aside-slot.ensures) c.put_aside.ensures).0
