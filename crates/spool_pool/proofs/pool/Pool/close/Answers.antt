use Rattle.spool_pool.proofs.Passes.{closed_pass, open_homes, open_parts, opened}
use Rattle.spool_pool.proofs.Settles.{settled}
use Rattle.spool_pool.proofs.pool.Pool.close.Goals as goal

pub drain-requires-clause-home : goal.drain-requires-clause-home
drain-requires-clause-home g c = (open_homes c.pass.inside.is_closed c.pass.inside.lanes c.pass.inside.tally c.self.inside.free.home c.self.inside.full.home c.self.inside.shelf.home c.args.self c.self.view_is
    (opened c.pass.inside.is_closed c.pass.inside.lanes c.pass.inside.tally c.pass.inside.breaks c.args.pass c.pass.view_is c.self.inside.free.home c.self.inside.full.home c.self.inside.shelf.home c.args.self c.self.view_is c.requires c.pass.invariant)).0

pub drain-requires-clause-part : goal.drain-requires-clause-part
drain-requires-clause-part g c = (open_parts c.pass.inside.is_closed c.pass.inside.lanes c.pass.inside.tally c.args.self.home
    (opened c.pass.inside.is_closed c.pass.inside.lanes c.pass.inside.tally c.pass.inside.breaks c.args.pass c.pass.view_is c.self.inside.free.home c.self.inside.full.home c.self.inside.shelf.home c.args.self c.self.view_is c.requires c.pass.invariant)).0

pub drain-requires-2-clause-home : goal.drain-requires-2-clause-home
drain-requires-2-clause-home g c = (open_homes c.pass.inside.is_closed c.pass.inside.lanes c.pass.inside.tally c.self.inside.free.home c.self.inside.full.home c.self.inside.shelf.home c.args.self c.self.view_is
    (opened c.pass.inside.is_closed c.pass.inside.lanes c.pass.inside.tally c.pass.inside.breaks c.args.pass c.pass.view_is c.self.inside.free.home c.self.inside.full.home c.self.inside.shelf.home c.args.self c.self.view_is c.requires c.pass.invariant)).1

pub drain-requires-2-clause-part : goal.drain-requires-2-clause-part
drain-requires-2-clause-part g c = (open_parts c.pass.inside.is_closed c.pass.inside.lanes c.pass.inside.tally c.args.self.home
    (opened c.pass.inside.is_closed c.pass.inside.lanes c.pass.inside.tally c.pass.inside.breaks c.args.pass c.pass.view_is c.self.inside.free.home c.self.inside.full.home c.self.inside.shelf.home c.args.self c.self.view_is c.requires c.pass.invariant)).1

pub drain-requires-3-clause-home : goal.drain-requires-3-clause-home
drain-requires-3-clause-home g c = (open_homes c.pass.inside.is_closed c.pass.inside.lanes c.pass.inside.tally c.self.inside.free.home c.self.inside.full.home c.self.inside.shelf.home c.args.self c.self.view_is
    (opened c.pass.inside.is_closed c.pass.inside.lanes c.pass.inside.tally c.pass.inside.breaks c.args.pass c.pass.view_is c.self.inside.free.home c.self.inside.full.home c.self.inside.shelf.home c.args.self c.self.view_is c.requires c.pass.invariant)).2

pub drain-requires-3-clause-part : goal.drain-requires-3-clause-part
drain-requires-3-clause-part g c = (open_parts c.pass.inside.is_closed c.pass.inside.lanes c.pass.inside.tally c.args.self.home
    (opened c.pass.inside.is_closed c.pass.inside.lanes c.pass.inside.tally c.pass.inside.breaks c.args.pass c.pass.view_is c.self.inside.free.home c.self.inside.full.home c.self.inside.shelf.home c.args.self c.self.view_is c.requires c.pass.invariant)).2

pub returns-clause-pass : goal.returns-clause-pass
returns-clause-pass g c = closed_pass {D = g.row.D.Denot} c.pass.inside.is_closed c.pass.inside.lanes c.pass.inside.tally c.pass.inside.breaks c.args.pass c.pass.view_is (record { free = c.drain.new.pass; full = c.drain-2.new.pass; shelf = c.drain-3.new.pass }) c.drain.ensures.misses c.drain-2.ensures.misses

pub returns-clause-settled : goal.returns-clause-settled
returns-clause-settled g c =
    let o = opened c.pass.inside.is_closed c.pass.inside.lanes c.pass.inside.tally c.pass.inside.breaks c.args.pass c.pass.view_is c.self.inside.free.home c.self.inside.full.home c.self.inside.shelf.home c.args.self c.self.view_is c.requires c.pass.invariant in (
      c.drain-3.new.stock.queues,
      c.into_rack.ensures,
      settled c.pass.inside.is_closed c.pass.inside.lanes c.pass.inside.tally c.pass.inside.breaks c.args.pass c.pass.view_is c.args.self.home c.self.inside.room c.bring-stock.result c.drain.new.stock c.drain-2.new.stock c.drain-3.new.stock o
          c.bring-stock.ensures.none c.drain.ensures.drains c.drain-2.ensures.drains c.drain-3.ensures.drains,
    )
