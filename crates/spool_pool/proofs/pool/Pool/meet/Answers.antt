use Rattle.spool_pool.proofs.Passes.{kept_met, opened}
use Rattle.spool_pool.proofs.pool.Pool.meet.Goals as goal

pub invariant_of-pass : goal.invariant_of-pass
invariant_of-pass g c =
    let mine = opened c.pass.inside.is_closed c.pass.inside.lanes c.pass.inside.tally c.pass.inside.breaks c.args.pass.now c.pass.view_is c.self.inside.free.home c.self.inside.full.home c.self.inside.shelf.home c.args.self.now c.self.view_is c.requires.pass c.pass.invariant in
    let theirs = opened c.other.inside.is_closed c.other.inside.lanes c.other.inside.tally c.other.inside.breaks c.args.other c.other.view_is c.self.inside.free.home c.self.inside.full.home c.self.inside.shelf.home c.args.self.now c.self.view_is c.requires.other c.other.invariant in
    kept_met c.pass.inside.is_closed c.pass.inside.lanes c.other.inside.lanes c.meet_lanes.new.lanes c.pass.inside.tally c.other.inside.tally c.met.result c.args.self.now.home c.other.inside.is_closed mine theirs c.meet_lanes.ensures c.met.ensures
