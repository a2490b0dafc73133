use Rattle.std.proofs.Common.{sym}
use Rattle.relay_ways.proofs.carrying.carry_both.Goals as goal

pub returns-clause-up : goal.returns-clause-up
returns-clause-up g c =
    let met = c.join_mut.ensures.0.met in
    rw (c.up_left-1.given.1 (sym met.0.3), c.from-1.given.1 (sym met.0.1), c.server_out-1.given.1 (sym met.0.2)) met.1

pub returns-clause-down : goal.returns-clause-down
returns-clause-down g c =
    let met = c.join_mut.ensures.1.met in
    rw (c.down_left-1.given.1 (sym met.0.3), c.server_in-1.given.1 (sym met.0.1), c.to-1.given.1 (sym met.0.2)) met.1
