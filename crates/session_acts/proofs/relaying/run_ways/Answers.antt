use Rattle.std.proofs.Common.{sym}
use Rattle.session_acts.proofs.RelayLemmas.{ran_ways}
use Rattle.session_acts.proofs.relaying.run_ways.Goals as goal

pub returns : goal.returns
returns g c =
    ran_ways c.carry_both-ends.result.0 c.carry_both-ends.result.1 _ _ _ _ c.carry_both-ends.new.up_left c.carry_both-ends.new.down_left (rw (sym c.pending.ensures.bytes, sym c.room-up_left.ensures) c.carry_both-ends.ensures.up) (rw (sym c.pending-2.ensures.bytes, sym c.room-down_left.ensures) c.carry_both-ends.ensures.down) c.new.ensures c.new-up.ensures
