use Rattle.spool_pool.proofs.Begins.{rest_aside}
use Rattle.spool_pool.proofs.opening.begin_aside.Goals as goal

pub returns-clause-slots : goal.returns-clause-slots
returns-clause-slots g c = rest_aside c.args.slots.now c.loop-slot.slots c.next_aside.new.self c.loop-slot.invariant.1 c.in_default.ensures.rest
