use Rattle.spool_pool.proofs.Begins.{rest_free}
use Rattle.spool_pool.proofs.opening.begin_free.Goals as goal

pub returns-clause-slots : goal.returns-clause-slots
returns-clause-slots g c = rest_free c.args.slots.now c.loop-slot.slots c.next_free.new.self c.loop-slot.invariant.1 c.in_default.ensures.rest
