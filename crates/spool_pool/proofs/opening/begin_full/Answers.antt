use Rattle.spool_pool.proofs.Begins.{rest_full}
use Rattle.spool_pool.proofs.opening.begin_full.Goals as goal

pub returns-clause-slots : goal.returns-clause-slots
returns-clause-slots g c = rest_full c.args.slots.now c.loop-slot.slots c.next_full.new.self c.loop-slot.invariant.1 c.in_default.ensures.rest
