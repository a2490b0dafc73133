use Rattle.spool_pool.proofs.Begins.{rest_broken}
use Rattle.spool_pool.proofs.opening.begin_broken.Goals as goal

pub returns-clause-slots : goal.returns-clause-slots
returns-clause-slots g c = rest_broken c.args.slots.now c.loop-slot.slots c.next_broken.new.self c.loop-slot.invariant.1 c.in_default.ensures.rest
