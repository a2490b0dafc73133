use Rattle.spool_pool.proofs.Drains.{Draining}
use Rattle.spool_pool.proofs.draining.drain_known.Given as goal

abbrev pub invariant-loop-left : goal.invariant-loop-left
invariant-loop-left g l = Draining g.T.Homing.homed l.fn.room l.left l.fn.pass l.pass l.fn.stock l.stock

abbrev pub decreases-loop-left : goal.decreases-loop-left
decreases-loop-left g l = l.left
