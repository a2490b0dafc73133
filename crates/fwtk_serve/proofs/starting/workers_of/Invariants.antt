use Rattle.std.proofs.Common.{length}
use Rattle.std.specs.Vec.{vec_capacity, vec_len}
use Rattle.std.specs.VecDeque.{deque_len}
use Rattle.fwtk_serve.specs.Stepping.{worker_with}
use Rattle.fwtk_serve.proofs.GatheringLemmas.{IsBeginning}
use Rattle.fwtk_serve.proofs.starting.workers_of.Given as goal

abbrev pub invariant-loop-door : goal.invariant-loop-door
invariant-loop-door g l = IsBeginning l.turns l.pool (λ w. worker_with (g.A.Acceptor.acceptor_view w.door) w.sessions.items w.short w.passes)
    g.A.Acceptor.acceptor_view
    l.fn.doors.items l.left.items l.workers.items l.initial.passes l.passes (vec_len l.workers) (deque_len l.left) (vec_capacity l.workers)

abbrev pub decreases-loop-door : goal.decreases-loop-door
decreases-loop-door g l = length l.left.items
