use Rattle.std.proofs.Common.{length, map}
use Rattle.std.specs.Vec.{vec_capacity, vec_len}
use Rattle.std.specs.VecDeque.{deque_len}
use Rattle.fwtk_serve.specs.Stepping.{gathered_with, worker_with}
use Rattle.fwtk_serve.proofs.GatheringLemmas.{IsGathering}
use Rattle.fwtk_serve.proofs.meeting.meet_all.Given as goal

abbrev pub invariant-loop-worker : goal.invariant-loop-worker
invariant-loop-worker g l = IsGathering l.turns l.pool (λ w. worker_with (g.A.Acceptor.acceptor_view w.door) w.sessions.items w.short w.passes)
    l.fn.workers.items l.left.items l.initial.passes l.passes
    (gathered_with (map g.A.Acceptor.acceptor_view l.gathered.doors.items) (map (λ s. s.items) l.gathered.sessions.items) l.gathered.short)
    (vec_len l.gathered.doors) (vec_len l.gathered.sessions) (deque_len l.left) (vec_capacity l.gathered.doors) (vec_capacity l.gathered.sessions)

abbrev pub decreases-loop-worker : goal.decreases-loop-worker
decreases-loop-worker g l = length l.left.items
