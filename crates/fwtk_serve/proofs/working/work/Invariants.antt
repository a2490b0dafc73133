use Rattle.fwtk_serve.specs.Stepping.{worker_with}
use Rattle.fwtk_serve.proofs.DoorLemmas.{SoFar}
use Rattle.fwtk_serve.proofs.working.work.Given as goal

abbrev pub invariant-loop : goal.invariant-loop
invariant-loop g l = SoFar l.rules l.turns l.pool
    (worker_with (g.A.Acceptor.acceptor_view l.initial.worker.door) l.initial.worker.sessions.items l.initial.worker.short l.initial.worker.passes)
    (worker_with (g.A.Acceptor.acceptor_view l.worker.door) l.worker.sessions.items l.worker.short l.worker.passes)
