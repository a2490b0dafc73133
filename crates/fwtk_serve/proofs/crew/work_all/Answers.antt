use Rattle.std.proofs.Common.{rules}
use Rattle.fwtk_serve.specs.Stepping.{worker_with}
use Rattle.fwtk_serve.proofs.EachLemmas.{ready_along, worked_along}
use Rattle.fwtk_serve.proofs.crew.work_all.Goals as goal

pub all_work-requires-clause-ready : goal.all_work-requires-clause-ready
all_work-requires-clause-ready g c κs within =
    ready_along (λ w. worker_with (g.A.Acceptor.acceptor_view w.door) w.sessions.items w.short w.passes) c.args.turns.now c.args.pool.now _ _ c.as_mut_slice.ensures.value c.requires.ready

pub returns : goal.returns
returns g c = worked_along _ _ _ _ _ _ c.all_work.new.workers _ _ c.as_mut_slice.ensures.value c.all_work.ensures (search rules)
