use Rattle.fwtk_serve.proofs.DoorLemmas.{so_far_next, so_far_over, so_far_ready, so_far_short}
use Rattle.fwtk_serve.proofs.working.work.Goals as goal

pub loop-init : goal.loop-init
loop-init g c = so_far_ready _ _ _ _ c.requires.ready

pub loop-preserved : goal.loop-preserved
loop-preserved g c = so_far_next _ _ _ _ _ _ c.loop.invariant c.in-Served.ensures

pub returns-in-Over : goal.returns-in-Over
returns-in-Over g c = so_far_over _ _ _ _ _ _ c.loop.invariant c.in-Over.ensures

pub returns-in-Short : goal.returns-in-Short
returns-in-Short g c = so_far_short _ _ _ _ _ _ c.loop.invariant c.in-Short.ensures
