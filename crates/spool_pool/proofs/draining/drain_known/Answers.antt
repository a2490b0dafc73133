use Rattle.std.proofs.Common.{◌≡◌, ◌-◌, ◌≤◌, List, length, ap, subst, ◌∙◌, arith}
use Rattle.shared_queue.specs.Moves.{HasAll, Moves, StandIn}
use Rattle.spool_pool.proofs.Drains.{Draining, drain_full, drain_misses, drain_next, drain_none}
use Rattle.spool_pool.proofs.draining.drain_known.Goals as goal

pub returns-in-None-clause-drains : goal.returns-in-None-clause-drains
returns-in-None-clause-drains g c = drain_none g.T.Homing.homed c.args.room c.loop-left.left c.args.pass.now c.loop-left.pass c.args.stock.now c.loop-left.stock c.loop-left.invariant c.in-None.ensures.none

pub returns-in-None-clause-misses : goal.returns-in-None-clause-misses
returns-in-None-clause-misses g c =
    ap (λ (m : Moves g.row.T.Denot). m.misses) c.in-None.ensures.taken ∙ drain_misses g.T.Homing.homed c.args.room c.loop-left.left c.args.pass.now c.loop-left.pass c.args.stock.now c.loop-left.stock c.loop-left.invariant

pub loop-left-preserved : goal.loop-left-preserved
loop-left-preserved g c = drain_next g.T.Homing.homed c.args.room c.loop-left.left c.args.pass.now c.loop-left.pass c.take.new.pass c.args.stock.now c.loop-left.stock c.go_home.new.stock c.in-Some.slot
    c.loop-left-test.true c.loop-left.invariant c.in-Some.ensures.taken c.go_home.ensures.home c.go_home.ensures.counted (c.loop-left.left - 1) (omega (arith, c.loop-left-test.true))

pub returns-clause-misses : goal.returns-clause-misses
returns-clause-misses g c =
    ap (λ (m : Moves g.row.T.Denot). m.misses) c.look.ensures.same ∙ drain_misses g.T.Homing.homed c.args.room c.loop-left.left c.args.pass.now c.loop-left.pass c.args.stock.now c.loop-left.stock c.loop-left.invariant

pub returns-clause-drains : goal.returns-clause-drains
returns-clause-drains g c =
    let none : c.loop-left.left ≡ 0 = omega (arith, c.loop-left-test.false) in
    let d = subst (λ n. Draining g.T.Homing.homed c.args.room n c.args.pass.now c.loop-left.pass c.args.stock.now c.loop-left.stock) none c.loop-left.invariant in
    let after = subst (λ n. HasAll c.loop-left.pass → (items : List g.row.T.Denot) × (length items ≤ n) × StandIn c.loop-left.pass items) c.requires.room c.look.ensures.stand in
    drain_full g.T.Homing.homed c.args.room c.args.pass.now c.loop-left.pass c.args.stock.now c.loop-left.stock d c.requires.stand after
