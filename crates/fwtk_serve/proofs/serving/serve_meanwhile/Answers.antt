use Rattle.std.proofs.Common.{sym}
use denote.Param.Send.{sendable}
use Rattle.std.proofs.Crossing.{Vec-send, crosses}
use Rattle.gate_rules.proofs.rules.Rules.TheSendSync as Rules
use Rattle.gate_rules.proofs.service.Service.TheSendSync as Service
use Rattle.spool_pool.proofs.CrossingLemmas.{pass_send, pool_sync}
use Rattle.turn_lock.proofs.pass.Pass.TheSendSync as Pass
use Rattle.turn_lock.proofs.turns.Turns.TheSendSync as Turns
use Rattle.fwtk_serve.proofs.CrossingLemmas.{book_send, eight_send}
use Rattle.fwtk_serve.proofs.passes.Passes.TheSendSync as Passes
use Rattle.fwtk_serve.proofs.worker.Worker.TheSendSync as Worker
use Rattle.fwtk_serve.proofs.serving.serve_meanwhile.Goals as goal

pub run_beside-workers-requires-send-S : goal.run_beside-workers-requires-send-S
run_beside-workers-requires-send-S g c κs within =
    let k = c.type_bounds.send-K in
    let a = c.type_bounds.send-A in
    let h = c.type_bounds.sync-H in
    let d = c.type_bounds.send-D in
    search (eight_send, Worker.the_send, Passes.the_send, Pass.the_send, pass_send, Turns.the_sync, pool_sync, Rules.the_sync, Service.the_sync, book_send, sendable, crosses) depth 30 fits 20000

pub run_beside-workers-requires-send-A : goal.run_beside-workers-requires-send-A
run_beside-workers-requires-send-A g c κs within =
    let k = c.type_bounds.send-K in
    let a = c.type_bounds.send-A in
    let d = c.type_bounds.send-D in
    search (Vec-send, Worker.the_send, Passes.the_send, Pass.the_send, pass_send, book_send, sendable) depth 16 fits 20000

pub returns-clause-hands : goal.returns-clause-hands
returns-clause-hands g c =
    let met = c.run_beside-workers.ensures.here.met in
    rw (c.seat-1.given.1 (sym met.0.4), c.mailers-1.given.1 (sym met.0.5), c.logs-1.given.1 (sym met.0.7), c.sums-1.given.1 (sym met.0.8)) met.1.0

pub returns-clause-many : goal.returns-clause-many
returns-clause-many g c =
    let met = c.run_beside-workers.ensures.here.met in
    rw (c.mailers-1.given.1 (sym met.0.5)) met.1.1
