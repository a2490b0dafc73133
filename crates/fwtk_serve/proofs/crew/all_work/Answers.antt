use Rattle.std.proofs.Common.{rules}
use denote.Param.Send.{sendable}
use Rattle.std.proofs.Crossing.{crosses}
use Rattle.gate_rules.proofs.rules.Rules.TheSendSync as Rules
use Rattle.gate_rules.proofs.service.Service.TheSendSync as Service
use Rattle.spool_pool.proofs.CrossingLemmas.{pass_send, pool_sync}
use Rattle.turn_lock.proofs.pass.Pass.TheSendSync as Pass
use Rattle.turn_lock.proofs.turns.Turns.TheSendSync as Turns
use Rattle.fwtk_serve.proofs.CrossingLemmas.{book_send, six_sync}
use Rattle.fwtk_serve.proofs.EachLemmas.{all_worked}
use Rattle.fwtk_serve.proofs.passes.Passes.TheSendSync as Passes
use Rattle.fwtk_serve.proofs.worker.Worker.TheSendSync as Worker
use Rattle.fwtk_serve.proofs.crew.all_work.Goals as goal

pub for_each_mut-requires-send-T : goal.for_each_mut-requires-send-T
for_each_mut-requires-send-T g c κs within = let k = c.type_bounds.send-K in let a = c.type_bounds.send-A in let d = c.type_bounds.send-D in search (Worker.the_send, Passes.the_send, Pass.the_send, pass_send, book_send, sendable) depth 14

pub for_each_mut-requires-sync-F : goal.for_each_mut-requires-sync-F
for_each_mut-requires-sync-F g c κs within =
    let k = c.type_bounds.send-K in
    let h = c.type_bounds.sync-H in
    let d = c.type_bounds.send-D in
    search (six_sync, Turns.the_sync, pool_sync, Rules.the_sync, Service.the_sync, book_send, sendable, crosses) depth 30 fits 20000

pub returns : goal.returns
returns g c =
    all_worked _ _ _ _ _ _ (search rules) (λ i d lt. let h = (c.for_each_mut.ensures i d lt).1 in record { old = h.argument.now; new = h.after_call.now; old_is = h.argument_is; new_is = h.left; worked = h.call })
