use Rattle.std.proofs.Common.{ap, arith}
use Rattle.shared_queue.proofs.Keeps.{learns, takes_keep}
use Rattle.shared_queue.proofs.queue.SharedQueue.take.Goals as goal

pub pop_as-requires-clause-rule : goal.pop_as-requires-clause-rule
pop_as-requires-clause-rule g c = (takes_keep _ _ (let e = ap (λ m. m.parts) c.pass.view_is in let p = c.requires.part in omega (arith, e, p)), learns _ _)
