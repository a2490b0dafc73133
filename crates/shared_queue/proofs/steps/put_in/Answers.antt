use Rattle.std.proofs.Common.{ap, arith}
use Rattle.shared_queue.proofs.Keeps.{puts_keep, learns}
use Rattle.shared_queue.proofs.steps.put_in.Goals as goal

pub push_as-requires-clause-rule : goal.push_as-requires-clause-rule
push_as-requires-clause-rule g c = (puts_keep _ _ _ _ (let e = ap (λ v. v.parts) c.loop.invariant.1 in let p = c.requires.part in omega (arith, e, p)), learns _ _)
