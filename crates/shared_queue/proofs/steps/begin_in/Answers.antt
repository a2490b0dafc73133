use Rattle.std.proofs.Common.{ap, ◌∙◌}
use Rattle.shared_queue.proofs.Keeps.{begin_keeps, learns}
use Rattle.shared_queue.proofs.steps.begin_in.Goals as goal

pub push_as-requires-clause-rule : goal.push_as-requires-clause-rule
push_as-requires-clause-rule g c = (begin_keeps _ _ _ _ (ap (λ v. v.parts) c.loop.invariant.1 ∙ c.requires.all), learns _ _)
