use Rattle.std.proofs.Common.{◌≡◌}
use Rattle.crossbeam_queue.specs.Passes.{IsSamePass, view}
use Rattle.shared_queue.proofs.steps.put_in.Given as goal

abbrev pub invariant-loop : goal.invariant-loop
invariant-loop g l = IsSamePass l.initial.pass l.pass × (view l.pass ≡ view l.initial.pass) × (l.item ≡ l.initial.item)
