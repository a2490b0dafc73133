use Rattle.std.proofs.Common.{◌≡◌, ◌++◌}
use Rattle.std.specs.Prelude.{replicate}
use Rattle.bastion_ready.proofs.doors.push_doors.Given as goal

abbrev pub invariant-loop-made : goal.invariant-loop-made
invariant-loop-made l = l.doors.items ≡ l.fn.doors.items ++ replicate l._made l.post
