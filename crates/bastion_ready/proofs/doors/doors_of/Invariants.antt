use Rattle.std.proofs.Common.{◌≡◌, take}
use Rattle.std.specs.Prelude.{flat_map, replicate}
use Rattle.bastion_ready.proofs.doors.doors_of.Given as goal

abbrev pub invariant-loop-post : goal.invariant-loop-post
invariant-loop-post l = l.doors.items ≡ flat_map (λ post. replicate l.plan.workers post) (take l.post-index l.plan.posts)
