use Rattle.std.proofs.Common.{◌≡◌, ◌++◌, [], drop}
use Rattle.bastion_ready.specs.Words.{others_in}
use Rattle.bastion_ready.proofs.doors.services_of.Given as goal

abbrev pub invariant-loop-service : goal.invariant-loop-service
invariant-loop-service l = l.services.items ++ others_in l.services.items (drop l.service-index l.posts) ≡ others_in [] l.posts
