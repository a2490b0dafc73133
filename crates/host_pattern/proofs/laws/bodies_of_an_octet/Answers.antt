use Rattle.host_pattern.proofs.BucketLaws.{bodies}
use Rattle.host_pattern.proofs.laws.bodies_of_an_octet.Goals as goal

pub returns : goal.returns
returns c = bodies
