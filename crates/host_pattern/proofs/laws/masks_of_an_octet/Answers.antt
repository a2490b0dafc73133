use Rattle.host_pattern.proofs.BucketLaws.{masked_bodies}
use Rattle.host_pattern.proofs.laws.masks_of_an_octet.Goals as goal

pub returns : goal.returns
returns c = masked_bodies
