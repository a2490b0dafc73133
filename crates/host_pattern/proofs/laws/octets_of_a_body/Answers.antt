use Rattle.host_pattern.proofs.BucketLaws.{octets}
use Rattle.host_pattern.proofs.laws.octets_of_a_body.Goals as goal

pub returns : goal.returns
returns c = octets
