use Rattle.host_pattern.proofs.BucketLaws.{needs_address}
use Rattle.host_pattern.proofs.laws.octets_need_an_address.Goals as goal

pub returns : goal.returns
returns c = needs_address
