use Rattle.host_pattern.proofs.BucketLaws.{needs_octet}
use Rattle.host_pattern.proofs.laws.other_octets_are_not_matched.Goals as goal

pub returns : goal.returns
returns c = needs_octet
