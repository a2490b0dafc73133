use Rattle.host_pattern.proofs.BucketLaws.{lists}
use Rattle.host_pattern.proofs.laws.lists_reach_the_octet.Goals as goal

pub returns : goal.returns
returns c = lists
