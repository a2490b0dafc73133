use Rattle.host_pattern.proofs.ListLemmas.{next_decides}
use Rattle.host_pattern.proofs.laws.others_are_passed.Goals as goal

pub returns : goal.returns
returns c = next_decides
