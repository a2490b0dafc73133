use Rattle.host_pattern.proofs.ListLemmas.{first_decides}
use Rattle.host_pattern.proofs.laws.first_match_decides.Goals as goal

pub returns : goal.returns
returns c = first_decides
