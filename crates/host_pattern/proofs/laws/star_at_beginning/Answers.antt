use Rattle.host_pattern.proofs.GlobLaws.{at_beginning}
use Rattle.host_pattern.proofs.laws.star_at_beginning.Goals as goal

pub returns : goal.returns
returns c = at_beginning
