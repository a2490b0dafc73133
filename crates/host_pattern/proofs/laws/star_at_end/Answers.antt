use Rattle.host_pattern.proofs.GlobLaws.{at_end}
use Rattle.host_pattern.proofs.laws.star_at_end.Goals as goal

pub returns : goal.returns
returns c = at_end
