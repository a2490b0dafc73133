use Rattle.host_pattern.proofs.GlobLaws.{plain}
use Rattle.host_pattern.proofs.laws.plain_is_itself.Goals as goal

pub returns : goal.returns
returns c = plain
