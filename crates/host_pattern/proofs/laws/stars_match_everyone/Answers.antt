use Rattle.host_pattern.proofs.PartyLaws.{everyone}
use Rattle.host_pattern.proofs.laws.stars_match_everyone.Goals as goal

pub returns : goal.returns
returns c = everyone
