use Rattle.host_pattern.proofs.PartyLaws.{names}
use Rattle.host_pattern.proofs.laws.names_need_a_name.Goals as goal

pub returns : goal.returns
returns c = names
