use Rattle.gate_rules.proofs.LawLemmas.{follow}
use Rattle.gate_rules.proofs.laws.options_follow_one_another.Goals as goal

pub returns : goal.returns
returns c = follow
