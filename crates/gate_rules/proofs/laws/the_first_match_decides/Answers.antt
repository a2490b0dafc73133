use Rattle.gate_rules.proofs.LawLemmas.{first_match}
use Rattle.gate_rules.proofs.laws.the_first_match_decides.Goals as goal

pub returns : goal.returns
returns c = first_match
