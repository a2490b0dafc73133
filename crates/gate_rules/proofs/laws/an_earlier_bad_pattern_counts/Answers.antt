use Rattle.gate_rules.proofs.LawLemmas.{earlier_bad}
use Rattle.gate_rules.proofs.laws.an_earlier_bad_pattern_counts.Goals as goal

pub returns : goal.returns
returns c = earlier_bad
