use Rattle.gate_rules.proofs.LeftmostLemmas.{leftmost}
use Rattle.gate_rules.proofs.laws.a_cause_that_a_word_shows_stays.Goals as goal

pub returns : goal.returns
returns c = leftmost
