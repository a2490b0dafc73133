use Rattle.gate_rules.proofs.LawLemmas.{other_lines}
use Rattle.gate_rules.proofs.laws.other_lines_say_nothing.Goals as goal

pub returns : goal.returns
returns c = other_lines
