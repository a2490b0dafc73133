use Rattle.gate_rules.proofs.LawLemmas.{first_bad_line}
use Rattle.gate_rules.proofs.laws.the_first_bad_line_is_the_fault.Goals as goal

pub returns : goal.returns
returns c = first_bad_line
