use Rattle.drill_lines.proofs.ReadLemmas.{drawn_reads}
use Rattle.drill_lines.proofs.laws.what_is_drawn_can_be_read.Goals as goal

pub returns : goal.returns
returns c = drawn_reads
