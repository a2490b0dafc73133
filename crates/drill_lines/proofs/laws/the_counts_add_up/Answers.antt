use Rattle.drill_lines.proofs.CountLemmas.{add_up}
use Rattle.drill_lines.proofs.laws.the_counts_add_up.Goals as goal

pub returns : goal.returns
returns c = add_up
