use Rattle.drill_lines.proofs.Examples.{first_table}
use Rattle.drill_lines.proofs.laws.the_first_draws.Goals as goal

pub returns-clause-table : goal.returns-clause-table
returns-clause-table c = first_table
