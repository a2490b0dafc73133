use Rattle.drill_lines.proofs.Examples.{small_counts, small_table}
use Rattle.drill_lines.proofs.laws.a_small_drill.Goals as goal

pub returns-clause-table : goal.returns-clause-table
returns-clause-table c = small_table

pub returns-clause-counts : goal.returns-clause-counts
returns-clause-counts c = small_counts
