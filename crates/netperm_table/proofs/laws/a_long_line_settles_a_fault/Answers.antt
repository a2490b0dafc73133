use Rattle.netperm_table.proofs.LawLemmas.{long_first, long_settles}
use Rattle.netperm_table.proofs.laws.a_long_line_settles_a_fault.Goals as goal

pub returns-clause-first : goal.returns-clause-first
returns-clause-first c = long_first

pub returns-clause-later : goal.returns-clause-later
returns-clause-later c = long_settles
