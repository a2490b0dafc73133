use Rattle.netperm_table.proofs.LawLemmas.{ended_settles}
use Rattle.netperm_table.proofs.laws.a_line_that_ended_settles_its_fault.Goals as goal

pub returns : goal.returns
returns c = ended_settles
