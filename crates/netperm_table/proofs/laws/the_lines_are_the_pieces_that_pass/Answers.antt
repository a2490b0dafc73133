use Rattle.netperm_table.proofs.LawLemmas.{whole}
use Rattle.netperm_table.proofs.laws.the_lines_are_the_pieces_that_pass.Goals as goal

pub returns : goal.returns
returns c = whole
