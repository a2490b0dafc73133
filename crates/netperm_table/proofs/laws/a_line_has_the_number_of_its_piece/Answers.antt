use Rattle.netperm_table.proofs.LawLemmas.{numbered}
use Rattle.netperm_table.proofs.laws.a_line_has_the_number_of_its_piece.Goals as goal

pub returns : goal.returns
returns c = numbered
