use Rattle.netperm_table.proofs.WordLemmas.{words_after-drop}
use Rattle.netperm_table.proofs.laws.the_words_after_bytes_are_those_of_the_rest.Goals as goal

pub returns : goal.returns
returns c = words_after-drop
