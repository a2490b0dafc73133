use Rattle.std.proofs.Common.{◌∷◌, []}
use Rattle.telnet.proofs.ItemLemmas.{data_of-is}
use Rattle.telnet.proofs.LawLemmas.{choice_unfinished, inside_unfinished, pair_unfinished}
use Rattle.telnet.proofs.laws.unfinished_items.Goals as goal

pub returns-clause-nothing : goal.returns-clause-nothing
returns-clause-nothing c = data_of-is []

pub returns-clause-command : goal.returns-clause-command
returns-clause-command c = data_of-is (255 ∷ [])

pub returns-clause-choice : goal.returns-clause-choice
returns-clause-choice c = choice_unfinished

pub returns-clause-inside : goal.returns-clause-inside
returns-clause-inside c = inside_unfinished

pub returns-clause-pair : goal.returns-clause-pair
returns-clause-pair c = pair_unfinished
