use Rattle.auth_machine.proofs.GroupLemmas.{new_ones_are_newcomers, others_stay, ranks_stay}
use Rattle.auth_machine.proofs.laws.group_wizards_stay_in_their_group.Goals as goal

pub returns-clause-others : goal.returns-clause-others
returns-clause-others c = others_stay

pub returns-clause-new_ones : goal.returns-clause-new_ones
returns-clause-new_ones c = new_ones_are_newcomers

pub returns-clause-ranks : goal.returns-clause-ranks
returns-clause-ranks c = ranks_stay
