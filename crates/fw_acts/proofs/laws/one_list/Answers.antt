use Rattle.std.proofs.Common.{[]}
use Rattle.fw_acts.proofs.FrontLemmas.{one_list, one_list_agreed}
use Rattle.fw_acts.proofs.laws.one_list.Goals as goal

pub returns-clause-answered : goal.returns-clause-answered
returns-clause-answered g c = λ answers rows r s t a b. one_list answers rows [] r s t a b

pub returns-clause-agreed : goal.returns-clause-agreed
returns-clause-agreed g c = λ rows r s t a b. one_list_agreed rows r s t a b
