use Rattle.fw_acts.proofs.LongerLemmas.{goes_on_for, goes_on_to_place, over_is_over}
use Rattle.fw_acts.proofs.laws.runs_go_on.Goals as goal

pub returns-clause-settles : goal.returns-clause-settles
returns-clause-settles g c = λ answers rows r s first. goes_on_to_place answers rows r s first

pub returns-clause-lasts : goal.returns-clause-lasts
returns-clause-lasts g c = λ answers rows r s first count. goes_on_for answers rows r s first count

pub returns-clause-over : goal.returns-clause-over
returns-clause-over g c = λ rows steps t. over_is_over rows steps t
