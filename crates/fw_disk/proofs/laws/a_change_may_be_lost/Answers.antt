use Rattle.fw_disk.proofs.MediumLemmas.{written_lost, cut_lost}
use Rattle.fw_disk.proofs.laws.a_change_may_be_lost.Goals as goal

pub returns-clause-written : goal.returns-clause-written
returns-clause-written c = written_lost

pub returns-clause-cut : goal.returns-clause-cut
returns-clause-cut c = cut_lost
