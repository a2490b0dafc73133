use Rattle.fw_acts.proofs.RunLemmas.{run_joined, run_parted, does_joined, does_parted}
use Rattle.fw_acts.proofs.laws.runs_join.Goals as goal

pub returns-clause-run : goal.returns-clause-run
returns-clause-run g c = λ rows r s t first more. run_joined rows r s t first more

pub returns-clause-parted : goal.returns-clause-parted
returns-clause-parted g c = λ rows r t first more. run_parted rows r t first more

pub returns-clause-does : goal.returns-clause-does
returns-clause-does g c = λ old mid new first more. does_joined old mid new first more

pub returns-clause-does_parted : goal.returns-clause-does_parted
returns-clause-does_parted g c = λ old new first more. does_parted old new first more
