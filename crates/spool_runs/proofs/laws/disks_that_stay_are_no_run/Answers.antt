use Rattle.spool_runs.proofs.HistoryLemmas.{stays_same}
use Rattle.spool_runs.proofs.laws.disks_that_stay_are_no_run.Goals as goal

pub returns : goal.returns
returns c = stays_same
