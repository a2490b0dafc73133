use Rattle.spool_runs.proofs.HistoryLemmas.{new_on}
use Rattle.spool_runs.proofs.laws.new_slots_are_a_spool.Goals as goal

pub returns : goal.returns
returns c = new_on 0
