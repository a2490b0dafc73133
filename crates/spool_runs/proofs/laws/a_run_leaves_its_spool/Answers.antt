use Rattle.std.proofs.Common.{length}
use Rattle.spool_runs.proofs.TapeLemmas.{on_after}
use Rattle.spool_runs.proofs.laws.a_run_leaves_its_spool.Goals as goal

pub returns : goal.returns
returns c = λ answered accepted old new w run on. on_after 0 (length old) run.events w old new run.are on run.disks
