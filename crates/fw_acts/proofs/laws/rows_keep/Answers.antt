use Rattle.std.proofs.Common.{◌∷◌, ◌++◌}
use Rattle.fw_acts.specs.Histories.{history}
use Rattle.fw_acts.proofs.HistoryLemmas.{run_leaves, run_may, may_each, next_may}
use Rattle.fw_acts.proofs.laws.rows_keep.Goals as goal

pub returns-clause-leaves : goal.returns-clause-leaves
returns-clause-leaves g c = λ rows keeps r s noted steps. run_leaves rows g.W.Watcher.watch keeps r s noted steps

pub returns-clause-each : goal.returns-clause-each
returns-clause-each g c = λ rows keeps r s noted first step more leaves run.
    may_each g.W.Watcher.watch noted first step more (run_may rows g.W.Watcher.watch keeps r s noted (first ++ (step ∷ more)) leaves run)

pub returns-clause-next : goal.returns-clause-next
returns-clause-next g c = λ rows keeps r s noted steps act leaves run.
    next_may rows g.W.Watcher.watch keeps s (history g.W.Watcher.watch noted steps) act (run_leaves rows g.W.Watcher.watch keeps r s noted steps leaves run)
