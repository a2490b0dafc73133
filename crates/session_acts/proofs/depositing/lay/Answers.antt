use Rattle.std.proofs.Common.{subst, sym, List, ℕ, ◌++◌}
use Rattle.session_acts.proofs.FillLemmas.{late_away, late_large}
use Rattle.session_acts.specs.Intake.{IsTray}
use Rattle.session_acts.proofs.depositing.lay.Goals as goal

pub returns-in-Open-clause-tray : goal.returns-in-Open-clause-tray
returns-in-Open-clause-tray g c = rw c.in-Open.is (λ sender rcpts most slot given laid. c.lay_open.ensures.tray sender rcpts most slot given laid.filled laid.room)
