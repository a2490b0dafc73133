use Rattle.std.proofs.Common.{refl, Ok, Err}
use Rattle.session_acts.proofs.StageLemmas.{takes_on}
use Rattle.session_acts.proofs.desk.DeskStage.take.Goals as goal

pub returns-in-Ok : goal.returns-in-Ok
returns-in-Ok g c = record { client = refl; logs = refl; office = refl; server = takes_on (Ok c.in-Ok.heard) _ _ _ _ _ c.in-Ok.ensures; store = refl; names = refl; may = tt }

pub returns-in-Err : goal.returns-in-Err
returns-in-Err g c = record {
  halt = c.in-Err.silence;
  is_cause = c.silence_cause.ensures;
  met = record { client = refl; logs = refl; office = refl; server = takes_on (Err c.in-Err.silence) _ _ _ _ _ c.in-Err.ensures; store = refl; names = refl; may = tt };
}
