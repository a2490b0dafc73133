use Rattle.session_acts.proofs.LastStopLemmas.{stops_last}
use Rattle.session_acts.proofs.laws.a_stop_is_last.Goals as goal

pub returns : goal.returns
returns g c = λ rows first old new ending cause held stopped. stops_last cause held stopped
