use Rattle.session_acts.proofs.LastStopLemmas.{memory_lacked}
use Rattle.session_acts.proofs.laws.the_memory_was_lacking.Goals as goal

pub returns : goal.returns
returns g c = λ rows first old new ending held is. memory_lacked held is
