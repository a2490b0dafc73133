use Rattle.session_acts.proofs.OwedLemmas.{held_closed}
use Rattle.session_acts.proofs.laws.the_session_is_closed.Goals as goal

pub returns : goal.returns
returns g c = held_closed
