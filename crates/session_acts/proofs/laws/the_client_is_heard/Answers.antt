use Rattle.session_acts.proofs.HearingLemmas.{held_heard}
use Rattle.session_acts.proofs.laws.the_client_is_heard.Goals as goal

pub returns : goal.returns
returns g c = held_heard
