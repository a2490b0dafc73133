use Rattle.session_acts.proofs.RelayLastLemmas.{held_relays}
use Rattle.session_acts.proofs.laws.the_relay_is_last.Goals as goal

pub returns : goal.returns
returns g c = λ rows first old new ending held. held_relays rows first old new ending held
