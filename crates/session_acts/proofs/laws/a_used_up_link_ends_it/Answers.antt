use Rattle.session_acts.proofs.UsedUpLemmas.{link_used}
use Rattle.session_acts.proofs.laws.a_used_up_link_ends_it.Goals as goal

pub returns : goal.returns
returns g c = λ relays rows first old new ending session link up whole. link_used relays rows first old new ending session link up whole
