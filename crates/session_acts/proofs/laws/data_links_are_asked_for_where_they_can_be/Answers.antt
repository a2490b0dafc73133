use Rattle.session_acts.proofs.DeedLemmas.{held_deeds}
use Rattle.session_acts.proofs.StandingLemmas.{all_ready}
use Rattle.session_acts.specs.Session.{deeds_of}
use Rattle.session_acts.proofs.laws.data_links_are_asked_for_where_they_can_be.Goals as goal

pub returns : goal.returns
returns g c = λ rows first old new ending held. all_ready (deeds_of held) old new (held_deeds held)
