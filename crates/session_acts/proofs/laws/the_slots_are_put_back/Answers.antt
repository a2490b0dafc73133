use Rattle.session_acts.proofs.DeedLemmas.{all_last, held_deeds}
use Rattle.session_acts.proofs.StoredLemmas.{back_lasts}
use Rattle.session_acts.specs.Session.{deeds_of}
use Rattle.session_acts.proofs.laws.the_slots_are_put_back.Goals as goal

pub returns : goal.returns
returns g c = λ rows first old new ending held. all_last back_lasts (deeds_of held) old new (held_deeds held)
