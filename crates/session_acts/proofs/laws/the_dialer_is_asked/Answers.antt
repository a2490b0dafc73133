use Rattle.session_acts.proofs.DeedLemmas.{all_gain, held_deeds}
use Rattle.session_acts.proofs.LinkedLemmas.{called_gains}
use Rattle.session_acts.specs.Session.{deeds_of}
use Rattle.session_acts.proofs.laws.the_dialer_is_asked.Goals as goal

pub returns : goal.returns
returns g c = λ rows first old new ending held. all_gain called_gains (deeds_of held) old new (held_deeds held)
