use Rattle.session_acts.proofs.BrokenLemmas.{broken_gains}
use Rattle.session_acts.proofs.DeedLemmas.{all_gain, held_deeds}
use Rattle.session_acts.specs.Session.{deeds_of}
use Rattle.session_acts.proofs.laws.the_broken_copies_are_counted.Goals as goal

pub returns : goal.returns
returns g c = λ rows first old new ending held. all_gain broken_gains (deeds_of held) old new (held_deeds held)
