use Rattle.session_acts.proofs.DeedLemmas.{all_gain, held_deeds}
use Rattle.session_acts.proofs.LinkedLemmas.{linked_gains}
use Rattle.session_acts.proofs.OwedLemmas.{held_unlinked}
use Rattle.session_acts.proofs.PairLemmas.{held_unpaired}
use Rattle.session_acts.specs.Session.{deeds_of}
use Rattle.session_acts.proofs.laws.the_links_are_hung_up.Goals as goal

pub returns : goal.returns
returns g c = record {
  links = λ rows first old new ending held. all_gain linked_gains (deeds_of held) old new (held_deeds held);
  none = held_unlinked;
  apart = held_unpaired;
}
