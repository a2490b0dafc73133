use Rattle.session_acts.proofs.DeedLemmas.{all_gain, held_deeds}
use Rattle.session_acts.proofs.StoredLemmas.{faulted_gains, unslotted_gains}
use Rattle.session_acts.specs.Session.{deeds_of}
use Rattle.session_acts.proofs.laws.the_lost_messages_are_counted.Goals as goal

pub returns-clause-unslotted : goal.returns-clause-unslotted
returns-clause-unslotted g c = λ rows first old new ending held. all_gain unslotted_gains (deeds_of held) old new (held_deeds held)

pub returns-clause-faulted : goal.returns-clause-faulted
returns-clause-faulted g c = λ rows first old new ending held. all_gain faulted_gains (deeds_of held) old new (held_deeds held)
