use Rattle.session_acts.specs.Deeds.{deeds_ran}
use Rattle.smap_gate.proofs.AskedLemmas.{asks_met, deposits_asked}
use Rattle.smap_gate.proofs.WantedLemmas.{are_wanted}
use Rattle.smap_gate.proofs.laws.each_act_is_wanted.Goals as goal

pub returns-clause-each : goal.returns-clause-each
returns-clause-each g c = λ gate old new ending held. are_wanted gate old new ending held

pub returns-clause-deposits : goal.returns-clause-deposits
returns-clause-deposits g c = λ gate old new ending held. deposits_asked gate (deeds_ran held.ran) (are_wanted gate old new ending held)

pub returns-clause-asks : goal.returns-clause-asks
returns-clause-asks g c = λ gate old new ending held. asks_met gate (deeds_ran held.ran) (are_wanted gate old new ending held)
