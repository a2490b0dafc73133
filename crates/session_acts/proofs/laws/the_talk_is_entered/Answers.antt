use Rattle.session_acts.proofs.DeedLemmas.{all_gain, held_deeds}
use Rattle.session_acts.proofs.EntryLemmas.{whole_talk}
use Rattle.session_acts.proofs.TalkLemmas.{entered_gains}
use Rattle.session_acts.specs.Deeds.{gives}
use Rattle.session_acts.specs.Session.{deeds_of}
use Rattle.session_acts.specs.Talk.{asked, numbers_told}
use Rattle.session_acts.proofs.laws.the_talk_is_entered.Goals as goal

pub returns : goal.returns
returns g c = record {
  entered = λ rows first old new ending held. all_gain entered_gains (deeds_of held) old new (held_deeds held);
  refused = λ rows first old new ending held. (all_gain entered_gains (deeds_of held) old new (held_deeds held)).port.refused;
  whole = λ rows first old new ending held none all.
      let entered = all_gain entered_gains (deeds_of held) old new (held_deeds held) in
      (whole_talk (numbers_told old.office.opened (gives asked (deeds_of held))) entered.moments (gives asked (deeds_of held)) old.office.port new.office.port none all entered.port).0;
}
