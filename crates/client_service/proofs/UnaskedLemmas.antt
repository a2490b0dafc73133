-- A session that asks nothing of the port leaves it as it was, and the clock and the dice.
use Rattle.std.proofs.Common.{◌≡◌, ◌∙◌, refl, List, [], ◌∷◌, ◌++◌}
use Rattle.std.specs.Prelude.{Option, Some, None, Ok, Err}
use Rattle.auth_events.specs.declared.reply.Reply.{Reply}
use Rattle.auth_events.specs.declared.request.Request.{Request}
use Rattle.auth_events.specs.declared.request.Request.TheVariants.{Password}
use Rattle.fw_acts.specs.Acts.{Row, PlaceTable}
use Rattle.fw_types.specs.declared.ending.Ending.{Ending}
use Rattle.session_acts.specs.Acts.{Act, Outcome}
use Rattle.session_acts.specs.Acts.Act.{Hear, Say, Try, Log, Note, Ask, Renew, Dial, Reach, Take, Pass, HangUp, Relay, Deposit, Allot, TakeReply, OpenDoor, Join, Copy, Part}
use Rattle.session_acts.specs.Deeds.{Gains, gives}
use Rattle.session_acts.specs.Met.{Met, acts, reply_of}
use Rattle.session_acts.specs.Session.{Held, deeds_of}
use Rattle.session_acts.specs.Talk.{asked}
use Rattle.session_acts.specs.World.{World}
use Rattle.session_acts.proofs.DeedLemmas.{all_gain, held_deeds}

-- what has a first one isn't empty
never_empty : {A : Type 0} (one : A) (more : List A) → one ∷ more ≡ [] → ⊥
never_empty one more is = absurd (cc)

-- of two lists that are empty together each is
none_first : {A : Type 0} (first more : List A) → first ++ more ≡ [] → first ≡ []
none_first [] more is = refl
none_first (one ∷ first) more is = absurd (never_empty one (first ++ more) is)

none_more : {A : Type 0} (first more : List A) → first ++ more ≡ [] → more ≡ []
none_more [] more is = is
none_more (one ∷ first) more is = absurd (never_empty one (first ++ more) is)

module _ {Origin : Type 0} where
  abbrev OfficeStays : List (Request × Option Reply) → World Origin → World Origin → Type 0
  OfficeStays asks old new = asks ≡ [] → new.office ≡ old.office

  unasked_one : (act : Act) (outcome : Outcome act) (old new : World Origin) → Met act outcome old new → OfficeStays (asked act outcome) old new
  unasked_one (Ask request) outcome old new met is = absurd (never_empty (request, reply_of outcome) [] is)
  unasked_one (Renew name hash) (Ok salts) old new met is = absurd (never_empty (Password name salts.0 hash, Some salts.1) [] is)
  unasked_one (Renew name hash) (Err salts) old new met is = absurd (never_empty (Password name salts.0 hash, None) [] is)
  unasked_one (Hear form) outcome old new met is = met.office
  unasked_one (Say text) outcome old new met is = met.office
  unasked_one (Try text) outcome old new met is = met.office
  unasked_one (Log text) outcome old new met is = met.office
  unasked_one (Note text) outcome old new met is = met.office
  unasked_one (Dial dest) outcome old new met is = met.office
  unasked_one (Reach dest) outcome old new met is = met.office
  unasked_one Take outcome old new met is = met.office
  unasked_one (Pass text) outcome old new met is = met.office
  unasked_one HangUp outcome old new met is = met.office
  unasked_one Relay outcome old new met is = met.office
  unasked_one (Deposit sender rcpts words most) outcome old new met is = met.office
  unasked_one Allot outcome old new met is = met.office
  unasked_one (TakeReply how) outcome old new met is = met.office
  unasked_one OpenDoor outcome old new met is = met.office
  unasked_one (Join dest target) outcome old new met is = met.office
  unasked_one (Copy toward) outcome old new met is = met.office
  unasked_one Part outcome old new met is = met.office

  unasked_gains : Gains Origin asked OfficeStays
  unasked_gains = record {
    none = λ world is. refl;
    both = λ first more old mid new a b is. b (none_more first more is) ∙ a (none_first first more is);
    one = λ act outcome old new met. unasked_one act outcome old new met;
  }

  pub unasked_office : {P : Type 0} {rows : PlaceTable (acts Origin) P} {first : Row (acts Origin) P} {old new : World Origin} {ending : Ending} (held : Held rows first old new ending) → gives asked (deeds_of held) ≡ [] → new.office ≡ old.office
  unasked_office {old = old} {new = new} held none = all_gain unasked_gains (deeds_of held) old new (held_deeds held) none
