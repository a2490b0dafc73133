-- What a session hears of its servers and what it relays of them: over each link, from where it came up to where it was
-- hung up.
use Rattle.std.specs.Prelude.{◌≡◌, ℕ, ◌≤◌, false, List, [], ◌∷◌, ◌++◌, length, Option, Some, None, Result, Ok, Err}
use Rattle.std.specs.List.{concat}
use Rattle.fw_outside.specs.Counts.{Grew}
use Rattle.fw_outside.specs.DialerView.{LinkView}
use Rattle.fw_outside.specs.SourceView.{SourceView}
use Rattle.session_acts.specs.Acts.{Act, Outcome, Unreplied}
use Rattle.session_acts.specs.Acts.Unreplied.{NotHeard, NotSaid}
use Rattle.relay_ways.specs.Carried.{Way}
use Rattle.session_acts.specs.Acts.Act.{Dial, HangUp, Reach, Relay, Take, TakeReply}
use Rattle.session_acts.specs.Deeds.{Deed}
use Rattle.session_acts.specs.Hearing.{AreHeard, Fate, heard_by}
use Rattle.session_acts.specs.Hearing.Fate.{IsHeard, IsCarried}
use Rattle.session_acts.specs.Laws.{Adds}
use Rattle.session_acts.specs.Passing.{AreOver, IsGiven, Known, over_each, up_if_dialed, up_if_reached, up_with}
use Rattle.session_acts.specs.Relaying.{Flow, flow_of}
use Rattle.session_acts.specs.World.{World}
use Rattle.session_acts.specs.declared.form.Form.TheVariants.{Lines}
use Rattle.session_acts.specs.declared.replied.Replied.{Replied}
use Rattle.session_acts.specs.declared.reply_use.ReplyUse.{ReplyUse}
use Rattle.session_acts.specs.declared.toward.Toward.{Toward}
use Rattle.session_acts.specs.declared.toward.Toward.TheVariants as toward

-- the text that came of a reply
abbrev pub reply_text : {how : ReplyUse} → Result (Replied × List ℕ) (Unreplied how) → List ℕ
reply_text (Ok answer) = answer.1
reply_text (Err (NotHeard silence text begun)) = text
reply_text (Err (NotSaid text front)) = text

abbrev pub carried_down : Option Flow → List Fate
carried_down None = []
carried_down (Some flow) = IsCarried flow.down.taken ∷ []

-- what was heard and relayed of the server over the link that is up after an act, if one is
abbrev pub heard_after : (act : Act) → Outcome act → Option (List Fate) → Option (List Fate)
heard_after (Dial dest) outcome up = up_if_dialed outcome
heard_after (Reach dest) outcome up = up_if_reached outcome
heard_after HangUp outcome up = None
heard_after Take outcome up = up_with up (IsHeard Lines (heard_by outcome) ∷ [])
heard_after Relay outcome up = up_with up (carried_down (flow_of outcome))
heard_after (TakeReply how) outcome up = up_with up (IsCarried (reply_text outcome) ∷ [])
heard_after act outcome up = up

-- what was taken of each data link by a copy
abbrev pub copy_heard : Toward → Way → List Fate × List Fate
copy_heard toward.Client way = (IsCarried way.taken ∷ [], [])
copy_heard toward.Server way = ([], IsCarried way.taken ∷ [])

abbrev pub heard_known : Known Fate
heard_known = record { after = heard_after; beside = copy_heard }

-- what was heard and relayed of the server over each link that these deeds hung up, and what was copied of each data link
-- that they let go, one after another, where no pair of data links was up before
abbrev pub heard_over : Option (List Fate) → List Deed → List (List Fate)
heard_over up deeds = over_each heard_known up false deeds

-- All that was taken over a link is the pieces that were heard or relayed, one after another, and then at most 4,096 bytes
-- that weren't heard.
pub record WasHeard (heards : List Fate) (link : LinkView) : Type 0 where
  pub bytes : List ℕ
  pub pieces : List (List ℕ)
  pub unheard : List ℕ
  pub grew : Grew (length bytes) 0 link.from.amount
  pub took : IsGiven bytes link.from.taken
  pub are_heard : AreHeard heards pieces
  pub all : bytes ≡ concat pieces ++ unheard
  pub near : length unheard ≤ 4096

-- these links were hung up, where the dialer tells, and of their servers this was heard
pub record HearsServers {Origin : Type 0} (heards : List (List Fate)) (old new : World Origin) : Type 0 where
  pub links : List LinkView
  pub ended : Adds links old.server.dialer.ended new.server.dialer.ended
  pub heard : AreOver WasHeard heards links
