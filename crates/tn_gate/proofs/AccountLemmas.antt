-- What is noted of deeds, one after another, and that it comes to what the definitions say of the whole list.
use Rattle.std.proofs.Common.{◌≡◌, refl, sym, ap, subst, ◌∙◌, ℕ, Bool, true, false, List, [], ◌∷◌, ◌++◌, map, Option, Some, None, Result, Ok, Err, append_assoc, append-nil}
use Rattle.std.specs.List.{AllByRecursion}
use Rattle.std.proofs.lemmas.List.{map-append}
use Rattle.std.proofs.lemmas.List.Elements.{filter_map-append}
use Rattle.auth_events.specs.declared.reply.Reply.{Reply}
use Rattle.auth_events.specs.declared.request.Request.{Request}
use Rattle.fw_outside.specs.declared.ask.Ask as outside
use Rattle.fw_outside.specs.declared.ask.Ask.TheVariants.{Main}
use Rattle.fw_outside.specs.declared.heard.Heard.{Heard}
use Rattle.fw_types.specs.declared.dest.Dest.{Dest}
use Rattle.session_acts.specs.Acts.{Act, Outcome}
use Rattle.session_acts.specs.Acts.Act.{Hear, Say, Try, Log, Note, Ask, Renew, Dial, Reach, Take, Pass, HangUp, Relay, Deposit, Allot, TakeReply, OpenDoor, Join, Copy, Part}
use Rattle.session_acts.specs.Deeds.{Deed, gives}
use Rattle.session_acts.specs.Hearing.{heard_by}
use Rattle.session_acts.specs.Laws.{called}
use Rattle.session_acts.specs.Talk.{answered, asked, replied}
use Rattle.tn_gate.specs.Asked.{Role, Turn, asked_for, asked_from, asked_in, first_role, role_after, talk_before, talk_in, turns_of}
use Rattle.tn_gate.specs.Gate.{Gate}

abbrev pub Talk : Type 0
Talk = List (Request × Reply)

-- all deeds; the destinations that the lines before this one ask for; those that were dialed; the role of this line, or of
-- the first; the line; what was said before it; and what was said for it
pub record Noted : Type 0 where
  pub deeds : List Deed
  pub asks : List Dest
  pub calls : List Dest
  pub role : Role
  pub heard : Option Heard
  pub talk : Talk
  pub said : Talk

abbrev pub turn : Heard → Talk → Turn
turn heard said = record { heard = heard; talk = said }

-- the role of the next line
abbrev pub next_role : Option Heard → Role → Talk → Role
next_role None role said = role
next_role (Some heard) role said = role_after role (turn heard said)

-- what this line asks for
abbrev pub asks_now : Gate → Option Heard → Role → Talk → Talk → List Dest
asks_now gate None role talk said = []
asks_now gate (Some heard) role talk said = asked_in gate role talk (turn heard said)

abbrev pub total : Gate → Noted → List Dest
total gate n = n.asks ++ asks_now gate n.heard n.role n.talk n.said

abbrev pub deed_of : (act : Act) → Outcome act → Deed
deed_of act outcome = record { act = act; outcome = outcome }

abbrev pub note : Gate → Noted → (act : Act) → Outcome act → Noted
note gate n (Hear form) outcome = record {
  deeds = n.deeds ++ deed_of (Hear form) outcome ∷ [];
  asks = total gate n;
  calls = n.calls;
  role = next_role n.heard n.role n.said;
  heard = Some (heard_by outcome);
  talk = n.talk ++ n.said;
  said = [];
}
note gate n (Ask request) outcome = record n { deeds = n.deeds ++ deed_of (Ask request) outcome ∷ []; said = n.said ++ talk_in (Ask request) outcome }
note gate n (Renew name hash) outcome = record n { deeds = n.deeds ++ deed_of (Renew name hash) outcome ∷ []; said = n.said ++ talk_in (Renew name hash) outcome }
note gate n (Dial dest) outcome = record n { deeds = n.deeds ++ deed_of (Dial dest) outcome ∷ []; calls = n.calls ++ dest ∷ [] }
note gate n (Reach dest) outcome = record n { deeds = n.deeds ++ deed_of (Reach dest) outcome ∷ []; calls = n.calls ++ dest ∷ [] }
note gate n act outcome = record n { deeds = n.deeds ++ deed_of act outcome ∷ [] }

abbrev pub noted_after : Gate → Noted → List Deed → Noted
noted_after gate n [] = n
noted_after gate n (deed ∷ deeds) = noted_after gate (note gate n deed.act deed.outcome) deeds

-- nothing was done
abbrev pub at_start : Gate → Noted
at_start gate = record { deeds = []; asks = []; calls = []; role = first_role gate; heard = None; talk = []; said = [] }

-- ---- some deeds, and then others

pub noted_both : (gate : Gate) (n : Noted) (first more : List Deed) → noted_after gate n (first ++ more) ≡ noted_after gate (noted_after gate n first) more
noted_both gate n [] more = refl
noted_both gate n (deed ∷ first) more = noted_both gate (note gate n deed.act deed.outcome) first more

-- ---- what is asked for

-- what is asked for by this line, which these words follow, and by those after it
abbrev from_here : Gate → Noted → Talk → List Turn → List Dest
from_here gate n words turns =
    n.asks ++ (asks_now gate n.heard n.role n.talk (n.said ++ words) ++ asked_from gate (next_role n.heard n.role (n.said ++ words)) (n.talk ++ (n.said ++ words)) turns)

-- one thing more was said for this line
said_more : (gate : Gate) (n : Noted) (words more : Talk) (turns : List Turn) → from_here gate (record n { said = n.said ++ words }) more turns ≡ from_here gate n (words ++ more) turns
said_more gate n words more turns =
    ap (λ (z : Talk). n.asks ++ (asks_now gate n.heard n.role n.talk z ++ asked_from gate (next_role n.heard n.role z) (n.talk ++ z) turns)) (append_assoc n.said words more)

-- the next line was heard
heard_more : (gate : Gate) (n : Noted) (heard : Heard) (more : Talk) (turns : List Turn)
    → total gate n ++ (asked_in gate (next_role n.heard n.role n.said) (n.talk ++ n.said) (turn heard more) ++ asked_from gate (role_after (next_role n.heard n.role n.said) (turn heard more)) ((n.talk ++ n.said) ++ more) turns)
    ≡ from_here gate n [] (turn heard more ∷ turns)
heard_more gate n heard more turns =
    let rest : List Dest = asked_from gate (next_role n.heard n.role n.said) (n.talk ++ n.said) (turn heard more ∷ turns) in
    append_assoc n.asks (asks_now gate n.heard n.role n.talk n.said) rest
    ∙ ap (λ (z : Talk). n.asks ++ (asks_now gate n.heard n.role n.talk z ++ asked_from gate (next_role n.heard n.role z) (n.talk ++ z) (turn heard more ∷ turns))) (sym (append-nil n.said))

nothing_more : (gate : Gate) (n : Noted) → total gate n ≡ from_here gate n [] []
nothing_more gate n =
    ap (λ (z : Talk). n.asks ++ asks_now gate n.heard n.role n.talk z) (sym (append-nil n.said)) ∙ ap (λ (z : List Dest). n.asks ++ z) (sym (append-nil (asks_now gate n.heard n.role n.talk (n.said ++ []))))

abbrev AllFrom : Gate → List Deed → Type 0
AllFrom gate deeds = (n : Noted) → total gate (noted_after gate n deeds) ≡ from_here gate n (talk_before deeds) (turns_of deeds)

total_by : (gate : Gate) (deeds : List Deed) → AllFrom gate deeds → (n : Noted) (act : Act) (outcome : Outcome act)
    → total gate (noted_after gate (note gate n act outcome) deeds) ≡ from_here gate n (talk_before (deed_of act outcome ∷ deeds)) (turns_of (deed_of act outcome ∷ deeds))
total_by gate deeds later n (Hear form) outcome = later (note gate n (Hear form) outcome) ∙ heard_more gate n (heard_by outcome) (talk_before deeds) (turns_of deeds)
total_by gate deeds later n (Ask request) outcome = later (note gate n (Ask request) outcome) ∙ said_more gate n (talk_in (Ask request) outcome) (talk_before deeds) (turns_of deeds)
total_by gate deeds later n (Renew name hash) outcome = later (note gate n (Renew name hash) outcome) ∙ said_more gate n (talk_in (Renew name hash) outcome) (talk_before deeds) (turns_of deeds)
total_by gate deeds later n (Say text) outcome = later (note gate n (Say text) outcome)
total_by gate deeds later n (Try text) outcome = later (note gate n (Try text) outcome)
total_by gate deeds later n (Log text) outcome = later (note gate n (Log text) outcome)
total_by gate deeds later n (Note text) outcome = later (note gate n (Note text) outcome)
total_by gate deeds later n (Dial dest) outcome = later (note gate n (Dial dest) outcome)
total_by gate deeds later n (Reach dest) outcome = later (note gate n (Reach dest) outcome)
total_by gate deeds later n Take outcome = later (note gate n Take outcome)
total_by gate deeds later n (Pass text) outcome = later (note gate n (Pass text) outcome)
total_by gate deeds later n HangUp outcome = later (note gate n HangUp outcome)
total_by gate deeds later n Relay outcome = later (note gate n Relay outcome)
total_by gate deeds later n (Deposit sender rcpts words most) outcome = later (note gate n (Deposit sender rcpts words most) outcome)
total_by gate deeds later n Allot outcome = later (note gate n Allot outcome)
total_by gate deeds later n (TakeReply how) outcome = later (note gate n (TakeReply how) outcome)
total_by gate deeds later n OpenDoor outcome = later (note gate n OpenDoor outcome)
total_by gate deeds later n (Join dest target) outcome = later (note gate n (Join dest target) outcome)
total_by gate deeds later n (Copy toward) outcome = later (note gate n (Copy toward) outcome)
total_by gate deeds later n Part outcome = later (note gate n Part outcome)

total_from : (gate : Gate) (deeds : List Deed) → AllFrom gate deeds
total_from gate [] n = nothing_more gate n
total_from gate (deed ∷ deeds) n = total_by gate deeds (total_from gate deeds) n deed.act deed.outcome

-- what the deeds of a session ask for
pub all_asked : (gate : Gate) (deeds : List Deed) → total gate (noted_after gate (at_start gate) deeds) ≡ asked_for gate deeds
all_asked gate deeds = total_from gate deeds (at_start gate)

-- ---- what was dialed

abbrev CallsFrom : Gate → List Deed → Type 0
CallsFrom gate deeds = (n : Noted) → map Main (noted_after gate n deeds).calls ≡ map Main n.calls ++ gives called deeds

dialed_more : (calls : List Dest) (dest : Dest) (more : List outside.Ask) → map Main (calls ++ dest ∷ []) ++ more ≡ map Main calls ++ (Main dest ∷ more)
dialed_more calls dest more = ap (λ (z : List outside.Ask). z ++ more) (map-append Main calls (dest ∷ [])) ∙ append_assoc (map Main calls) (Main dest ∷ []) more

-- an act that asks the dialer for more than a main link
abbrev pub asks_beside : Act → Bool
asks_beside OpenDoor = true
asks_beside (Join dest target) = true
asks_beside act = false

abbrev pub AllMain : List Deed → Type 0
AllMain deeds = AllByRecursion (λ (deed : Deed). asks_beside deed.act ≡ false) deeds

calls_by : (gate : Gate) (deeds : List Deed) → CallsFrom gate deeds → (n : Noted) (act : Act) (outcome : Outcome act) → asks_beside act ≡ false
    → map Main (noted_after gate (note gate n act outcome) deeds).calls ≡ map Main n.calls ++ gives called (deed_of act outcome ∷ deeds)
calls_by gate deeds later n (Hear form) outcome main = later (note gate n (Hear form) outcome)
calls_by gate deeds later n (Ask request) outcome main = later (note gate n (Ask request) outcome)
calls_by gate deeds later n (Renew name hash) outcome main = later (note gate n (Renew name hash) outcome)
calls_by gate deeds later n (Say text) outcome main = later (note gate n (Say text) outcome)
calls_by gate deeds later n (Try text) outcome main = later (note gate n (Try text) outcome)
calls_by gate deeds later n (Log text) outcome main = later (note gate n (Log text) outcome)
calls_by gate deeds later n (Note text) outcome main = later (note gate n (Note text) outcome)
calls_by gate deeds later n (Dial dest) outcome main = later (note gate n (Dial dest) outcome) ∙ dialed_more n.calls dest (gives called deeds)
calls_by gate deeds later n (Reach dest) outcome main = later (note gate n (Reach dest) outcome) ∙ dialed_more n.calls dest (gives called deeds)
calls_by gate deeds later n Take outcome main = later (note gate n Take outcome)
calls_by gate deeds later n (Pass text) outcome main = later (note gate n (Pass text) outcome)
calls_by gate deeds later n HangUp outcome main = later (note gate n HangUp outcome)
calls_by gate deeds later n Relay outcome main = later (note gate n Relay outcome)
calls_by gate deeds later n (Deposit sender rcpts words most) outcome main = later (note gate n (Deposit sender rcpts words most) outcome)
calls_by gate deeds later n Allot outcome main = later (note gate n Allot outcome)
calls_by gate deeds later n (TakeReply how) outcome main = later (note gate n (TakeReply how) outcome)
calls_by gate deeds later n OpenDoor outcome main = absurd (cc)
calls_by gate deeds later n (Join dest target) outcome main = absurd (cc)
calls_by gate deeds later n (Copy toward) outcome main = later (note gate n (Copy toward) outcome)
calls_by gate deeds later n Part outcome main = later (note gate n Part outcome)

calls_from : (gate : Gate) (deeds : List Deed) → AllMain deeds → CallsFrom gate deeds
calls_from gate [] main n = sym (append-nil (map Main n.calls))
calls_from gate (deed ∷ deeds) main n = calls_by gate deeds (calls_from gate deeds main.1) n deed.act deed.outcome main.0

pub all_calls : (gate : Gate) (deeds : List Deed) → AllMain deeds → map Main (noted_after gate (at_start gate) deeds).calls ≡ gives called deeds
all_calls gate deeds main = calls_from gate deeds main (at_start gate)

-- ---- what was done

abbrev DeedsFrom : Gate → List Deed → Type 0
DeedsFrom gate deeds = (n : Noted) → (noted_after gate n deeds).deeds ≡ n.deeds ++ deeds

deeds_by : (gate : Gate) (deeds : List Deed) → DeedsFrom gate deeds → (n : Noted) (act : Act) (outcome : Outcome act)
    → (noted_after gate (note gate n act outcome) deeds).deeds ≡ n.deeds ++ (deed_of act outcome ∷ deeds)
deeds_by gate deeds later n (Hear form) outcome = later (note gate n (Hear form) outcome) ∙ append_assoc n.deeds (deed_of (Hear form) outcome ∷ []) deeds
deeds_by gate deeds later n (Ask request) outcome = later (note gate n (Ask request) outcome) ∙ append_assoc n.deeds (deed_of (Ask request) outcome ∷ []) deeds
deeds_by gate deeds later n (Renew name hash) outcome = later (note gate n (Renew name hash) outcome) ∙ append_assoc n.deeds (deed_of (Renew name hash) outcome ∷ []) deeds
deeds_by gate deeds later n (Say text) outcome = later (note gate n (Say text) outcome) ∙ append_assoc n.deeds (deed_of (Say text) outcome ∷ []) deeds
deeds_by gate deeds later n (Try text) outcome = later (note gate n (Try text) outcome) ∙ append_assoc n.deeds (deed_of (Try text) outcome ∷ []) deeds
deeds_by gate deeds later n (Log text) outcome = later (note gate n (Log text) outcome) ∙ append_assoc n.deeds (deed_of (Log text) outcome ∷ []) deeds
deeds_by gate deeds later n (Note text) outcome = later (note gate n (Note text) outcome) ∙ append_assoc n.deeds (deed_of (Note text) outcome ∷ []) deeds
deeds_by gate deeds later n (Dial dest) outcome = later (note gate n (Dial dest) outcome) ∙ append_assoc n.deeds (deed_of (Dial dest) outcome ∷ []) deeds
deeds_by gate deeds later n (Reach dest) outcome = later (note gate n (Reach dest) outcome) ∙ append_assoc n.deeds (deed_of (Reach dest) outcome ∷ []) deeds
deeds_by gate deeds later n Take outcome = later (note gate n Take outcome) ∙ append_assoc n.deeds (deed_of Take outcome ∷ []) deeds
deeds_by gate deeds later n (Pass text) outcome = later (note gate n (Pass text) outcome) ∙ append_assoc n.deeds (deed_of (Pass text) outcome ∷ []) deeds
deeds_by gate deeds later n HangUp outcome = later (note gate n HangUp outcome) ∙ append_assoc n.deeds (deed_of HangUp outcome ∷ []) deeds
deeds_by gate deeds later n Relay outcome = later (note gate n Relay outcome) ∙ append_assoc n.deeds (deed_of Relay outcome ∷ []) deeds
deeds_by gate deeds later n (Deposit sender rcpts words most) outcome = later (note gate n (Deposit sender rcpts words most) outcome) ∙ append_assoc n.deeds (deed_of (Deposit sender rcpts words most) outcome ∷ []) deeds
deeds_by gate deeds later n Allot outcome = later (note gate n Allot outcome) ∙ append_assoc n.deeds (deed_of Allot outcome ∷ []) deeds
deeds_by gate deeds later n (TakeReply how) outcome = later (note gate n (TakeReply how) outcome) ∙ append_assoc n.deeds (deed_of (TakeReply how) outcome ∷ []) deeds
deeds_by gate deeds later n OpenDoor outcome = later (note gate n OpenDoor outcome) ∙ append_assoc n.deeds (deed_of OpenDoor outcome ∷ []) deeds
deeds_by gate deeds later n (Join dest target) outcome = later (note gate n (Join dest target) outcome) ∙ append_assoc n.deeds (deed_of (Join dest target) outcome ∷ []) deeds
deeds_by gate deeds later n (Copy toward) outcome = later (note gate n (Copy toward) outcome) ∙ append_assoc n.deeds (deed_of (Copy toward) outcome ∷ []) deeds
deeds_by gate deeds later n Part outcome = later (note gate n Part outcome) ∙ append_assoc n.deeds (deed_of Part outcome ∷ []) deeds

deeds_from : (gate : Gate) (deeds : List Deed) → DeedsFrom gate deeds
deeds_from gate [] n = sym (append-nil n.deeds)
deeds_from gate (deed ∷ deeds) n = deeds_by gate deeds (deeds_from gate deeds) n deed.act deed.outcome

pub all_deeds : (gate : Gate) (deeds : List Deed) → (noted_after gate (at_start gate) deeds).deeds ≡ deeds
all_deeds gate deeds = deeds_from gate deeds (at_start gate)

-- ---- what was said

abbrev TalkFrom : Gate → List Deed → Type 0
TalkFrom gate deeds = (n : Noted) → (noted_after gate n deeds).talk ++ (noted_after gate n deeds).said ≡ (n.talk ++ n.said) ++ gives talk_in deeds

-- a line was heard
line_said : (talk said more : Talk) → ((talk ++ said) ++ []) ++ more ≡ (talk ++ said) ++ more
line_said talk said more = ap (λ (z : Talk). z ++ more) (append-nil (talk ++ said))

-- something was said
one_said : (talk said one more : Talk) → (talk ++ (said ++ one)) ++ more ≡ (talk ++ said) ++ (one ++ more)
one_said talk said one more = ap (λ (z : Talk). z ++ more) (sym (append_assoc talk said one)) ∙ append_assoc (talk ++ said) one more

talk_by : (gate : Gate) (deeds : List Deed) → TalkFrom gate deeds → (n : Noted) (act : Act) (outcome : Outcome act)
    → (noted_after gate (note gate n act outcome) deeds).talk ++ (noted_after gate (note gate n act outcome) deeds).said ≡ (n.talk ++ n.said) ++ gives talk_in (deed_of act outcome ∷ deeds)
talk_by gate deeds later n (Hear form) outcome = later (note gate n (Hear form) outcome) ∙ line_said n.talk n.said (gives talk_in deeds)
talk_by gate deeds later n (Ask request) outcome = later (note gate n (Ask request) outcome) ∙ one_said n.talk n.said (talk_in (Ask request) outcome) (gives talk_in deeds)
talk_by gate deeds later n (Renew name hash) outcome = later (note gate n (Renew name hash) outcome) ∙ one_said n.talk n.said (talk_in (Renew name hash) outcome) (gives talk_in deeds)
talk_by gate deeds later n (Say text) outcome = later (note gate n (Say text) outcome)
talk_by gate deeds later n (Try text) outcome = later (note gate n (Try text) outcome)
talk_by gate deeds later n (Log text) outcome = later (note gate n (Log text) outcome)
talk_by gate deeds later n (Note text) outcome = later (note gate n (Note text) outcome)
talk_by gate deeds later n (Dial dest) outcome = later (note gate n (Dial dest) outcome)
talk_by gate deeds later n (Reach dest) outcome = later (note gate n (Reach dest) outcome)
talk_by gate deeds later n Take outcome = later (note gate n Take outcome)
talk_by gate deeds later n (Pass text) outcome = later (note gate n (Pass text) outcome)
talk_by gate deeds later n HangUp outcome = later (note gate n HangUp outcome)
talk_by gate deeds later n Relay outcome = later (note gate n Relay outcome)
talk_by gate deeds later n (Deposit sender rcpts words most) outcome = later (note gate n (Deposit sender rcpts words most) outcome)
talk_by gate deeds later n Allot outcome = later (note gate n Allot outcome)
talk_by gate deeds later n (TakeReply how) outcome = later (note gate n (TakeReply how) outcome)
talk_by gate deeds later n OpenDoor outcome = later (note gate n OpenDoor outcome)
talk_by gate deeds later n (Join dest target) outcome = later (note gate n (Join dest target) outcome)
talk_by gate deeds later n (Copy toward) outcome = later (note gate n (Copy toward) outcome)
talk_by gate deeds later n Part outcome = later (note gate n Part outcome)

talk_from : (gate : Gate) (deeds : List Deed) → TalkFrom gate deeds
talk_from gate [] n = sym (append-nil (n.talk ++ n.said))
talk_from gate (deed ∷ deeds) n = talk_by gate deeds (talk_from gate deeds) n deed.act deed.outcome

-- what was answered of all that was asked
answered_all : (deeds : List Deed) → answered (gives asked deeds) ≡ gives talk_in deeds
answered_all [] = refl
answered_all (deed ∷ deeds) =
    filter_map-append (λ (ask : Request × Option Reply). replied ask.0 ask.1) (asked deed.act deed.outcome) (gives asked deeds) ∙ ap (λ (z : Talk). talk_in deed.act deed.outcome ++ z) (answered_all deeds)

pub all_talk : (gate : Gate) (deeds : List Deed) → (noted_after gate (at_start gate) deeds).talk ++ (noted_after gate (at_start gate) deeds).said ≡ answered (gives asked deeds)
all_talk gate deeds = talk_from gate deeds (at_start gate) ∙ sym (answered_all deeds)
