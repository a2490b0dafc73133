-- What the rows keep, said of all deeds of a session.
use Rattle.std.proofs.Common.{◌≡◌, refl, sym, ap, subst, ◌∙◌, ℕ, ◌⊎◌, inl, inr, Bool, true, false, not, ◌&&◌, ◌||◌, List, [], ◌∷◌, ◌++◌, map, Option, Some, None, Result, Ok, Err, append_assoc, append-nil}
use Rattle.std.specs.Prelude.{cond, filter}
use Rattle.std.specs.List.{list_any}
use Rattle.std.proofs.lemmas.List.{map-append}
use Rattle.auth_events.specs.Login.{login_in}
use Rattle.auth_events.specs.declared.port.PortFault.{PortFault}
use Rattle.auth_events.specs.declared.reply.Reply.{Reply}
use Rattle.auth_events.specs.declared.request.Request.TheVariants as requests
use Rattle.fw_acts.specs.Acts.{Row, Step, PlaceTable}
use Rattle.fw_acts.specs.Acts.Row.{Do, At, Over}
use Rattle.fw_acts.specs.Histories.{AllMay, Leaves, history}
use Rattle.fw_acts.specs.Ran.{Comes, Ran}
use Rattle.fw_acts.proofs.HistoryLemmas.{run_leaves, run_may}
use Rattle.fw_outside.specs.declared.ask.Ask.TheVariants.{Main}
use Rattle.fw_outside.specs.declared.ask.Ask as outside
use Rattle.fw_outside.specs.declared.heard.Heard.{Heard}
use Rattle.fw_outside.specs.declared.heard.Heard.TheVariants.{Stopped}
use Rattle.fw_outside.specs.declared.heard.Stop.{Stop}
use Rattle.fw_types.specs.declared.dest.Dest.{Dest}
use Rattle.fw_types.specs.declared.ending.Ending.{Ending}
use Rattle.fw_types.specs.declared.host.Host.{Host}
use Rattle.gate_rules.specs.Verdict.{allows}
use Rattle.session_acts.specs.Acts.{Act, Halt, Outcome}
use Rattle.session_acts.specs.Acts.Act.{Hear, Say, Try, Log, Note, Ask, Renew, Dial, Reach, Take, Pass, HangUp, Relay, Deposit, Allot, TakeReply, OpenDoor, Join, Copy, Part}
use Rattle.session_acts.specs.Deeds.{Deed, deed_last, deeds_ran, done, gives}
use Rattle.session_acts.specs.Laws.{called}
use Rattle.session_acts.specs.Met.{acts, stop_of}
use Rattle.session_acts.specs.RelayLast.{RelaysLast, StopsBefore}
use Rattle.session_acts.specs.Relayed.{relayed, then_relay}
use Rattle.session_acts.specs.Session.{Held, closing, deeds_of, freeing, owed}
use Rattle.session_acts.specs.Talk.{answered, asked}
use Rattle.session_acts.specs.World.{Speaker, World}
use Rattle.session_acts.specs.declared.cause.Cause.{Cause}
use Rattle.session_acts.proofs.RelayLastLemmas.{held_relays}
use Rattle.tn_gate.specs.Asked.{Role, asked_for, asked_in, candidate, grants, is_asked}
use Rattle.tn_gate.specs.Asked.Role.{IsName, IsResponse, IsCommand}
use Rattle.tn_gate.specs.Dialogue.{heard_form, tn_row, tn_rows}
use Rattle.tn_gate.specs.Gate.{Gate, asks_login}
use Rattle.tn_gate.specs.Laws.{AsksExactly, DialsCleared, IsCleared}
use Rattle.tn_gate.specs.declared.place.Place.{Place}
use Rattle.tn_gate.proofs.AccountLemmas.{AllMain, Noted, Talk, all_asked, all_calls, all_deeds, all_talk, asks_beside, asks_now, at_start, deed_of, note, noted_after, noted_both, total, turn}
use Rattle.tn_gate.proofs.WatchLemmas.{Behind, May, MayDial, first_keeps, rows_keep, tn_watch}

-- ---- deeds that come where they may

record Fits (gate : Gate) (n : Noted) (deed : Deed) : Type 0 where
  dials : (dest : Dest) → called deed.act deed.outcome ≡ Main dest ∷ [] → MayDial gate dest n
  main : asks_beside deed.act ≡ false

abbrev AllFit : Gate → Noted → List Deed → Type 0
AllFit gate n [] = Unit {0}
AllFit gate n (deed ∷ deeds) = Fits gate n deed × AllFit gate (note gate n deed.act deed.outcome) deeds

abbrev no_calls : List outside.Ask
no_calls = []

no_call : {A : Type 0} (dest : Dest) → no_calls ≡ Main dest ∷ [] → A
no_call dest is = absurd (cc)

abbrev dest_in : List outside.Ask → Dest → Dest
dest_in (Main dest ∷ more) other = dest
dest_in calls other = other

fits_by : (gate : Gate) (n : Noted) (act : Act) (outcome : Outcome act) → May gate n act → Fits gate n (deed_of act outcome)
fits_by gate n (Say text) outcome may = record { dials = λ dest is. no_call dest is; main = refl }
fits_by gate n (Dial dest) outcome may = record { dials = λ other is. subst (λ (d : Dest). MayDial gate d n) (ap (λ (z : List outside.Ask). dest_in z dest) is) may.0; main = refl }
fits_by gate n (Hear form) outcome may = record { dials = λ dest is. no_call dest is; main = refl }
fits_by gate n (Log line) outcome may = record { dials = λ dest is. no_call dest is; main = refl }
fits_by gate n (Ask request) outcome may = record { dials = λ dest is. no_call dest is; main = refl }
fits_by gate n (Try text) outcome may = absurd may
fits_by gate n (Note text) outcome may = absurd may
fits_by gate n (Renew name hash) outcome may = absurd may
fits_by gate n (Reach dest) outcome may = absurd may
fits_by gate n Take outcome may = absurd may
fits_by gate n (Pass text) outcome may = absurd may
fits_by gate n HangUp outcome may = absurd may
fits_by gate n Relay outcome may = absurd may
fits_by gate n (Deposit sender rcpts words most) outcome may = absurd may
fits_by gate n Allot outcome may = absurd may
fits_by gate n (TakeReply how) outcome may = absurd may
fits_by gate n OpenDoor outcome may = absurd may
fits_by gate n (Join dest target) outcome may = absurd may
fits_by gate n (Copy toward) outcome may = absurd may
fits_by gate n Part outcome may = absurd may

fits_hang_up : (gate : Gate) (n : Noted) (outcome : Outcome HangUp) → Fits gate n (deed_of HangUp outcome)
fits_hang_up gate n outcome = record { dials = λ dest is. no_call dest is; main = refl }

fits_relay : (gate : Gate) (n : Noted) (outcome : Outcome Relay) → Fits gate n (deed_of Relay outcome)
fits_relay gate n outcome = record { dials = λ dest is. no_call dest is; main = refl }

fits_close : (gate : Gate) (n : Noted) (outcome : Outcome (Ask requests.Close)) → Fits gate n (deed_of (Ask requests.Close) outcome)
fits_close gate n outcome = record { dials = λ dest is. no_call dest is; main = refl }

fit_both : (gate : Gate) (n : Noted) (first more : List Deed) → AllFit gate n first → AllFit gate (noted_after gate n first) more → AllFit gate n (first ++ more)
fit_both gate n [] more a b = b
fit_both gate n (deed ∷ first) more a b = (a.0, fit_both gate (note gate n deed.act deed.outcome) first more a.1 b)

fit_each : (gate : Gate) (n : Noted) (before after : List Deed) (deed : Deed) → AllFit gate n (before ++ deed ∷ after) → Fits gate (noted_after gate n before) deed
fit_each gate n [] after deed all = all.0
fit_each gate n (other ∷ before) after deed all = fit_each gate (note gate n other.act other.outcome) before after deed all.1

-- ---- a stop

no_candidate : (role : Role) (stop : Stop) → candidate role (Stopped stop) ≡ []
no_candidate IsName stop = refl
no_candidate IsResponse stop = refl
no_candidate IsCommand stop = refl

stop_behind : (gate : Gate) (n : Noted) (act : Act) (halt : Halt act) → May gate n act → Behind gate (note gate n act (Err halt))
stop_behind gate n (Say text) halt may = record { rest = may.rest; is = may.is }
stop_behind gate n (Dial dest) halt may = absurd halt
stop_behind gate n (Hear form) halt may =
    let next = note gate n (Hear form) (Err halt) in
    record {
      rest = may.1.rest;
      is =
          ap (λ (z : List Dest). total gate n ++ filter (is_asked gate (n.talk ++ n.said) (turn (Stopped (stop_of halt)) [])) z) (no_candidate next.role (stop_of halt)) ∙ append-nil (total gate n) ∙ may.1.is;
    }
stop_behind gate n (Log line) halt may = record { rest = may.rest; is = may.is }
stop_behind gate n (Ask request) halt may =
    record { rest = may.1.rest; is = ap (λ (z : Talk). n.asks ++ asks_now gate n.heard n.role n.talk z) (append-nil n.said) ∙ may.1.is }
stop_behind gate n (Try text) halt may = absurd may
stop_behind gate n (Note text) halt may = absurd may
stop_behind gate n (Renew name hash) halt may = absurd may
stop_behind gate n (Reach dest) halt may = absurd may
stop_behind gate n Take halt may = absurd may
stop_behind gate n (Pass text) halt may = absurd may
stop_behind gate n HangUp halt may = absurd may
stop_behind gate n Relay halt may = absurd may
stop_behind gate n (Deposit sender rcpts words most) halt may = absurd may
stop_behind gate n Allot halt may = absurd may
stop_behind gate n (TakeReply how) halt may = absurd may
stop_behind gate n OpenDoor halt may = absurd halt
stop_behind gate n (Join dest target) halt may = absurd halt
stop_behind gate n (Copy toward) halt may = absurd halt
stop_behind gate n Part halt may = absurd halt

-- ---- what is owed

-- these deeds fit, and ask for nothing
record IsQuiet (gate : Gate) (n : Noted) (deeds : List Deed) : Type 0 where
  fit : AllFit gate n deeds
  total_stays : total gate (noted_after gate n deeds) ≡ total gate n
  calls_stay : (noted_after gate n deeds).calls ≡ n.calls

filter_same : (f g : Dest → Bool) → ((dest : Dest) → f dest ≡ g dest) → (dests : List Dest) → filter f dests ≡ filter g dests
filter_same f g same [] = refl
filter_same f g same (dest ∷ dests) =
    ap (λ (b : Bool). cond b (dest ∷ filter f dests) (filter f dests)) (same dest) ∙ ap (λ (z : List Dest). cond (g dest) (dest ∷ z) z) (filter_same f g same dests)

grants_more : (host : Host) (said : Talk) (reply : Reply) → list_any (grants host) (said ++ (requests.Close, reply) ∷ []) ≡ list_any (grants host) said
grants_more host [] reply = refl
grants_more host (one ∷ said) reply = ap (λ (b : Bool). grants host one || b) (grants_more host said reply)

close_asks : (gate : Gate) (heard : Option Heard) (role : Role) (talk said : Talk) (reply : Reply) → asks_now gate heard role talk (said ++ (requests.Close, reply) ∷ []) ≡ asks_now gate heard role talk said
close_asks gate None role talk said reply = refl
close_asks gate (Some heard) role talk said reply =
    filter_same (is_asked gate talk (turn heard (said ++ (requests.Close, reply) ∷ []))) (is_asked gate talk (turn heard said))
    (λ dest. ap (λ (b : Bool). allows gate.options dest && (not (asks_login gate.options) || (login_in talk && (not gate.options.extnd || b)))) (grants_more dest.host said reply)) (candidate role heard)

close_quiet : (gate : Gate) (n : Noted) (answer : Result Reply PortFault) → IsQuiet gate n (deed_of (Ask requests.Close) answer ∷ [])
close_quiet gate n (Ok reply) = record {
  fit = (fits_close gate n (Ok reply), tt);
  total_stays = ap (λ (z : List Dest). n.asks ++ z) (close_asks gate n.heard n.role n.talk n.said reply);
  calls_stay = refl;
}
close_quiet gate n (Err fault) = record {
  fit = (fits_close gate n (Err fault), tt);
  total_stays = ap (λ (z : Talk). n.asks ++ asks_now gate n.heard n.role n.talk z) (append-nil n.said);
  calls_stay = refl;
}

closing_quiet : (gate : Gate) (n : Noted) (opened : Option ℕ) (answer : Result Reply PortFault) → IsQuiet gate n (closing opened answer)
closing_quiet gate n None answer = record { fit = tt; total_stays = refl; calls_stay = refl }
closing_quiet gate n (Some sid) answer = close_quiet gate n answer

owed_quiet : (gate : Gate) (n : Noted) (link : Option Speaker) (opened : Option ℕ) (answer : Result Reply PortFault) → IsQuiet gate n (freeing link ++ closing opened answer)
owed_quiet gate n None opened answer = closing_quiet gate n opened answer
owed_quiet gate n (Some up) opened answer =
    let rest = closing_quiet gate (note gate n HangUp (Ok tt)) opened answer in
    record { fit = (fits_hang_up gate n (Ok tt), rest.fit); total_stays = rest.total_stays; calls_stay = rest.calls_stay }

relay_quiet : (gate : Gate) (n : Noted) (outcome : Outcome Relay) (link : Option Speaker) (opened : Option ℕ) (answer : Result Reply PortFault) → IsQuiet gate n (deed_of Relay outcome ∷ (freeing link ++ closing opened answer))
relay_quiet gate n outcome link opened answer =
    let rest = owed_quiet gate (note gate n Relay outcome) link opened answer in
    record { fit = (fits_relay gate n outcome, rest.fit); total_stays = rest.total_stays; calls_stay = rest.calls_stay }

-- ---- a dialogue

record Accounts (gate : Gate) (dialogue : Result (Unit {0}) Cause) (deeds : List Deed) : Type 0 where
  fit : AllFit gate (at_start gate) deeds
  rest : List Dest
  is : total gate (noted_after gate (at_start gate) deeds) ≡ (noted_after gate (at_start gate) deeds).calls ++ rest
  whole : dialogue ≡ Ok tt → rest ≡ []

record Ends (gate : Gate) (dialogue : Result (Unit {0}) Cause) (n : Noted) (deeds : List Deed) : Type 0 where
  fit : AllFit gate n deeds
  rest : List Dest
  is : total gate (noted_after gate n deeds) ≡ (noted_after gate n deeds).calls ++ rest
  whole : dialogue ≡ Ok tt → rest ≡ []

abbrev stopped_by : Cause → Result (Unit {0}) Cause
stopped_by cause = Err cause

not_done : {A : Type 0} (cause : Cause) → stopped_by cause ≡ Ok tt → A
not_done cause is = absurd (cc)

stop_ends : (gate : Gate) (n : Noted) (act : Act) (halt : Halt act) (cause : Cause) → May gate n act → Ends gate (Err cause) n (deed_of act (Err halt) ∷ [])
stop_ends gate n act halt cause may =
    let behind = stop_behind gate n act halt may in
    record { fit = (fits_by gate n act (Err halt) may, tt); rest = behind.rest; is = behind.is; whole = λ is. not_done cause is }

module _ {Origin : Type 0} (gate : Gate) where
  abbrev own : PlaceTable (acts Origin) Place
  own = tn_rows gate

  abbrev over : Unit {0} → Row (acts Origin) Place
  over done = Over

  steps_fit : (n : Noted) (steps : List (Step (acts Origin))) → AllMay (tn_watch Origin gate) n steps → AllFit gate n (map done steps)
  steps_fit n [] all = tt
  steps_fit n (step ∷ steps) all = (fits_by gate n step.act (Ok step.answer) all.0, steps_fit (note gate n step.act (Ok step.answer)) steps all.1)

  steps_noted : (n : Noted) (steps : List (Step (acts Origin))) → history (tn_watch Origin gate) n steps ≡ noted_after gate n (map done steps)
  steps_noted n [] = refl
  steps_noted n (step ∷ steps) = steps_noted (note gate n step.act (Ok step.answer)) steps

  over_ends : (n : Noted) (left : Row (acts Origin) Place) → left ≡ Over → Leaves (tn_watch Origin gate) left n → Ends gate (Ok tt) n []
  over_ends n left is leaves =
      let even : total gate n ≡ n.calls = subst (λ (r : Row (acts Origin) Place). Leaves (tn_watch Origin gate) r n) is leaves in
      record { fit = tt; rest = []; is = even ∙ sym (append-nil n.calls); whole = λ is. refl }

  last_ends : (dialogue : Result (Unit {0}) Cause) (new : World Origin) (left : Row (acts Origin) Place) (mid : World Origin) (comes : Comes own over dialogue new left mid) (n : Noted) → Leaves (tn_watch Origin gate) left n
      → Ends gate dialogue n (deed_last own over dialogue new left mid comes)
  last_ends (Ok end) new left mid comes n leaves = over_ends n left comes.0 leaves
  last_ends (Err cause) new (Do act go) mid comes n leaves = stop_ends gate n act comes.halt cause leaves.0
  last_ends (Err cause) new (At place) mid comes n leaves = stop_ends gate n (own.act place) comes.halt cause (rows_keep Origin gate place n leaves).0
  last_ends (Err cause) new Over mid comes n leaves = absurd comes

  ran_accounts : (old new : World Origin) (dialogue : Result (Unit {0}) Cause) (ran : Ran own (tn_row gate) over old new dialogue) → Accounts gate dialogue (deeds_ran ran)
  ran_accounts old new dialogue ran =
      let start = at_start gate in
      let steps = ran.steps in
      let first = map done steps in
      let leaves = run_leaves own (tn_watch Origin gate) (rows_keep Origin gate) (tn_row gate) ran.left start steps (first_keeps Origin gate) ran.run in
      let all = run_may own (tn_watch Origin gate) (rows_keep Origin gate) (tn_row gate) ran.left start steps (first_keeps Origin gate) ran.run in
      let n = noted_after gate start first in
      let here : Leaves (tn_watch Origin gate) ran.left n = subst (λ (m : Noted). Leaves (tn_watch Origin gate) ran.left m) (steps_noted start steps) leaves in
      let last = deed_last own over dialogue new ran.left ran.mid ran.comes in
      let ends = last_ends dialogue new ran.left ran.mid ran.comes n here in
      record {
        fit = fit_both gate start first last (steps_fit start steps all) ends.fit;
        rest = ends.rest;
        is = subst (λ (m : Noted). total gate m ≡ m.calls ++ ends.rest) (sym (noted_both gate start first last)) ends.is;
        whole = ends.whole;
      }

-- ---- a session

-- what follows a dialogue
record Followed (gate : Gate) (dialogue : Result (Unit {0}) Cause) (deeds : List Deed) : Type 0 where
  talk : List Deed
  accounts : Accounts gate dialogue talk
  more : List Deed
  quiet : IsQuiet gate (noted_after gate (at_start gate) talk) more
  is : deeds ≡ talk ++ more

-- so nothing but main links was asked for
fits_main : (gate : Gate) (n : Noted) (deeds : List Deed) → AllFit gate n deeds → AllMain deeds
fits_main gate n [] fit = tt
fits_main gate n (deed ∷ deeds) fit = (fit.0.main, fits_main gate (note gate n deed.act deed.outcome) deeds fit.1)

session_fits : (gate : Gate) (dialogue : Result (Unit {0}) Cause) (deeds : List Deed) → Followed gate dialogue deeds → AllFit gate (at_start gate) deeds
session_fits gate dialogue deeds f =
    subst (λ (d : List Deed). AllFit gate (at_start gate) d) (sym f.is) (fit_both gate (at_start gate) f.talk f.more f.accounts.fit f.quiet.fit)

record Counts (gate : Gate) (dialogue : Result (Unit {0}) Cause) (deeds : List Deed) : Type 0 where
  rest : List Dest
  is : map Main (asked_for gate deeds) ≡ gives called deeds ++ map Main rest
  whole : dialogue ≡ Ok tt → rest ≡ []

session_counts : (gate : Gate) (dialogue : Result (Unit {0}) Cause) (deeds : List Deed) → Followed gate dialogue deeds → Counts gate dialogue deeds
session_counts gate dialogue deeds f =
    let start = at_start gate in
    let before = noted_after gate start f.talk in
    let after = noted_after gate before f.more in
    let joined : noted_after gate start deeds ≡ after = ap (λ (d : List Deed). noted_after gate start d) f.is ∙ noted_both gate start f.talk f.more in
    let even : total gate after ≡ after.calls ++ f.accounts.rest = f.quiet.total_stays ∙ f.accounts.is ∙ ap (λ (z : List Dest). z ++ f.accounts.rest) (sym f.quiet.calls_stay) in
    let all : total gate (noted_after gate start deeds) ≡ (noted_after gate start deeds).calls ++ f.accounts.rest = subst (λ (m : Noted). total gate m ≡ m.calls ++ f.accounts.rest) (sym joined) even in
    record {
      rest = f.accounts.rest;
      is =
          ap (λ (z : List Dest). map Main z) (sym (all_asked gate deeds) ∙ all) ∙ map-append Main (noted_after gate start deeds).calls f.accounts.rest
          ∙ ap (λ (z : List outside.Ask). z ++ map Main f.accounts.rest) (all_calls gate deeds (fits_main gate start deeds (session_fits gate dialogue deeds f)));
      whole = f.accounts.whole;
    }

cleared_by : (gate : Gate) (before : List Deed) (dest : Dest) → MayDial gate dest (noted_after gate (at_start gate) before) → IsCleared gate dest before
cleared_by gate before dest may = record {
  earlier = may.earlier;
  stands = sym (all_deeds gate before) ∙ may.stands;
  wanted = may.wanted;
  allowed = may.allowed;
  login = λ asks. ap login_in (sym (all_talk gate before)) ∙ may.login asks;
}

fits_cleared : (gate : Gate) (deeds : List Deed) → AllFit gate (at_start gate) deeds → DialsCleared gate deeds
fits_cleared gate deeds all before after deed dest is calls =
    let fit = fit_each gate (at_start gate) before after deed (subst (λ (d : List Deed). AllFit gate (at_start gate) d) is all) in
    cleared_by gate before dest (fit.dials dest calls)

module _ {Origin : Type 0} (gate : Gate) (old new : World Origin) (ending : Ending) (held : Held (relayed (tn_rows gate)) (then_relay (tn_row gate)) old new ending) where
  -- how the dialogue came out, and what followed it
  stops_followed : (stops : StopsBefore (tn_rows gate) (tn_row gate) held) → Followed gate (Err stops.cause) (deeds_of held)
  stops_followed stops =
      let talk = deeds_ran stops.talk in
      record {
        talk = talk;
        accounts = ran_accounts gate old held.mid (Err stops.cause) stops.talk;
        more = owed held.mid held.answer;
        quiet = owed_quiet gate (noted_after gate (at_start gate) talk) held.mid.server.link held.mid.office.opened held.answer;
        is = stops.deeds;
      }

  relays_followed : RelaysLast (tn_rows gate) (tn_row gate) held → Followed gate (Ok tt) (deeds_of held)
  relays_followed relays =
      let talk = deeds_ran relays.talk in
      record {
        talk = talk;
        accounts = ran_accounts gate old relays.before (Ok tt) relays.talk;
        more = deed_of Relay relays.outcome ∷ owed held.mid held.answer;
        quiet = relay_quiet gate (noted_after gate (at_start gate) talk) relays.outcome held.mid.server.link held.mid.office.opened held.answer;
        is = relays.deeds;
      }

  held_fits_by : StopsBefore (tn_rows gate) (tn_row gate) held ⊎ RelaysLast (tn_rows gate) (tn_row gate) held → AllFit gate (at_start gate) (deeds_of held)
  held_fits_by (inl stops) = session_fits gate (Err stops.cause) (deeds_of held) (stops_followed stops)
  held_fits_by (inr relays) = session_fits gate (Ok tt) (deeds_of held) (relays_followed relays)

  held_fits : AllFit gate (at_start gate) (deeds_of held)
  held_fits = held_fits_by (held_relays (tn_rows gate) (tn_row gate) old new ending held)

  pub held_cleared : DialsCleared gate (deeds_of held)
  held_cleared = fits_cleared gate (deeds_of held) held_fits

  asks_by : StopsBefore (tn_rows gate) (tn_row gate) held ⊎ RelaysLast (tn_rows gate) (tn_row gate) held → AsksExactly gate held
  asks_by (inl stops) =
      let counts = session_counts gate (Err stops.cause) (deeds_of held) (stops_followed stops) in
      record { rest = counts.rest; is = counts.is; whole = inr stops }
  asks_by (inr relays) =
      let counts = session_counts gate (Ok tt) (deeds_of held) (relays_followed relays) in
      record { rest = counts.rest; is = counts.is; whole = inl (counts.whole refl) }

  pub held_asks : AsksExactly gate held
  held_asks = asks_by (held_relays (tn_rows gate) (tn_row gate) old new ending held)
