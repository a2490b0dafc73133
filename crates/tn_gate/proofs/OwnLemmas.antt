-- Which acts the rows do: lines are heard in one form, and the port is asked only where a login is asked for.
use Rattle.std.proofs.Common.{◌≡◌, ◌≢◌, refl, sym, ap, subst, ◌∙◌, ℕ, ◌⊎◌, inl, inr, Bool, true, false, List, [], ◌∷◌, ◌++◌, map, Option, Some, None, Result, Ok, Err}
use mathlib.Core.Bool.{true≢false}
use Rattle.auth_events.specs.declared.port.PortFault.{PortFault}
use Rattle.auth_events.specs.declared.port.PortFault.TheVariants as faults
use Rattle.auth_events.specs.declared.reply.Reply.{Reply}
use Rattle.auth_events.specs.declared.request.Request.{Request}
use Rattle.fw_acts.specs.Acts.{Row, Step, PlaceTable}
use Rattle.fw_acts.specs.Acts.Row.{Do, At, Over}
use Rattle.fw_acts.specs.Histories.{AllMay, Leaves, history}
use Rattle.fw_acts.specs.Ran.{Comes, Ran}
use Rattle.fw_acts.proofs.HistoryLemmas.{run_leaves, run_may}
use Rattle.fw_outside.specs.declared.heard.Heard.{Heard}
use Rattle.fw_types.specs.declared.ending.Ending.{Ending}
use Rattle.fw_types.specs.declared.ending.Ending.TheVariants as endings
use Rattle.relay_ways.specs.Ending as ways
use Rattle.relay_ways.specs.declared.way_end.WayEnd.{WayEnd}
use Rattle.relay_ways.specs.declared.way_end.WayEnd.TheVariants as ends
use Rattle.session_acts.specs.Acts.{Act, Halt, Outcome, cause_by, fault_cause, silence_cause}
use Rattle.session_acts.specs.Acts.Act.{Hear, Say, Try, Log, Note, Ask, Renew, Dial, Reach, Take, Pass, HangUp, Relay, Deposit, Allot, TakeReply, OpenDoor, Join, Copy, Part}
use Rattle.session_acts.specs.Deeds.{Deed, deed_last, deeds_ran, done, gives}
use Rattle.session_acts.specs.Hearing.{Fate, carried_up, heard_by, heard_in}
use Rattle.session_acts.specs.Met.{Met, acts}
use Rattle.session_acts.specs.RelayLast.{RelaysLast, StopsBefore, told_by}
use Rattle.session_acts.specs.Relayed.{relayed, then_relay}
use Rattle.session_acts.specs.Relaying.{Flow, Stuck, Through, flow_of, stops_by}
use Rattle.session_acts.specs.Said.{lines_said, said_by}
use Rattle.session_acts.specs.Session.{Held, closing, deeds_of, ending_by, ending_closed, ending_of, freeing, owed}
use Rattle.session_acts.specs.Talk.{asked, opened_after}
use Rattle.session_acts.specs.World.{Office, Speaker, World}
use Rattle.session_acts.specs.declared.cause.Cause.{Cause}
use Rattle.session_acts.specs.declared.cause.Cause.TheVariants as causes
use Rattle.session_acts.specs.declared.form.Form.{Form}
use Rattle.session_acts.specs.declared.silence.Silence.{Silence}
use Rattle.session_acts.specs.declared.silence.Silence.TheVariants.{Quiet, Broken, Limit}
use Rattle.session_acts.proofs.CourseLemmas.{asked_both, freeing_asks}
use Rattle.session_acts.proofs.DeedLemmas.{all_gain, ran_deeds}
use Rattle.session_acts.proofs.RelayLastLemmas.{held_relays}
use Rattle.session_acts.proofs.TalkLemmas.{entered_gains}
use Rattle.tn_gate.specs.Asked.{Turn, lines_in, talk_before, turn_in, turns_of}
use Rattle.tn_gate.specs.Dialogue.{heard_form, tn_row, tn_rows}
use Rattle.tn_gate.specs.Gate.{Gate, asks_login}
use Rattle.tn_gate.specs.declared.place.Place.{Place}
use Rattle.tn_gate.proofs.AccountLemmas.{Noted, Talk, at_start, deed_of, note}
use Rattle.tn_gate.proofs.WatchLemmas.{May, first_keeps, rows_keep, tn_watch}

-- ---- the acts of the dialogue

abbrev IsOwn : Gate → Act → Type 0
IsOwn gate (Say text) = Unit {0}
IsOwn gate (Log text) = Unit {0}
IsOwn gate (Dial dest) = Unit {0}
IsOwn gate (Hear form) = form ≡ heard_form
IsOwn gate (Ask request) = asks_login gate.options ≡ true
IsOwn gate act = ⊥

own_by : (gate : Gate) (n : Noted) (act : Act) → May gate n act → IsOwn gate act
own_by gate n (Say text) may = tt
own_by gate n (Log text) may = tt
own_by gate n (Dial dest) may = tt
own_by gate n (Hear form) may = may.0
own_by gate n (Ask request) may = may.0
own_by gate n (Try text) may = absurd may
own_by gate n (Note text) may = absurd may
own_by gate n (Renew name hash) may = absurd may
own_by gate n (Reach dest) may = absurd may
own_by gate n Take may = absurd may
own_by gate n (Pass text) may = absurd may
own_by gate n HangUp may = absurd may
own_by gate n Relay may = absurd may
own_by gate n (Deposit sender rcpts words most) may = absurd may
own_by gate n Allot may = absurd may
own_by gate n (TakeReply how) may = absurd may
own_by gate n OpenDoor may = absurd may
own_by gate n (Join dest target) may = absurd may
own_by gate n (Copy toward) may = absurd may
own_by gate n Part may = absurd may

abbrev AllOwn : Gate → List Deed → Type 0
AllOwn gate [] = Unit {0}
AllOwn gate (deed ∷ deeds) = IsOwn gate deed.act × AllOwn gate deeds

all_own_both : (gate : Gate) (first more : List Deed) → AllOwn gate first → AllOwn gate more → AllOwn gate (first ++ more)
all_own_both gate [] more a b = b
all_own_both gate (deed ∷ first) more a b = (a.0, all_own_both gate first more a.1 b)

-- an act of the dialogue stopped it, if one did
abbrev StopsBy : Gate → Result (Unit {0}) Cause → Type 0
StopsBy gate (Ok done) = Unit {0}
StopsBy gate (Err cause) = (act : Act) × (halt : Halt act) × (cause ≡ cause_by act halt) × IsOwn gate act

record IsTalk (gate : Gate) (dialogue : Result (Unit {0}) Cause) (deeds : List Deed) : Type 0 where
  own : AllOwn gate deeds
  stops : StopsBy gate dialogue

module _ {Origin : Type 0} (gate : Gate) where
  abbrev rows : PlaceTable (acts Origin) Place
  rows = tn_rows gate

  abbrev over : Unit {0} → Row (acts Origin) Place
  over done = Over

  steps_own : (n : Noted) (steps : List (Step (acts Origin))) → AllMay (tn_watch Origin gate) n steps → AllOwn gate (map done steps)
  steps_own n [] all = tt
  steps_own n (step ∷ steps) all = (own_by gate n step.act all.0, steps_own (note gate n step.act (Ok step.answer)) steps all.1)

  last_own : (dialogue : Result (Unit {0}) Cause) (new : World Origin) (left : Row (acts Origin) Place) (mid : World Origin) (comes : Comes rows over dialogue new left mid) (n : Noted) → Leaves (tn_watch Origin gate) left n
      → IsTalk gate dialogue (deed_last rows over dialogue new left mid comes)
  last_own (Ok end) new left mid comes n leaves = record { own = tt; stops = tt }
  last_own (Err cause) new (Do act go) mid comes n leaves =
      let own = own_by gate n act leaves.0 in record { own = (own, tt); stops = (act, comes.halt, comes.is_cause, own) }
  last_own (Err cause) new (At place) mid comes n leaves =
      let own = own_by gate n (rows.act place) (rows_keep Origin gate place n leaves).0 in record { own = (own, tt); stops = (rows.act place, comes.halt, comes.is_cause, own) }
  last_own (Err cause) new Over mid comes n leaves = absurd comes

  ran_own : (old new : World Origin) (dialogue : Result (Unit {0}) Cause) (ran : Ran rows (tn_row gate) over old new dialogue) → IsTalk gate dialogue (deeds_ran ran)
  ran_own old new dialogue ran =
      let steps = ran.steps in
      let leaves = run_leaves rows (tn_watch Origin gate) (rows_keep Origin gate) (tn_row gate) ran.left (at_start gate) steps (first_keeps Origin gate) ran.run in
      let all = run_may rows (tn_watch Origin gate) (rows_keep Origin gate) (tn_row gate) ran.left (at_start gate) steps (first_keeps Origin gate) ran.run in
      let last = last_own dialogue new ran.left ran.mid ran.comes (history (tn_watch Origin gate) (at_start gate) steps) leaves in
      record { own = all_own_both gate (map done steps) (deed_last rows over dialogue new ran.left ran.mid ran.comes) (steps_own (at_start gate) steps all) last.own; stops = last.stops }

-- ---- the lines that were heard

abbrev Same : List Deed → Type 0
Same deeds = lines_in (turns_of deeds) ≡ lines_said (gives heard_in deeds)

same_by : (gate : Gate) (act : Act) (outcome : Outcome act) (deeds : List Deed) → IsOwn gate act → Same deeds → Same (deed_of act outcome ∷ deeds)
same_by gate (Say text) outcome deeds own same = same
same_by gate (Log text) outcome deeds own same = same
same_by gate (Dial dest) outcome deeds own same = same
same_by gate (Ask request) outcome deeds own same = same
same_by gate (Hear form) outcome deeds own same =
    subst (λ (f : Form). said_by heard_form (heard_by outcome) (lines_in (turns_of deeds)) ≡ said_by f (heard_by outcome) (lines_said (gives heard_in deeds))) (sym own)
    (ap (λ (z : List (Option (List ℕ))). said_by heard_form (heard_by outcome) z) same)
same_by gate (Try text) outcome deeds own same = absurd own
same_by gate (Note text) outcome deeds own same = absurd own
same_by gate (Renew name hash) outcome deeds own same = absurd own
same_by gate (Reach dest) outcome deeds own same = absurd own
same_by gate Take outcome deeds own same = absurd own
same_by gate (Pass text) outcome deeds own same = absurd own
same_by gate HangUp outcome deeds own same = absurd own
same_by gate Relay outcome deeds own same = absurd own
same_by gate (Deposit sender rcpts words most) outcome deeds own same = absurd own
same_by gate Allot outcome deeds own same = absurd own
same_by gate (TakeReply how) outcome deeds own same = absurd own
same_by gate OpenDoor outcome deeds own same = absurd own
same_by gate (Join dest target) outcome deeds own same = absurd own
same_by gate (Copy toward) outcome deeds own same = absurd own
same_by gate Part outcome deeds own same = absurd own

same_both : (gate : Gate) (first more : List Deed) → AllOwn gate first → Same more → Same (first ++ more)
same_both gate [] more own same = same
same_both gate (deed ∷ first) more own same = same_by gate deed.act deed.outcome (first ++ more) own.0 (same_both gate first more own.1 same)

same_closing : (opened : Option ℕ) (answer : Result Reply PortFault) → Same (closing opened answer)
same_closing None answer = refl
same_closing (Some sid) answer = refl

same_owed : (link : Option Speaker) (opened : Option ℕ) (answer : Result Reply PortFault) → Same (freeing link ++ closing opened answer)
same_owed None opened answer = same_closing opened answer
same_owed (Some up) opened answer = same_closing opened answer

-- behind what is owed no line is heard
silent_closing : (opened : Option ℕ) (answer : Result Reply PortFault) → lines_in (turns_of (closing opened answer)) ≡ []
silent_closing None answer = refl
silent_closing (Some sid) answer = refl

silent_owed : (link : Option Speaker) (opened : Option ℕ) (answer : Result Reply PortFault) → lines_in (turns_of (freeing link ++ closing opened answer)) ≡ []
silent_owed None opened answer = silent_closing opened answer
silent_owed (Some up) opened answer = silent_closing opened answer

carried_same : (flow : Option Flow) (deeds : List Deed) → lines_in (turns_of deeds) ≡ [] → Same deeds → lines_in (turns_of deeds) ≡ lines_said (carried_up flow ++ gives heard_in deeds)
carried_same None deeds none same = same
carried_same (Some flow) deeds none same = none

same_relay : (outcome : Outcome Relay) (deeds : List Deed) → lines_in (turns_of deeds) ≡ [] → Same deeds → Same (deed_of Relay outcome ∷ deeds)
same_relay outcome deeds none same = carried_same (flow_of outcome) deeds none same

-- ---- what is asked

abbrev Asks : Type 0
Asks = List (Request × Option Reply)

act_unasked : (gate : Gate) (act : Act) (outcome : Outcome act) → IsOwn gate act → asks_login gate.options ≡ false → asked act outcome ≡ []
act_unasked gate (Say text) outcome own none = refl
act_unasked gate (Log text) outcome own none = refl
act_unasked gate (Dial dest) outcome own none = refl
act_unasked gate (Hear form) outcome own none = refl
act_unasked gate (Ask request) outcome own none = absurd (true≢false (sym own ∙ none))
act_unasked gate (Try text) outcome own none = absurd own
act_unasked gate (Note text) outcome own none = absurd own
act_unasked gate (Renew name hash) outcome own none = absurd own
act_unasked gate (Reach dest) outcome own none = absurd own
act_unasked gate Take outcome own none = absurd own
act_unasked gate (Pass text) outcome own none = absurd own
act_unasked gate HangUp outcome own none = absurd own
act_unasked gate Relay outcome own none = absurd own
act_unasked gate (Deposit sender rcpts words most) outcome own none = absurd own
act_unasked gate Allot outcome own none = absurd own
act_unasked gate (TakeReply how) outcome own none = absurd own
act_unasked gate OpenDoor outcome own none = absurd own
act_unasked gate (Join dest target) outcome own none = absurd own
act_unasked gate (Copy toward) outcome own none = absurd own
act_unasked gate Part outcome own none = absurd own

all_unasked : (gate : Gate) (deeds : List Deed) → AllOwn gate deeds → asks_login gate.options ≡ false → gives asked deeds ≡ []
all_unasked gate [] own none = refl
all_unasked gate (deed ∷ deeds) own none =
    ap (λ (z : Asks). z ++ gives asked deeds) (act_unasked gate deed.act deed.outcome own.0 none) ∙ all_unasked gate deeds own.1 none

-- ---- for which causes

-- a cause that comes of no port and no dialer that has to reach
abbrev is_plain : Cause → Bool
is_plain causes.NoMemory = false
is_plain causes.AuthFault = false
is_plain causes.NoRoute = false
is_plain cause = true

abbrev is_routed : Cause → Bool
is_routed causes.NoRoute = false
is_routed cause = true

plain_hears : (silence : Silence) → is_plain (silence_cause causes.ClientFault silence) ≡ true
plain_hears Quiet = refl
plain_hears Broken = refl
plain_hears Limit = refl

plain_stops : (gate : Gate) (act : Act) (halt : Halt act) → IsOwn gate act → asks_login gate.options ≡ false → is_plain (cause_by act halt) ≡ true
plain_stops gate (Say text) halt own none = refl
plain_stops gate (Log text) halt own none = refl
plain_stops gate (Dial dest) halt own none = absurd halt
plain_stops gate (Hear form) halt own none = plain_hears halt
plain_stops gate (Ask request) halt own none = absurd (true≢false (sym own ∙ none))
plain_stops gate (Try text) halt own none = absurd own
plain_stops gate (Note text) halt own none = absurd own
plain_stops gate (Renew name hash) halt own none = absurd own
plain_stops gate (Reach dest) halt own none = absurd own
plain_stops gate Take halt own none = absurd own
plain_stops gate (Pass text) halt own none = absurd own
plain_stops gate HangUp halt own none = absurd own
plain_stops gate Relay halt own none = absurd own
plain_stops gate (Deposit sender rcpts words most) halt own none = absurd own
plain_stops gate Allot halt own none = absurd own
plain_stops gate (TakeReply how) halt own none = absurd own
plain_stops gate OpenDoor halt own none = absurd halt
plain_stops gate (Join dest target) halt own none = absurd halt
plain_stops gate (Copy toward) halt own none = absurd halt
plain_stops gate Part halt own none = absurd halt

routed_hears : (silence : Silence) → is_routed (silence_cause causes.ClientFault silence) ≡ true
routed_hears Quiet = refl
routed_hears Broken = refl
routed_hears Limit = refl

routed_fault : (fault : PortFault) → is_routed (fault_cause fault) ≡ true
routed_fault faults.NoMemory = refl
routed_fault faults.Link = refl
routed_fault faults.Strange = refl

routed_stops : (gate : Gate) (act : Act) (halt : Halt act) → IsOwn gate act → is_routed (cause_by act halt) ≡ true
routed_stops gate (Say text) halt own = refl
routed_stops gate (Log text) halt own = refl
routed_stops gate (Dial dest) halt own = absurd halt
routed_stops gate (Hear form) halt own = routed_hears halt
routed_stops gate (Ask request) halt own = routed_fault halt
routed_stops gate (Try text) halt own = absurd own
routed_stops gate (Note text) halt own = absurd own
routed_stops gate (Renew name hash) halt own = absurd own
routed_stops gate (Reach dest) halt own = absurd own
routed_stops gate Take halt own = absurd own
routed_stops gate (Pass text) halt own = absurd own
routed_stops gate HangUp halt own = absurd own
routed_stops gate Relay halt own = absurd own
routed_stops gate (Deposit sender rcpts words most) halt own = absurd own
routed_stops gate Allot halt own = absurd own
routed_stops gate (TakeReply how) halt own = absurd own
routed_stops gate OpenDoor halt own = absurd halt
routed_stops gate (Join dest target) halt own = absurd halt
routed_stops gate (Copy toward) halt own = absurd halt
routed_stops gate Part halt own = absurd halt

-- no relay stops for such a cause
abbrev failed : Cause → Result (Unit {0}) Cause
failed cause = Err cause

abbrev is_plain_of : Result (Unit {0}) Cause → Bool
is_plain_of (Ok done) = true
is_plain_of (Err cause) = is_plain cause

relay_plain : (up down : WayEnd) → is_plain_of (stops_by (ways.ending_of up down)) ≡ true
relay_plain ends.ReadFault down = refl
relay_plain ends.Done ends.Done = refl
relay_plain ends.Done ends.ReadFault = refl
relay_plain ends.Done ends.WriteFault = refl
relay_plain ends.Done ends.Idle = refl
relay_plain ends.Done ends.Spent = refl
relay_plain ends.WriteFault ends.Done = refl
relay_plain ends.WriteFault ends.ReadFault = refl
relay_plain ends.WriteFault ends.WriteFault = refl
relay_plain ends.WriteFault ends.Idle = refl
relay_plain ends.WriteFault ends.Spent = refl
relay_plain ends.Idle ends.Done = refl
relay_plain ends.Idle ends.ReadFault = refl
relay_plain ends.Idle ends.WriteFault = refl
relay_plain ends.Idle ends.Idle = refl
relay_plain ends.Idle ends.Spent = refl
relay_plain ends.Spent ends.Done = refl
relay_plain ends.Spent ends.ReadFault = refl
relay_plain ends.Spent ends.WriteFault = refl
relay_plain ends.Spent ends.Idle = refl
relay_plain ends.Spent ends.Spent = refl

stuck_plain : (stuck : Stuck) → is_plain stuck.cause ≡ true
stuck_plain stuck = ap is_plain_of (sym stuck.is) ∙ relay_plain stuck.flow.up.end stuck.flow.down.end

plain_routed : (cause : Cause) → is_plain cause ≡ true → is_routed cause ≡ true
plain_routed causes.ClientFault is = refl
plain_routed causes.ServerFault is = refl
plain_routed causes.LogFault is = refl
plain_routed causes.AuthFault is = refl
plain_routed causes.Idle is = refl
plain_routed causes.NoRoute is = absurd (true≢false (sym is))
plain_routed causes.Spent is = refl
plain_routed causes.NoMemory is = refl

-- ---- endings

abbrev ends_plain : Ending → Bool
ends_plain endings.NoMemory = false
ends_plain endings.AuthFault = false
ends_plain ending = true

abbrev ends_routed : Ending → Bool
ends_routed endings.NoRoute = false
ends_routed ending = true

plain_ends : (cause : Cause) → is_plain cause ≡ true → ends_plain (ending_by cause) ≡ true
plain_ends causes.ClientFault is = refl
plain_ends causes.ServerFault is = refl
plain_ends causes.LogFault is = refl
plain_ends causes.AuthFault is = absurd (true≢false (sym is))
plain_ends causes.Idle is = refl
plain_ends causes.NoRoute is = refl
plain_ends causes.Spent is = refl
plain_ends causes.NoMemory is = absurd (true≢false (sym is))

routed_ends : (cause : Cause) → is_routed cause ≡ true → ends_routed (ending_by cause) ≡ true
routed_ends causes.ClientFault is = refl
routed_ends causes.ServerFault is = refl
routed_ends causes.LogFault is = refl
routed_ends causes.AuthFault is = refl
routed_ends causes.Idle is = refl
routed_ends causes.NoRoute is = absurd (true≢false (sym is))
routed_ends causes.Spent is = refl
routed_ends causes.NoMemory is = refl

closed_routed : (opened : Option ℕ) (answer : Result Reply PortFault) → ends_routed (ending_closed opened answer) ≡ true
closed_routed None answer = refl
closed_routed (Some sid) (Ok reply) = refl
closed_routed (Some sid) (Err fault) = routed_ends (fault_cause fault) (routed_fault fault)

-- ---- a session

-- a dialogue, with what follows it
record Parts (gate : Gate) (deeds : List Deed) : Type 0 where
  talk : List Deed
  more : List Deed
  own : AllOwn gate talk
  same : Same more
  is : deeds ≡ talk ++ more

module _ {Origin : Type 0} (gate : Gate) (old new : World Origin) (ending : Ending) (held : Held (relayed (tn_rows gate)) (then_relay (tn_row gate)) old new ending) where
  abbrev Either : Type 0
  Either = StopsBefore (tn_rows gate) (tn_row gate) held ⊎ RelaysLast (tn_rows gate) (tn_row gate) held

  either : Either
  either = held_relays (tn_rows gate) (tn_row gate) old new ending held

  owes : Same (owed held.mid held.answer)
  owes = same_owed held.mid.server.link held.mid.office.opened held.answer

  parts_by : Either → Parts gate (deeds_of held)
  parts_by (inl stops) = record {
    talk = deeds_ran stops.talk;
    more = owed held.mid held.answer;
    own = (ran_own gate old held.mid (Err stops.cause) stops.talk).own;
    same = owes;
    is = stops.deeds;
  }
  parts_by (inr relays) = record {
    talk = deeds_ran relays.talk;
    more = deed_of Relay relays.outcome ∷ owed held.mid held.answer;
    own = (ran_own gate old relays.before (Ok tt) relays.talk).own;
    same = same_relay relays.outcome (owed held.mid held.answer) (silent_owed held.mid.server.link held.mid.office.opened held.answer) owes;
    is = relays.deeds;
  }

  pub held_lines : Same (deeds_of held)
  held_lines =
      let p = parts_by either in
      subst (λ (d : List Deed). Same d) (sym p.is) (same_both gate p.talk p.more p.own p.same)

  -- ---- for which ending

  abbrev ending_so : Result (Unit {0}) Cause → Ending
  ending_so dialogue = ending_of dialogue held.mid.office.opened held.answer

  routed_relay : (outcome : Outcome Relay) → ends_routed (ending_so (told_by outcome)) ≡ true
  routed_relay (Ok through) = closed_routed held.mid.office.opened held.answer
  routed_relay (Err stuck) = routed_ends stuck.cause (plain_routed stuck.cause (stuck_plain stuck))

  routed_by : Either → ends_routed ending ≡ true
  routed_by (inl stops) =
      let stop = (ran_own gate old held.mid (Err stops.cause) stops.talk).stops in
      ap ends_routed (held.ends ∙ ap ending_so stops.is) ∙ routed_ends stops.cause (ap is_routed stop.2 ∙ routed_stops gate stop.0 stop.1 stop.3)
  routed_by (inr relays) = ap ends_routed (held.ends ∙ ap ending_so relays.is) ∙ routed_relay relays.outcome

  pub held_routed : ending ≢ endings.NoRoute
  held_routed = λ is. true≢false (sym (routed_by either) ∙ ap ends_routed is)

  -- where no login is asked for
  module _ (closed : old.office.opened ≡ None) (none : asks_login gate.options ≡ false) where
    talk_opens : (mid : World Origin) (dialogue : Result (Unit {0}) Cause) (ran : Ran (tn_rows gate) (tn_row gate) (λ (done : Unit {0}). Over) old mid dialogue) → mid.office.opened ≡ None
    talk_opens mid dialogue ran =
        let entered = all_gain entered_gains (deeds_ran ran) old mid (ran_deeds ran) in
        entered.opened ∙ ap (λ (opened : Option ℕ). opened_after opened (gives asked (deeds_ran ran))) closed
        ∙ ap (λ (asks : Asks). opened_after None asks) (all_unasked gate (deeds_ran ran) (ran_own gate old mid dialogue ran).own none)

    none_open : Either → held.mid.office.opened ≡ None
    none_open (inl stops) = talk_opens held.mid (Err stops.cause) stops.talk
    none_open (inr relays) = ap (λ (office : Office Origin). office.opened) relays.met.office ∙ talk_opens relays.before (Ok tt) relays.talk

    owed_asks : gives asked (owed held.mid held.answer) ≡ []
    owed_asks =
        freeing_asks held.mid.server.link (closing held.mid.office.opened held.answer) ∙ ap (λ (opened : Option ℕ). gives asked (closing opened held.answer)) (none_open either)

    unasked_with : (talk more : List Deed) → AllOwn gate talk → gives asked more ≡ [] → deeds_of held ≡ talk ++ more → gives asked (deeds_of held) ≡ []
    unasked_with talk more own nothing is =
        ap (λ (d : List Deed). gives asked d) is ∙ asked_both talk more ∙ ap (λ (z : Asks). z ++ gives asked more) (all_unasked gate talk own none) ∙ nothing

    unasked_by : Either → gives asked (deeds_of held) ≡ []
    unasked_by (inl stops) = unasked_with (deeds_ran stops.talk) (owed held.mid held.answer) (ran_own gate old held.mid (Err stops.cause) stops.talk).own owed_asks stops.deeds
    unasked_by (inr relays) =
        unasked_with (deeds_ran relays.talk) (deed_of Relay relays.outcome ∷ owed held.mid held.answer) (ran_own gate old relays.before (Ok tt) relays.talk).own owed_asks relays.deeds

    pub held_unasked : gives asked (deeds_of held) ≡ []
    held_unasked = unasked_by either

    plain_relay : (outcome : Outcome Relay) → ends_plain (ending_of (told_by outcome) None held.answer) ≡ true
    plain_relay (Ok through) = refl
    plain_relay (Err stuck) = plain_ends stuck.cause (stuck_plain stuck)

    plain_by : Either → ends_plain ending ≡ true
    plain_by (inl stops) =
        let stop = (ran_own gate old held.mid (Err stops.cause) stops.talk).stops in
        ap ends_plain (held.ends ∙ ap ending_so stops.is) ∙ plain_ends stops.cause (ap is_plain stop.2 ∙ plain_stops gate stop.0 stop.1 stop.3 none)
    plain_by (inr relays) =
        ap ends_plain (held.ends ∙ ap ending_so relays.is ∙ ap (λ (opened : Option ℕ). ending_of (told_by relays.outcome) opened held.answer) (none_open either)) ∙ plain_relay relays.outcome

    pub held_ample : ending ≢ endings.NoMemory
    held_ample = λ is. true≢false (sym (plain_by either) ∙ ap ends_plain is)

    pub held_unfailed : ending ≢ endings.AuthFault
    held_unfailed = λ is. true≢false (sym (plain_by either) ∙ ap ends_plain is)
