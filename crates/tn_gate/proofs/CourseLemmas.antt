-- The rows open a session at most once, whatever was tried before, and ask nothing of it after its close.
use Rattle.std.proofs.Common.{◌≡◌, refl, sym, ap, subst, ◌∙◌, ℕ, Bool, true, false, List, [], ◌∷◌, ◌++◌, map, Option, Some, None, Result, Ok, Err, append_assoc, append-nil}
use mathlib.Core.Bool.{true≢false}
use Rattle.std.specs.Prelude.{is_some}
use Rattle.std.specs.List.{AllByRecursion}
use Rattle.auth_events.specs.declared.port.PortFault.{PortFault}
use Rattle.auth_events.specs.declared.reply.Reply.{Reply}
use Rattle.auth_events.specs.declared.reply.Reply.TheVariants as replies
use Rattle.auth_events.specs.declared.request.OpService.TheVariants as services
use Rattle.auth_events.specs.declared.request.Request.{Request}
use Rattle.auth_events.specs.declared.request.Request.TheVariants as requests
use Rattle.fw_acts.specs.Acts.{Row, Step, PlaceTable}
use Rattle.fw_acts.specs.Acts.Row.{Do, At, Over}
use Rattle.fw_acts.specs.Histories.{AllMay, Keeps, Leaves, Watch, history}
use Rattle.fw_acts.specs.Ran.{Comes}
use Rattle.fw_acts.proofs.HistoryLemmas.{run_leaves, run_may}
use Rattle.fw_outside.specs.declared.heard.Heard.{Heard}
use Rattle.fw_outside.specs.declared.heard.Heard.TheVariants.{Line, TooLong, Stopped}
use Rattle.fw_types.specs.Name.{name_of}
use Rattle.fw_types.specs.declared.dest.Dest.{Dest}
use Rattle.fw_types.specs.declared.ending.Ending.{Ending}
use Rattle.gate_rules.specs.Verdict.{allows}
use Rattle.session_acts.specs.Acts.{Act, Outcome}
use Rattle.session_acts.specs.Acts.Act.{Hear, Say, Try, Log, Note, Ask, Renew, Dial, Reach, Take, Pass, HangUp, Relay, Deposit, Allot, TakeReply, OpenDoor, Join, Copy, Part}
use Rattle.session_acts.specs.Course.{Course, CourseState, MayCome, state_after}
use Rattle.session_acts.specs.Course.CourseState.{Unasked, Going, Finished}
use Rattle.session_acts.specs.Deeds.{Deed, deed_last, deeds_ran, done, gives}
use Rattle.session_acts.specs.Met.{acts, reply_of}
use Rattle.session_acts.specs.Relayed.{relayed, then_relay}
use Rattle.session_acts.specs.Session.{Held, closing, deeds_of, owed}
use Rattle.session_acts.specs.Talk.{asked, opened_after}
use Rattle.session_acts.specs.World.{World}
use Rattle.session_acts.specs.declared.cause.Cause.{Cause}
use Rattle.session_acts.proofs.CourseLemmas.{Stands, act_stands, asked_both, closing_course, freeing_asks, opening_stands, same_stands}
use Rattle.session_acts.proofs.DeedLemmas.{all_gain, ran_deeds}
use Rattle.session_acts.proofs.RelayLemmas.{keeps_relayed, leaves_relayed}
use Rattle.session_acts.proofs.TalkLemmas.{entered_gains, opened_both}
use Rattle.tn_gate.specs.Command.{command_of}
use Rattle.tn_gate.specs.Course.{IsTry, OpensOnce, is_opened}
use Rattle.tn_gate.specs.Dialogue.{answered_row, answering_row, command_row, commanding_row, connect_row, dest_row, dialed_row, first_by, name_row, named_row, naming_row, opened_row, operated_row, permitted_row, response_row, tn_row, tn_rows}
use Rattle.tn_gate.specs.Gate.{Gate, asks_login}
use Rattle.tn_gate.specs.declared.command.Command.{Command}
use Rattle.tn_gate.specs.declared.command.Command.TheVariants.{Nothing, Connect, Quit, Help, Unknown}
use Rattle.tn_gate.specs.declared.place.Place.{Place}
use Rattle.tn_gate.specs.declared.place.Place.TheVariants.{Naming, Answering, Commanding}
use Rattle.tn_gate.proofs.WatchLemmas.{or_last}

abbrev Asks : Type 0
Asks = List (Request × Option Reply)

-- ---- the watch

-- after an opening in vain another one may come
abbrev opened_state : Bool → CourseState
opened_state true = Going
opened_state false = Unasked

abbrev state_by : CourseState → (act : Act) → Outcome act → CourseState
state_by state (Ask (requests.Open console)) outcome = opened_state (is_opened (reply_of outcome))
state_by state act outcome = state_after state act outcome

abbrev is_going : CourseState → Bool
is_going Unasked = false
is_going Going = true
is_going Finished = false

abbrev is_unasked : CourseState → Bool
is_unasked Unasked = true
is_unasked Going = false
is_unasked Finished = false

-- a session is open, or none was
abbrev going_if : Bool → CourseState → Bool
going_if true state = is_going state
going_if false state = is_unasked state

-- a session is open behind the first name for which one could be opened; where no login is asked for there is none
abbrev HoldsAt : Gate → Place → CourseState → Type 0
HoldsAt gate (Naming open_) state = (asks_login gate.options ≡ true) × (going_if open_ state ≡ true)
HoldsAt gate (Answering name hidden) state = (asks_login gate.options ≡ true) × (state ≡ Going)
HoldsAt gate Commanding state = going_if (asks_login gate.options) state ≡ true

abbrev tn_course : (Origin : Type 0) → Gate → Watch (acts Origin) Place
tn_course Origin gate = record {
  Noted = CourseState;
  note = λ state act answer. state_by state act (Ok answer);
  may = λ state act. MayCome false state act;
  holds = λ state place. HoldsAt gate place state;
  over = λ state. Unit {0};
}

-- ---- what was asked so far

record StandsSo (state : CourseState) (asks : Asks) : Type 0 where
  tries : Asks
  rest : Asks
  are_tries : AllByRecursion IsTry tries
  stands : Stands false state rest
  is : asks ≡ tries ++ rest

-- what is asked further behind the tries
behind : (state next : CourseState) (asks more : Asks) (s : StandsSo state asks) → Stands false next (s.rest ++ more) → StandsSo next (asks ++ more)
behind state next asks more s stands = record {
  tries = s.tries;
  rest = s.rest ++ more;
  are_tries = s.are_tries;
  stands = stands;
  is = ap (λ (z : Asks). z ++ more) s.is ∙ append_assoc s.tries s.rest more;
}

tries_more : (tries : Asks) (ask : Request × Option Reply) → AllByRecursion IsTry tries → IsTry ask → AllByRecursion IsTry (tries ++ ask ∷ [])
tries_more [] ask all one = (one, tt)
tries_more (first ∷ tries) ask all one = (all.0, tries_more tries ask all.1 one)

-- one try more
one_try : (asks : Asks) (reply : Option Reply) → StandsSo Unasked asks → is_opened reply ≡ false → StandsSo Unasked (asks ++ (requests.Open false, reply) ∷ [])
one_try asks reply s vain = record {
  tries = s.tries ++ (requests.Open false, reply) ∷ [];
  rest = [];
  are_tries = tries_more s.tries (requests.Open false, reply) s.are_tries (refl, vain);
  stands = refl;
  is = ap (λ (z : Asks). z ++ (requests.Open false, reply) ∷ []) (s.is ∙ ap (λ (z : Asks). s.tries ++ z) s.stands ∙ append-nil s.tries) ∙ sym (append-nil (s.tries ++ (requests.Open false, reply) ∷ []));
}

opening_so : (asks : Asks) (reply : Option Reply) → StandsSo Unasked asks → StandsSo (opened_state (is_opened reply)) (asks ++ (requests.Open false, reply) ∷ [])
opening_so asks None s = one_try asks None s refl
opening_so asks (Some (replies.Opened sid)) s =
    behind Unasked Going asks ((requests.Open false, Some (replies.Opened sid)) ∷ []) s
    (subst (λ (z : Asks). Stands false Going (z ++ (requests.Open false, Some (replies.Opened sid)) ∷ [])) (sym s.stands) (opening_stands false (Some (replies.Opened sid))))
opening_so asks (Some replies.Password) s = one_try asks (Some replies.Password) s refl
opening_so asks (Some (replies.Challenge number word_seed)) s = one_try asks (Some (replies.Challenge number word_seed)) s refl
opening_so asks (Some replies.Ok) s = one_try asks (Some replies.Ok) s refl
opening_so asks (Some (replies.Shown summary)) s = one_try asks (Some (replies.Shown summary)) s refl
opening_so asks (Some (replies.Denied denial)) s = one_try asks (Some (replies.Denied denial)) s refl

open_by : (state : CourseState) (console : Bool) (asks : Asks) (reply : Option Reply) → StandsSo state asks → MayCome false state (Ask (requests.Open console)) → StandsSo (opened_state (is_opened reply)) (asks ++ (requests.Open console, reply) ∷ [])
open_by Unasked console asks reply s may =
    subst (λ (r : Request). StandsSo (opened_state (is_opened reply)) (asks ++ (r, reply) ∷ [])) (sym may) (opening_so asks reply s)
open_by Going console asks reply s may = absurd (cc)
open_by Finished console asks reply s may = absurd may

-- an act that opens nothing
other_so : (state : CourseState) (asks : Asks) (act : Act) (outcome : Outcome act) → StandsSo state asks → MayCome false state act → StandsSo (state_after state act outcome) (asks ++ asked act outcome)
other_so state asks act outcome s may = behind state (state_after state act outcome) asks (asked act outcome) s (act_stands false state s.rest act outcome s.stands may)

request_so : (state : CourseState) (asks : Asks) (request : Request) (outcome : Outcome (Ask request)) → StandsSo state asks → MayCome false state (Ask request) → StandsSo (state_by state (Ask request) outcome) (asks ++ asked (Ask request) outcome)
request_so state asks (requests.Open console) outcome s may = open_by state console asks (reply_of outcome) s may
request_so state asks request outcome s may = other_so state asks (Ask request) outcome s may

act_so : (state : CourseState) (asks : Asks) (act : Act) (outcome : Outcome act) → StandsSo state asks → MayCome false state act → StandsSo (state_by state act outcome) (asks ++ asked act outcome)
act_so state asks (Ask request) outcome s may = request_so state asks request outcome s may
act_so state asks (Renew name hash) outcome s may = other_so state asks (Renew name hash) outcome s may
act_so state asks (Hear form) outcome s may = other_so state asks (Hear form) outcome s may
act_so state asks (Say text) outcome s may = other_so state asks (Say text) outcome s may
act_so state asks (Try text) outcome s may = other_so state asks (Try text) outcome s may
act_so state asks (Log text) outcome s may = other_so state asks (Log text) outcome s may
act_so state asks (Note text) outcome s may = other_so state asks (Note text) outcome s may
act_so state asks (Dial dest) outcome s may = other_so state asks (Dial dest) outcome s may
act_so state asks (Reach dest) outcome s may = other_so state asks (Reach dest) outcome s may
act_so state asks Take outcome s may = other_so state asks Take outcome s may
act_so state asks (Pass text) outcome s may = other_so state asks (Pass text) outcome s may
act_so state asks HangUp outcome s may = other_so state asks HangUp outcome s may
act_so state asks Relay outcome s may = other_so state asks Relay outcome s may
act_so state asks (Deposit sender rcpts words most) outcome s may = other_so state asks (Deposit sender rcpts words most) outcome s may
act_so state asks Allot outcome s may = other_so state asks Allot outcome s may
act_so state asks (TakeReply how) outcome s may = other_so state asks (TakeReply how) outcome s may
act_so state asks OpenDoor outcome s may = other_so state asks OpenDoor outcome s may
act_so state asks (Join dest target) outcome s may = other_so state asks (Join dest target) outcome s may
act_so state asks (Copy toward) outcome s may = other_so state asks (Copy toward) outcome s may
act_so state asks Part outcome s may = other_so state asks Part outcome s may

-- ---- which session is open

pub try_opens : (reply : Option Reply) → is_opened reply ≡ false → opened_after None ((requests.Open false, reply) ∷ []) ≡ None
try_opens None vain = refl
try_opens (Some (replies.Opened sid)) vain = absurd (true≢false vain)
try_opens (Some replies.Password) vain = refl
try_opens (Some (replies.Challenge number word_seed)) vain = refl
try_opens (Some replies.Ok) vain = refl
try_opens (Some (replies.Shown summary)) vain = refl
try_opens (Some (replies.Denied denial)) vain = refl

tries_open : (tries more : Asks) → AllByRecursion IsTry tries → opened_after None (tries ++ more) ≡ opened_after None more
tries_open [] more all = refl
tries_open (ask ∷ tries) more all =
    let one : opened_after None (ask ∷ []) ≡ None = ap (λ (r : Request). opened_after None ((r, ask.1) ∷ [])) all.0.0 ∙ try_opens ask.1 all.0.1 in
    opened_both None (ask ∷ []) (tries ++ more) ∙ ap (λ (z : Option ℕ). opened_after z (tries ++ more)) one ∙ tries_open tries more all.1

-- the close that is owed
closes : (state : CourseState) (opened : Option ℕ) (answer : Result Reply PortFault) (asks : Asks) → StandsSo state asks → opened ≡ opened_after None asks → OpensOnce (asks ++ gives asked (closing opened answer))
closes state opened answer asks s is = record {
  tries = s.tries;
  rest = s.rest ++ gives asked (closing opened answer);
  are_tries = s.are_tries;
  course = closing_course false state opened answer s.rest s.stands (is ∙ ap (λ (z : Asks). opened_after None z) s.is ∙ tries_open s.tries s.rest s.are_tries);
  is = ap (λ (z : Asks). z ++ gives asked (closing opened answer)) s.is ∙ append_assoc s.tries s.rest (gives asked (closing opened answer));
}

-- ---- the rows of a session that keep this

record SomeState (asks : Asks) : Type 0 where
  state : CourseState
  stands : StandsSo state asks

nothing_so : (state : CourseState) (asks : Asks) → StandsSo state asks → StandsSo state (asks ++ [])
nothing_so state asks s = subst (λ (z : Asks). StandsSo state z) (sym (append-nil asks)) s

stop_so : (state : CourseState) (asks : Asks) (act : Act) (outcome : Outcome act) → StandsSo state asks → MayCome false state act → SomeState (asks ++ gives asked (record { act = act; outcome = outcome } ∷ []))
stop_so state asks act outcome s may = record {
  state = state_by state act outcome;
  stands = subst (λ (z : Asks). StandsSo (state_by state act outcome) (asks ++ z)) (sym (append-nil (asked act outcome))) (act_so state asks act outcome s may);
}

nothing_asked : StandsSo Unasked []
nothing_asked = record { tries = []; rest = []; are_tries = tt; stands = refl; is = refl }

module _ (Origin : Type 0) (gate : Gate) where
  steps_so : (state : CourseState) (asks : Asks) (steps : List (Step (acts Origin))) → StandsSo state asks → AllMay (tn_course Origin gate) state steps → StandsSo (history (tn_course Origin gate) state steps) (asks ++ gives asked (map done steps))
  steps_so state asks [] s all = nothing_so state asks s
  steps_so state asks (step ∷ steps) s all =
      let next = state_by state step.act (Ok step.answer) in
      let here = act_so state asks step.act (Ok step.answer) s all.0 in
      let rest = steps_so next (asks ++ asked step.act (Ok step.answer)) steps here all.1 in
      subst (λ (z : Asks). StandsSo (history (tn_course Origin gate) next steps) z) (append_assoc asks (asked step.act (Ok step.answer)) (gives asked (map done steps))) rest

  last_so : (rows : PlaceTable (acts Origin) Place) → Keeps rows (tn_course Origin gate) → (dialogue : Result (Unit {0}) Cause) (new : World Origin) (left : Row (acts Origin) Place) (mid : World Origin) (comes : Comes rows (λ (over : Unit {0}). Over) dialogue new left mid)
      → (state : CourseState) (asks : Asks) → StandsSo state asks → Leaves (tn_course Origin gate) left state → SomeState (asks ++ gives asked (deed_last rows (λ (over : Unit {0}). Over) dialogue new left mid comes))
  last_so rows keeps (Ok over) new left mid comes state asks s leaves = record { state = state; stands = nothing_so state asks s }
  last_so rows keeps (Err cause) new (Do act go) mid comes state asks s leaves = stop_so state asks act (Err comes.halt) s leaves.0
  last_so rows keeps (Err cause) new (At place) mid comes state asks s leaves = stop_so state asks (rows.act place) (Err comes.halt) s (keeps place state leaves).0
  last_so rows keeps (Err cause) new Over mid comes state asks s leaves = absurd comes

  dialogue_so : (rows : PlaceTable (acts Origin) Place) (first : Row (acts Origin) Place) (old new : World Origin) (ending : Ending) (held : Held rows first old new ending) → Leaves (tn_course Origin gate) first Unasked → Keeps rows (tn_course Origin gate)
      → SomeState (gives asked (deeds_ran held.ran))
  dialogue_so rows first old new ending held begins keeps =
      let steps = held.ran.steps in
      let left = held.ran.left in
      let last = deed_last rows (λ (over : Unit {0}). Over) held.dialogue held.mid left held.ran.mid held.ran.comes in
      let leaves = run_leaves rows (tn_course Origin gate) keeps first left Unasked steps begins held.ran.run in
      let all = run_may rows (tn_course Origin gate) keeps first left Unasked steps begins held.ran.run in
      let before = steps_so Unasked [] steps nothing_asked all in
      let stood = last_so rows keeps held.dialogue held.mid left held.ran.mid held.ran.comes (history (tn_course Origin gate) Unasked steps) (gives asked (map done steps)) before leaves in
      record { state = stood.state; stands = subst (λ (z : Asks). StandsSo stood.state z) (sym (asked_both (map done steps) last)) stood.stands }

  held_so : (rows : PlaceTable (acts Origin) Place) (first : Row (acts Origin) Place) (old new : World Origin) (ending : Ending) (held : Held rows first old new ending) → Leaves (tn_course Origin gate) first Unasked → Keeps rows (tn_course Origin gate) → old.office.opened ≡ None
      → OpensOnce (gives asked (deeds_of held))
  held_so rows first old new ending held begins keeps none =
      let deeds = deeds_ran held.ran in
      let owes = closing held.mid.office.opened held.answer in
      let stood = dialogue_so rows first old new ending held begins keeps in
      let entered = all_gain entered_gains deeds old held.mid (ran_deeds held.ran) in
      let opened : held.mid.office.opened ≡ opened_after None (gives asked deeds) = subst (λ (o : Option ℕ). held.mid.office.opened ≡ opened_after o (gives asked deeds)) none entered.opened in
      let once = closes stood.state held.mid.office.opened held.answer (gives asked deeds) stood.stands opened in
      let is : gives asked (deeds_of held) ≡ gives asked deeds ++ gives asked owes = asked_both deeds (owed held.mid held.answer) ∙ ap (λ (z : Asks). gives asked deeds ++ z) (freeing_asks held.mid.server.link owes) in
      subst (λ (z : Asks). OpensOnce z) (sym is) once

  -- ---- these rows

  abbrev own : PlaceTable (acts Origin) Place
  own = tn_rows gate

  abbrev Leaves_at : Row (acts Origin) Place → CourseState → Type 0
  Leaves_at row state = Leaves (tn_course Origin gate) row state

  -- where a login is asked for, the session is open at a command
  module _ (asks : asks_login gate.options ≡ true) where
    going_command : going_if (asks_login gate.options) Going ≡ true
    going_command = ap (λ (b : Bool). going_if b Going) asks

    named_course : (name : List ℕ) (reply : Reply) → Leaves_at (named_row gate name reply) Going
    named_course name replies.Password = (tt, λ done. (asks, refl))
    named_course name (replies.Challenge number word_seed) = (tt, λ done. (asks, refl))
    named_course name (replies.Denied denial) = (tt, λ logged. (tt, λ done. (asks, refl)))
    named_course name (replies.Opened sid) = (tt, λ logged. (tt, λ done. (asks, refl)))
    named_course name replies.Ok = (tt, λ logged. (tt, λ done. (asks, refl)))
    named_course name (replies.Shown summary) = (tt, λ logged. (tt, λ done. (asks, refl)))

    opened_course : (name : List ℕ) (reply : Reply) → Leaves_at (opened_row gate name reply) (opened_state (is_opened (Some reply)))
    opened_course name (replies.Opened sid) = (refl, λ reply. named_course name reply)
    opened_course name (replies.Denied denial) = (tt, λ logged. (tt, λ done. (asks, refl)))
    opened_course name replies.Password = (tt, λ logged. (tt, λ done. (asks, refl)))
    opened_course name (replies.Challenge number word_seed) = (tt, λ logged. (tt, λ done. (asks, refl)))
    opened_course name replies.Ok = (tt, λ logged. (tt, λ done. (asks, refl)))
    opened_course name (replies.Shown summary) = (tt, λ logged. (tt, λ done. (asks, refl)))

    name_course : (open_ : Bool) (name : Option (List ℕ)) (state : CourseState) → going_if open_ state ≡ true → Leaves_at (name_row gate open_ name) state
    name_course open_ None state holds = (tt, λ done. (asks, holds))
    name_course true (Some name) Going holds = (refl, λ reply. named_course name reply)
    name_course true (Some name) Unasked holds = absurd (true≢false (sym holds))
    name_course true (Some name) Finished holds = absurd (true≢false (sym holds))
    name_course false (Some name) Unasked holds = (refl, λ reply. opened_course name reply)
    name_course false (Some name) Going holds = absurd (true≢false (sym holds))
    name_course false (Some name) Finished holds = absurd (true≢false (sym holds))

    naming_course : (open_ : Bool) (heard : Heard) (state : CourseState) → going_if open_ state ≡ true → Leaves_at (naming_row gate open_ heard) state
    naming_course open_ (Line line) state holds = name_course open_ (name_of line.items) state holds
    naming_course open_ TooLong state holds = (tt, λ done. (asks, holds))
    naming_course open_ (Stopped stop) state holds = tt

    answered_course : (name : List ℕ) (reply : Reply) → Leaves_at (answered_row gate name reply) Going
    answered_course name replies.Ok = (tt, λ logged. (tt, λ done. going_command))
    answered_course name (replies.Denied denial) = (tt, λ logged. (tt, λ done. (asks, refl)))
    answered_course name (replies.Opened sid) = (tt, λ logged. (tt, λ done. (asks, refl)))
    answered_course name replies.Password = (tt, λ logged. (tt, λ done. (asks, refl)))
    answered_course name (replies.Challenge number word_seed) = (tt, λ logged. (tt, λ done. (asks, refl)))
    answered_course name (replies.Shown summary) = (tt, λ logged. (tt, λ done. (asks, refl)))

    response_course : (name : List ℕ) (hidden : Bool) (text : List ℕ) → Leaves_at (response_row gate name hidden text) Going
    response_course name true text = (tt, λ done. (refl, λ reply. answered_course name reply))
    response_course name false text = (refl, λ reply. answered_course name reply)

    answering_course : (name : List ℕ) (hidden : Bool) (heard : Heard) → Leaves_at (answering_row gate name hidden heard) Going
    answering_course name hidden (Line line) = response_course name hidden line.items
    answering_course name hidden TooLong = response_course name hidden []
    answering_course name hidden (Stopped stop) = tt

  module _ (state : CourseState) (holds : going_if (asks_login gate.options) state ≡ true) where
    dialed_course : (up : Bool) → Leaves_at (dialed_row up) state
    dialed_course true = (tt, λ done. tt)
    dialed_course false = (tt, λ done. holds)

    connect_course : (dest : Dest) → Leaves_at (connect_row gate dest) state
    connect_course dest = (tt, λ logged. (tt, λ up. dialed_course up))

    operated_course : (dest : Dest) (reply : Reply) → Leaves_at (operated_row gate dest reply) state
    operated_course dest replies.Ok = connect_course dest
    operated_course dest (replies.Denied denial) = (tt, λ logged. (tt, λ done. holds))
    operated_course dest (replies.Opened sid) = (tt, λ logged. (tt, λ done. holds))
    operated_course dest replies.Password = (tt, λ logged. (tt, λ done. holds))
    operated_course dest (replies.Challenge number word_seed) = (tt, λ logged. (tt, λ done. holds))
    operated_course dest (replies.Shown summary) = (tt, λ logged. (tt, λ done. holds))

    may_operate : (asked : Bool) (at : CourseState) → asked ≡ true → going_if asked at ≡ true → (dest : Dest) → MayCome false at (Ask (requests.Operation services.Telnet dest.host))
    may_operate true Going asks is dest = refl
    may_operate true Unasked asks is dest = absurd (true≢false (sym is))
    may_operate true Finished asks is dest = absurd (true≢false (sym is))
    may_operate false at asks is dest = absurd (true≢false (sym asks))

    permitted_course : (extnd : Bool) (dest : Dest) → gate.options.extnd ≡ extnd → Leaves_at (permitted_row extnd gate dest) state
    permitted_course true dest extnd = (may_operate (asks_login gate.options) state (or_last (is_some gate.options.auth) gate.options.authall gate.options.extnd extnd) holds dest, λ reply. operated_course dest reply)
    permitted_course false dest extnd = connect_course dest

    dest_course : (allowed : Bool) (dest : Dest) → Leaves_at (dest_row allowed gate dest) state
    dest_course true dest = permitted_course gate.options.extnd dest refl
    dest_course false dest = (tt, λ logged. (tt, λ done. holds))

    command_course : (command : Command) → Leaves_at (command_row gate command) state
    command_course Nothing = (tt, λ done. holds)
    command_course (Connect dest) = dest_course (allows gate.options dest) dest
    command_course Quit = (tt, λ done. tt)
    command_course Help = (tt, λ done. holds)
    command_course Unknown = (tt, λ done. holds)

    commanding_course : (heard : Heard) → Leaves_at (commanding_row gate heard) state
    commanding_course (Line line) = command_course (command_of line.items)
    commanding_course TooLong = (tt, λ done. holds)
    commanding_course (Stopped stop) = tt

  rows_course : Keeps own (tn_course Origin gate)
  rows_course (Naming open_) state holds = (tt, λ heard. naming_course holds.0 open_ heard state holds.1)
  rows_course (Answering name hidden) state holds = (tt, λ heard. subst (λ (s : CourseState). Leaves_at (answering_row gate name hidden heard) s) (sym holds.1) (answering_course holds.0 name hidden heard))
  rows_course Commanding state holds = (tt, λ heard. commanding_course state holds heard)

  first_course : (asked : Bool) → asks_login gate.options ≡ asked → Leaves_at (first_by asked) Unasked
  first_course true asked = (tt, λ done. (asked, refl))
  first_course false asked = (tt, λ done. ap (λ (b : Bool). going_if b Unasked) asked)

  relay_course : (state : CourseState) → Unit {0} → Leaves (tn_course Origin gate) (Do Relay (λ flow. Over)) state
  relay_course state over = (tt, λ flow. tt)

  once_in : (old new : World Origin) (ending : Ending) (held : Held (relayed (tn_rows gate)) (then_relay (tn_row gate)) old new ending) → old.office.opened ≡ None → OpensOnce (gives asked (deeds_of held))
  once_in old new ending held none =
      held_so (relayed own) (then_relay (tn_row gate)) old new ending held
      (leaves_relayed own (tn_course Origin gate) relay_course (tn_row gate) Unasked (first_course (asks_login gate.options) refl)) (keeps_relayed own (tn_course Origin gate) relay_course rows_course) none

pub held_once : {Origin : Type 0} (gate : Gate) (old new : World Origin) (ending : Ending) (held : Held (relayed (tn_rows gate)) (then_relay (tn_row gate)) old new ending) → old.office.opened ≡ None → OpensOnce (gives asked (deeds_of held))
held_once {Origin} gate old new ending held none = once_in Origin gate old new ending held none
