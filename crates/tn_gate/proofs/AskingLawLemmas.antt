-- What the rows ask and where they end, said of all deeds of a session.
use Rattle.std.proofs.Common.{◌≡◌, refl, sym, ap, subst, ◌∙◌, ℕ, Bool, true, false, not, ◌||◌, List, [], ◌∷◌, ◌++◌, map, Option, Some, None, Result, Ok, Err, append_assoc, append-nil}
use mathlib.Core.Bool.{true≢false}
use Rattle.std.specs.Prelude.{is_some}
use Rattle.std.proofs.lemmas.List.Elements.{filter_map-append}
use Rattle.auth_events.specs.Login.{login_in, login_then}
use Rattle.auth_events.proofs.LoginLemmas.{then_stands}
use Rattle.auth_events.specs.declared.port.PortFault.{PortFault}
use Rattle.auth_events.specs.declared.reply.Reply.{Reply}
use Rattle.auth_events.specs.declared.reply.Reply.TheVariants as replies
use Rattle.auth_events.specs.declared.request.Request.{Request}
use Rattle.auth_events.specs.declared.request.Request.TheVariants as requests
use Rattle.fw_acts.specs.Acts.{Row, Step, PlaceTable}
use Rattle.fw_acts.specs.Acts.Row.{Do, At, Over}
use Rattle.fw_acts.specs.Histories.{AllMay, Keeps, Leaves, history}
use Rattle.fw_acts.specs.Ran.{Comes, Ran}
use Rattle.fw_acts.proofs.HistoryLemmas.{run_leaves, run_may}
use Rattle.fw_outside.specs.declared.ask.Ask as outside
use Rattle.fw_outside.specs.declared.heard.Heard.TheVariants.{Stopped}
use Rattle.fw_outside.specs.declared.heard.Stop.{Stop}
use Rattle.fw_types.specs.declared.ending.Ending.{Ending}
use Rattle.session_acts.specs.Acts.{Act, Halt, Outcome}
use Rattle.session_acts.specs.Acts.Act.{Hear, Say, Try, Log, Note, Ask, Renew, Dial, Reach, Take, Pass, HangUp, Relay, Deposit, Allot, TakeReply, OpenDoor, Join, Copy, Part}
use Rattle.session_acts.specs.Deeds.{Deed, deed_last, deeds_ran, done, gives}
use Rattle.session_acts.specs.Hearing.{heard_by, heard_in}
use Rattle.session_acts.specs.Laws.{called}
use Rattle.session_acts.specs.Met.{acts, reply_of, stop_of}
use Rattle.session_acts.specs.RelayFronts.{before_relay, unless_relay}
use Rattle.session_acts.specs.RelayLast.{RelaysLast}
use Rattle.session_acts.specs.Relayed.{relayed, then_relay}
use Rattle.session_acts.specs.Session.{Held, closing, deeds_of, freeing, owed}
use Rattle.session_acts.specs.Talk.{answered, asked, opened_after, replied}
use Rattle.session_acts.specs.World.{Speaker, World}
use Rattle.session_acts.specs.declared.cause.Cause.{Cause}
use Rattle.session_acts.proofs.RelayLemmas.{keeps_relayed, leaves_relayed}
use Rattle.session_acts.proofs.TalkLemmas.{opened_both}
use Rattle.tn_gate.specs.Asking.{AsksAt, AsksNext, AsksWhatIsDue, behind_opening, calls_for, due_request, is_heard_or_asked}
use Rattle.tn_gate.specs.Dialogue.{tn_row, tn_rows}
use Rattle.tn_gate.specs.Due.{asks_from, asks_last, heard_from, heard_last, takes_commands}
use Rattle.tn_gate.specs.Ends.{EndsThere, HasEnd, ends_dialogue, is_last_heard}
use Rattle.tn_gate.specs.Gate.{Gate, asks_login}
use Rattle.tn_gate.specs.declared.place.Place.{Place}
use Rattle.tn_gate.proofs.AccountLemmas.{Talk, deed_of}
use Rattle.tn_gate.proofs.AskingLemmas.{IsOver, May, Point, asking_watch, at_start, commands_at, due_then, ends_at, first_asks, goes_on, logins, next, rows_ask}
use Rattle.tn_gate.proofs.DueLemmas.{clash}

-- ---- all deeds

abbrev point_after : Gate → Point → List Deed → Point
point_after gate p [] = p
point_after gate p (deed ∷ deeds) = point_after gate (next gate p deed.act deed.outcome) deeds

-- each may come where it does, and nothing is due at the end
abbrev AllFit : Gate → Point → List Deed → Type 0
AllFit gate p [] = p.due ≡ None
AllFit gate p (deed ∷ deeds) = May p deed.act × AllFit gate (next gate p deed.act deed.outcome) deeds

fit_from : (gate : Gate) (p : Point) (before after : List Deed) → AllFit gate p (before ++ after) → AllFit gate (point_after gate p before) after
fit_from gate p [] after all = all
fit_from gate p (deed ∷ before) after all = fit_from gate (next gate p deed.act deed.outcome) before after all.1

-- ---- what is known there

abbrev talk : List Deed → Talk
talk deeds = answered (gives asked deeds)

talk_both : (deed : Deed) (deeds : List Deed) → answered (asked deed.act deed.outcome ++ gives asked deeds) ≡ answered (asked deed.act deed.outcome) ++ talk deeds
talk_both deed deeds = filter_map-append (λ (ask : Request × Option Reply). replied ask.0 ask.1) (asked deed.act deed.outcome) (gives asked deeds)

heard_is : (gate : Gate) (p : Point) (deeds : List Deed) → (point_after gate p deeds).heard ≡ heard_from p.heard deeds
heard_is gate p [] = refl
heard_is gate p (deed ∷ deeds) = heard_is gate (next gate p deed.act deed.outcome) deeds

opened_is : (gate : Gate) (p : Point) (deeds : List Deed) → (point_after gate p deeds).opened ≡ opened_after p.opened (gives asked deeds)
opened_is gate p [] = refl
opened_is gate p (deed ∷ deeds) = opened_is gate (next gate p deed.act deed.outcome) deeds ∙ sym (opened_both p.opened (asked deed.act deed.outcome) (gives asked deeds))

asks_both : (asks : Bool) (first more : Talk) → asks_from asks (first ++ more) ≡ asks_from (asks_from asks first) more
asks_both asks [] more = refl
asks_both asks (said ∷ first) more = asks_both (asks_from asks (said ∷ [])) first more

awaits_is : (gate : Gate) (p : Point) (deeds : List Deed) → (point_after gate p deeds).awaits ≡ asks_from p.awaits (talk deeds)
awaits_is gate p [] = refl
awaits_is gate p (deed ∷ deeds) =
    awaits_is gate (next gate p deed.act deed.outcome) deeds ∙ sym (asks_both p.awaits (answered (asked deed.act deed.outcome)) (talk deeds)) ∙ ap (λ (z : Talk). asks_from p.awaits z) (sym (talk_both deed deeds))

logins_both : (stood : Bool) (first more : Talk) → logins stood (first ++ more) ≡ logins (logins stood first) more
logins_both stood [] more = refl
logins_both stood (said ∷ first) more = logins_both (login_then stood said) first more

login_is : (gate : Gate) (p : Point) (deeds : List Deed) → (point_after gate p deeds).login ≡ logins p.login (talk deeds)
login_is gate p [] = refl
login_is gate p (deed ∷ deeds) =
    login_is gate (next gate p deed.act deed.outcome) deeds ∙ sym (logins_both p.login (answered (asked deed.act deed.outcome)) (talk deeds)) ∙ ap (λ (z : Talk). logins p.login z) (sym (talk_both deed deeds))

logins_in : (first more : Talk) → logins (login_in first) more ≡ login_in (first ++ more)
logins_in first [] = ap login_in (sym (append-nil first))
logins_in first (said ∷ more) =
    ap (λ (b : Bool). logins b more) (sym (then_stands first said)) ∙ logins_in (first ++ said ∷ []) more ∙ ap login_in (append_assoc first (said ∷ []) more)

module _ (gate : Gate) (before : List Deed) where
  abbrev here : Point
  here = point_after gate at_start before

  commands_is : commands_at gate here ≡ takes_commands gate before
  commands_is = ap (λ (b : Bool). not (asks_login gate.options) || b) (login_is gate at_start before ∙ logins_in [] (talk before))

  due_is : (act : Act) (outcome : Outcome act) → is_heard_or_asked act ≡ true → due_then gate here act outcome ≡ due_request gate before act outcome
  due_is (Hear form) outcome is =
      ap (λ (b : Bool). calls_for gate b here.awaits (is_some here.opened) (heard_by outcome)) commands_is
      ∙ ap (λ (b : Bool). calls_for gate (takes_commands gate before) b (is_some here.opened) (heard_by outcome)) (awaits_is gate at_start before)
      ∙ ap (λ (o : Option ℕ). calls_for gate (takes_commands gate before) (asks_last (talk before)) (is_some o) (heard_by outcome)) (opened_is gate at_start before)
  due_is (Ask request) outcome is = ap (λ (text : List ℕ). behind_opening text (reply_of outcome) request) (heard_is gate at_start before)
  due_is (Say text) outcome is = clash is
  due_is (Try text) outcome is = clash is
  due_is (Log text) outcome is = clash is
  due_is (Note text) outcome is = clash is
  due_is (Renew name hash) outcome is = clash is
  due_is (Dial dest) outcome is = clash is
  due_is (Reach dest) outcome is = clash is
  due_is Take outcome is = clash is
  due_is (Pass text) outcome is = clash is
  due_is HangUp outcome is = clash is
  due_is Relay outcome is = clash is
  due_is (Deposit sender rcpts words most) outcome is = clash is
  due_is Allot outcome is = clash is
  due_is (TakeReply how) outcome is = clash is
  due_is OpenDoor outcome is = clash is
  due_is (Join dest target) outcome is = clash is
  due_is (Copy toward) outcome is = clash is
  due_is Part outcome is = clash is

  ends_is : (act : Act) (outcome : Outcome act) → ends_at gate here act outcome ≡ ends_dialogue gate before act outcome
  ends_is (Hear form) outcome = ap (λ (b : Bool). is_last_heard b (heard_by outcome)) commands_is
  ends_is (Say text) outcome = refl
  ends_is (Try text) outcome = refl
  ends_is (Log text) outcome = refl
  ends_is (Note text) outcome = refl
  ends_is (Ask request) outcome = refl
  ends_is (Renew name hash) outcome = refl
  ends_is (Dial dest) outcome = refl
  ends_is (Reach dest) outcome = refl
  ends_is Take outcome = refl
  ends_is (Pass text) outcome = refl
  ends_is HangUp outcome = refl
  ends_is Relay outcome = refl
  ends_is (Deposit sender rcpts words most) outcome = refl
  ends_is Allot outcome = refl
  ends_is (TakeReply how) outcome = refl
  ends_is OpenDoor outcome = refl
  ends_is (Join dest target) outcome = refl
  ends_is (Copy toward) outcome = refl
  ends_is Part outcome = refl

-- ---- a stop, and what is owed

none_heard : (gate : Gate) (commands awaits is_open : Bool) (stop : Stop) → calls_for gate commands awaits is_open (Stopped stop) ≡ None
none_heard gate true awaits is_open stop = refl
none_heard gate false true is_open stop = refl
none_heard gate false false is_open stop = refl

stop_none : (gate : Gate) (p : Point) (act : Act) (halt : Halt act) → May p act → (next gate p act (Err halt)).due ≡ None
stop_none gate p (Hear form) halt may = none_heard gate (commands_at gate p) p.awaits (is_some p.opened) (stop_of halt)
stop_none gate p (Say text) halt may = refl
stop_none gate p (Try text) halt may = absurd halt
stop_none gate p (Log text) halt may = may.asks
stop_none gate p (Note text) halt may = absurd halt
stop_none gate p (Ask request) halt may = refl
stop_none gate p (Renew name hash) halt may = absurd may.asks
stop_none gate p (Dial dest) halt may = absurd halt
stop_none gate p (Reach dest) halt may = absurd may.asks
stop_none gate p Take halt may = absurd may.asks
stop_none gate p (Pass text) halt may = absurd may.asks
stop_none gate p HangUp halt may = absurd halt
stop_none gate p Relay halt may = may.asks
stop_none gate p (Deposit sender rcpts words most) halt may = absurd may.asks
stop_none gate p Allot halt may = absurd may.asks
stop_none gate p (TakeReply how) halt may = absurd may.asks
stop_none gate p OpenDoor halt may = absurd halt
stop_none gate p (Join dest target) halt may = absurd halt
stop_none gate p (Copy toward) halt may = absurd halt
stop_none gate p Part halt may = absurd halt

none_behind : (text : List ℕ) (answer : Result Reply PortFault) → behind_opening text (reply_of answer) requests.Close ≡ None
none_behind text (Ok (replies.Opened sid)) = refl
none_behind text (Ok replies.Password) = refl
none_behind text (Ok (replies.Challenge number word_seed)) = refl
none_behind text (Ok replies.Ok) = refl
none_behind text (Ok (replies.Shown summary)) = refl
none_behind text (Ok (replies.Denied denial)) = refl
none_behind text (Err fault) = refl

closing_fits : (gate : Gate) (p : Point) (opened : Option ℕ) (answer : Result Reply PortFault) → p.due ≡ None → AllFit gate p (closing opened answer)
closing_fits gate p None answer none = none
closing_fits gate p (Some sid) answer none = (record { asks = none; ends = λ is. refl }, none_behind p.heard answer)

owed_fits : (gate : Gate) (p : Point) (link : Option Speaker) (opened : Option ℕ) (answer : Result Reply PortFault) → p.due ≡ None → AllFit gate p (freeing link ++ closing opened answer)
owed_fits gate p None opened answer none = closing_fits gate p opened answer none
owed_fits gate p (Some up) opened answer none = (record { asks = none; ends = λ is. refl }, closing_fits gate (next gate p HangUp (Ok tt)) opened answer none)

-- ---- a session

module _ (Origin : Type 0) (gate : Gate) where
  relay_leaves : (p : Point) → IsOver p → Leaves (asking_watch Origin gate) (Do Relay (λ flow. Over)) p
  relay_leaves p over = (record { asks = over.0; ends = λ is. refl }, λ flow. over)

  steps_fit : (p : Point) (steps : List (Step (acts Origin))) (more : List Deed) → AllMay (asking_watch Origin gate) p steps → AllFit gate (history (asking_watch Origin gate) p steps) more → AllFit gate p (map done steps ++ more)
  steps_fit p [] more all rest = rest
  steps_fit p (step ∷ steps) more all rest = (all.0, steps_fit (next gate p step.act (Ok step.answer)) steps more all.1 rest)

  steps_noted : (p : Point) (steps : List (Step (acts Origin))) → history (asking_watch Origin gate) p steps ≡ point_after gate p (map done steps)
  steps_noted p [] = refl
  steps_noted p (step ∷ steps) = steps_noted (next gate p step.act (Ok step.answer)) steps

  abbrev over_row : Unit {0} → Row (acts Origin) Place
  over_row done = Over

  over_at : (p : Point) (left : Row (acts Origin) Place) → left ≡ Over → Leaves (asking_watch Origin gate) left p → IsOver p
  over_at p left is leaves = subst (λ (r : Row (acts Origin) Place). Leaves (asking_watch Origin gate) r p) is leaves

  module _ (rows : PlaceTable (acts Origin) Place) (keeps : Keeps rows (asking_watch Origin gate)) where
    last_fits : (dialogue : Result (Unit {0}) Cause) (new : World Origin) (left : Row (acts Origin) Place) (mid : World Origin) (comes : Comes rows over_row dialogue new left mid) (p : Point) (answer : Result Reply PortFault)
        → Leaves (asking_watch Origin gate) left p → AllFit gate p (deed_last rows over_row dialogue new left mid comes ++ owed new answer)
    last_fits (Ok end) new left mid comes p answer leaves = owed_fits gate p new.server.link new.office.opened answer (over_at p left comes.0 leaves).0
    last_fits (Err cause) new (Do act go) mid comes p answer leaves =
        (leaves.0, owed_fits gate (next gate p act (Err comes.halt)) new.server.link new.office.opened answer (stop_none gate p act comes.halt leaves.0))
    last_fits (Err cause) new (At place) mid comes p answer leaves =
        let may = (keeps place p leaves).0 in
        (may, owed_fits gate (next gate p (rows.act place) (Err comes.halt)) new.server.link new.office.opened answer (stop_none gate p (rows.act place) comes.halt may))
    last_fits (Err cause) new Over mid comes p answer leaves = absurd comes

    held_fits : (first : Row (acts Origin) Place) (old new : World Origin) (ending : Ending) (held : Held rows first old new ending) → Leaves (asking_watch Origin gate) first at_start → AllFit gate at_start (deeds_of held)
    held_fits first old new ending held begins =
        let steps = held.ran.steps in
        let last = deed_last rows over_row held.dialogue held.mid held.ran.left held.ran.mid held.ran.comes in
        let leaves = run_leaves rows (asking_watch Origin gate) keeps first held.ran.left at_start steps begins held.ran.run in
        let all = run_may rows (asking_watch Origin gate) keeps first held.ran.left at_start steps begins held.ran.run in
        let rest = last_fits held.dialogue held.mid held.ran.left held.ran.mid held.ran.comes (history (asking_watch Origin gate) at_start steps) held.answer leaves in
        subst (λ (d : List Deed). AllFit gate at_start d) (sym (append_assoc (map done steps) last (owed held.mid held.answer))) (steps_fit at_start steps (last ++ owed held.mid held.answer) all rest)

-- ---- what is asked

asks_by : (p : Point) (act : Act) (outcome : Outcome act) (gate : Gate) (deeds : List Deed) → May p act → AsksNext (next gate p act outcome).due deeds → AsksAt p.due act outcome (AsksNext p.due deeds)
asks_by p (Hear form) outcome gate deeds may later = may.asks
asks_by p (Say text) (Ok said) gate deeds may later = later
asks_by p (Say text) (Err halt) gate deeds may later = tt
asks_by p (Try text) outcome gate deeds may later = absurd may.asks
asks_by p (Log text) outcome gate deeds may later = later
asks_by p (Note text) outcome gate deeds may later = absurd may.asks
asks_by p (Ask request) outcome gate deeds may later = may.asks
asks_by p (Renew name hash) outcome gate deeds may later = absurd may.asks
asks_by p (Dial dest) outcome gate deeds may later = later
asks_by p (Reach dest) outcome gate deeds may later = absurd may.asks
asks_by p Take outcome gate deeds may later = absurd may.asks
asks_by p (Pass text) outcome gate deeds may later = absurd may.asks
asks_by p HangUp outcome gate deeds may later = later
asks_by p Relay outcome gate deeds may later = later
asks_by p (Deposit sender rcpts words most) outcome gate deeds may later = absurd may.asks
asks_by p Allot outcome gate deeds may later = absurd may.asks
asks_by p (TakeReply how) outcome gate deeds may later = absurd may.asks
asks_by p OpenDoor outcome gate deeds may later = absurd may.asks
asks_by p (Join dest target) outcome gate deeds may later = absurd may.asks
asks_by p (Copy toward) outcome gate deeds may later = absurd may.asks
asks_by p Part outcome gate deeds may later = absurd may.asks

asks_next : (gate : Gate) (p : Point) (deeds : List Deed) → AllFit gate p deeds → AsksNext p.due deeds
asks_next gate p [] fit = fit
asks_next gate p (deed ∷ deeds) fit = asks_by p deed.act deed.outcome gate deeds fit.0 (asks_next gate (next gate p deed.act deed.outcome) deeds fit.1)

fits_asks : (gate : Gate) (deeds : List Deed) → AllFit gate at_start deeds → AsksWhatIsDue gate deeds
fits_asks gate deeds all = record {
  begins = asks_next gate at_start deeds all;
  goes_on = λ before after deed is hears.
      let rest = fit_from gate at_start before (deed ∷ after) (subst (λ (d : List Deed). AllFit gate at_start d) is all) in
      subst (λ (due : Option Request). AsksNext due after) (due_is gate before deed.act deed.outcome hears) (asks_next gate (next gate (here gate before) deed.act deed.outcome) after rest.1);
}

-- ---- where it ends

or_true : (b : Bool) → (b || true) ≡ true
or_true true = refl
or_true false = refl

stays_over : (gate : Gate) (p : Point) (deed : Deed) → p.over ≡ true → (next gate p deed.act deed.outcome).over ≡ true
stays_over gate p deed over = ap (λ (b : Bool). ends_at gate p deed.act deed.outcome || b) over ∙ or_true (ends_at gate p deed.act deed.outcome)

calls_none : (act : Act) (outcome : Outcome act) → goes_on act ≡ false → called act outcome ≡ []
calls_none (Hear form) outcome is = refl
calls_none (Say text) outcome is = refl
calls_none (Try text) outcome is = refl
calls_none (Log text) outcome is = refl
calls_none (Note text) outcome is = refl
calls_none (Ask request) outcome is = refl
calls_none (Renew name hash) outcome is = refl
calls_none (Dial dest) outcome is = absurd (true≢false is)
calls_none (Reach dest) outcome is = absurd (true≢false is)
calls_none Take outcome is = refl
calls_none (Pass text) outcome is = refl
calls_none HangUp outcome is = refl
calls_none Relay outcome is = refl
calls_none (Deposit sender rcpts words most) outcome is = refl
calls_none Allot outcome is = refl
calls_none (TakeReply how) outcome is = refl
calls_none OpenDoor outcome is = absurd (true≢false is)
calls_none (Join dest target) outcome is = absurd (true≢false is)
calls_none (Copy toward) outcome is = refl
calls_none Part outcome is = refl

none_called : (gate : Gate) (p : Point) (deeds : List Deed) → p.over ≡ true → AllFit gate p deeds → gives called deeds ≡ []
none_called gate p [] over fit = refl
none_called gate p (deed ∷ deeds) over fit =
    ap (λ (z : List outside.Ask). z ++ gives called deeds) (calls_none deed.act deed.outcome (fit.0.ends over)) ∙ none_called gate (next gate p deed.act deed.outcome) deeds (stays_over gate p deed over) fit.1

hears_none : (act : Act) (outcome : Outcome act) (rest : List Deed) → goes_on act ≡ false → gives heard_in rest ≡ [] → gives heard_in (unless_relay act (deed_of act outcome ∷ rest)) ≡ []
hears_none (Hear form) outcome rest is none = absurd (true≢false is)
hears_none (Say text) outcome rest is none = none
hears_none (Try text) outcome rest is none = none
hears_none (Log text) outcome rest is none = none
hears_none (Note text) outcome rest is none = none
hears_none (Ask request) outcome rest is none = none
hears_none (Renew name hash) outcome rest is none = none
hears_none (Dial dest) outcome rest is none = none
hears_none (Reach dest) outcome rest is none = none
hears_none Take outcome rest is none = none
hears_none (Pass text) outcome rest is none = none
hears_none HangUp outcome rest is none = none
hears_none Relay outcome rest is none = refl
hears_none (Deposit sender rcpts words most) outcome rest is none = absurd (true≢false is)
hears_none Allot outcome rest is none = none
hears_none (TakeReply how) outcome rest is none = none
hears_none OpenDoor outcome rest is none = none
hears_none (Join dest target) outcome rest is none = none
hears_none (Copy toward) outcome rest is none = none
hears_none Part outcome rest is none = none

none_heard_after : (gate : Gate) (p : Point) (deeds : List Deed) → p.over ≡ true → AllFit gate p deeds → gives heard_in (before_relay deeds) ≡ []
none_heard_after gate p [] over fit = refl
none_heard_after gate p (deed ∷ deeds) over fit =
    hears_none deed.act deed.outcome (before_relay deeds) (fit.0.ends over) (none_heard_after gate (next gate p deed.act deed.outcome) deeds (stays_over gate p deed over) fit.1)

fits_ends : (gate : Gate) (deeds : List Deed) → AllFit gate at_start deeds → EndsThere gate deeds
fits_ends gate deeds all before after deed is last =
    let p = next gate (here gate before) deed.act deed.outcome in
    let rest = fit_from gate at_start before (deed ∷ after) (subst (λ (d : List Deed). AllFit gate at_start d) is all) in
    let over : p.over ≡ true = ap (λ (b : Bool). b || (here gate before).over) (ends_is gate before deed.act deed.outcome ∙ last) in
    (none_heard_after gate p after over rest.1, none_called gate p after over rest.1)

-- one of these deeds ends the dialogue
record EndsIn (gate : Gate) (p : Point) (deeds : List Deed) : Type 0 where
  before : List Deed
  deed : Deed
  after : List Deed
  is : deeds ≡ before ++ deed ∷ after
  ends : ends_at gate (point_after gate p before) deed.act deed.outcome ≡ true

ends_later : (gate : Gate) (p : Point) (deed : Deed) (deeds : List Deed) → EndsIn gate (next gate p deed.act deed.outcome) deeds → EndsIn gate p (deed ∷ deeds)
ends_later gate p deed deeds e = record { before = deed ∷ e.before; deed = e.deed; after = e.after; is = ap (λ (z : List Deed). deed ∷ z) e.is; ends = e.ends }

ends_here : (gate : Gate) (p : Point) (deed : Deed) (deeds : List Deed) (b : Bool) → ends_at gate p deed.act deed.outcome ≡ b → p.over ≡ false → ((next gate p deed.act deed.outcome).over ≡ false → EndsIn gate (next gate p deed.act deed.outcome) deeds)
    → EndsIn gate p (deed ∷ deeds)
ends_here gate p deed deeds true is on later = record { before = []; deed = deed; after = deeds; is = refl; ends = is }
ends_here gate p deed deeds false is on later = ends_later gate p deed deeds (later (ap (λ (b : Bool). b || p.over) is ∙ on))

ends_in : (gate : Gate) (p : Point) (deeds : List Deed) → p.over ≡ false → (point_after gate p deeds).over ≡ true → EndsIn gate p deeds
ends_in gate p [] on over = clash (sym on ∙ over)
ends_in gate p (deed ∷ deeds) on over =
    ends_here gate p deed deeds (ends_at gate p deed.act deed.outcome) refl on (λ still. ends_in gate (next gate p deed.act deed.outcome) deeds still over)

-- ---- the laws

module _ {Origin : Type 0} (gate : Gate) (old new : World Origin) (ending : Ending) (held : Held (relayed (tn_rows gate)) (then_relay (tn_row gate)) old new ending) where
  all_fit : AllFit gate at_start (deeds_of held)
  all_fit =
      held_fits Origin gate (relayed (tn_rows gate)) (keeps_relayed (tn_rows gate) (asking_watch Origin gate) (relay_leaves Origin gate) (rows_ask Origin gate)) (then_relay (tn_row gate)) old new ending held
      (leaves_relayed (tn_rows gate) (asking_watch Origin gate) (relay_leaves Origin gate) (tn_row gate) at_start (first_asks Origin gate))

  pub held_due_asked : AsksWhatIsDue gate (deeds_of held)
  held_due_asked = fits_asks gate (deeds_of held) all_fit

  pub held_ends : EndsThere gate (deeds_of held)
  held_ends = fits_ends gate (deeds_of held) all_fit

  pub held_ended : (last : RelaysLast (tn_rows gate) (tn_row gate) held) → HasEnd gate (deeds_ran last.talk)
  held_ended last =
      let ran = last.talk in
      let deeds = map done ran.steps in
      let leaves = run_leaves (tn_rows gate) (asking_watch Origin gate) (rows_ask Origin gate) (tn_row gate) ran.left at_start ran.steps (first_asks Origin gate) ran.run in
      let over = over_at Origin gate (history (asking_watch Origin gate) at_start ran.steps) ran.left ran.comes.0 leaves in
      let e = ends_in gate at_start deeds refl (ap (λ (p : Point). p.over) (sym (steps_noted Origin gate at_start ran.steps)) ∙ over.1) in
      record {
        before = e.before;
        deed = e.deed;
        after = e.after;
        is = append-nil deeds ∙ e.is;
        ends = sym (ends_is gate e.before e.deed.act e.deed.outcome) ∙ e.ends;
      }
