-- The requests of a session whose rows keep the course follow one another so.
use Rattle.std.proofs.Common.{◌≡◌, ◌≢◌, refl, sym, ap, subst, ◌∙◌, ℕ, Bool, true, false, List, [], ◌∷◌, ◌++◌, map, Option, Some, None, Result, Ok, Err, append_assoc, append-nil}
use Rattle.std.proofs.lemmas.List.Concat.{flat_map-append}
use Rattle.std.proofs.lemmas.Option.{none-some}
use Rattle.auth_events.specs.declared.port.PortFault.{PortFault}
use Rattle.auth_events.specs.declared.reply.Reply.{Reply}
use Rattle.auth_events.specs.declared.reply.Reply.TheVariants as replies
use Rattle.auth_events.specs.declared.request.Request.{Request}
use Rattle.auth_events.specs.declared.request.Request.TheVariants as requests
use Rattle.fw_acts.specs.Acts.{Row, Step, PlaceTable}
use Rattle.fw_acts.specs.Acts.Row.{Do, At, Over}
use Rattle.fw_acts.specs.Fronts.{IsSettled}
use Rattle.fw_acts.specs.Histories.{AllMay, Keeps, Leaves, history}
use Rattle.fw_acts.specs.Ran.{Comes}
use Rattle.fw_acts.specs.Runs.{Run}
use Rattle.fw_acts.proofs.HistoryLemmas.{run_leaves, run_may}
use Rattle.fw_types.specs.declared.ending.Ending.{Ending}
use Rattle.session_acts.specs.Acts.{Act, Outcome}
use Rattle.session_acts.specs.Acts.Act.{Hear, Say, Try, Log, Note, Ask, Renew, Dial, Reach, Take, Pass, HangUp, Relay, Deposit, Allot, TakeReply, OpenDoor, Join, Copy, Part}
use Rattle.session_acts.specs.Course.{AreBetween, Course, CourseState, Follows, IsClosed, KeepsCourse, MayAsk, MayCome, course_watch, is_between, is_opening, state_after, state_opened, state_then}
use Rattle.session_acts.specs.Course.CourseState.{Unasked, Going, Finished}
use Rattle.session_acts.specs.Deeds.{Deed, deed_last, deeds_ran, done, gives}
use Rattle.session_acts.specs.Met.{acts, opened_then, reply_of}
use Rattle.session_acts.specs.Session.{Held, closing, deeds_of, freeing, owed}
use Rattle.session_acts.specs.Talk.{asked, opened_after}
use Rattle.session_acts.specs.World.{Speaker, World}
use Rattle.session_acts.specs.declared.cause.Cause.{Cause}
use Rattle.session_acts.proofs.DeedLemmas.{all_gain, ran_deeds}
use Rattle.session_acts.proofs.OwedLemmas.{closed_then}
use Rattle.session_acts.proofs.TalkLemmas.{entered_gains, opened_both}

-- ---- what was asked, where a course has come so far

-- a session was opened, and not asked to close
pub record IsOpen (console : Bool) (asks : List (Request × Option Reply)) : Type 0 where
  pub sid : ℕ
  pub between : List (Request × Option Reply)
  pub are_between : AreBetween between
  pub is : asks ≡ (requests.Open console, Some (replies.Opened sid)) ∷ between

-- it was closed, or none was opened
pub record IsOver (console : Bool) (asks : List (Request × Option Reply)) : Type 0 where
  pub first : Option Reply
  pub rest : List (Request × Option Reply)
  pub follows : Follows first rest
  pub is : asks ≡ (requests.Open console, first) ∷ rest

abbrev pub Stands : Bool → CourseState → List (Request × Option Reply) → Type 0
Stands console Unasked asks = asks ≡ []
Stands console Going asks = IsOpen console asks
Stands console Finished asks = IsOver console asks

record StandsSome (console : Bool) (asks : List (Request × Option Reply)) : Type 0 where
  state : CourseState
  stands : Stands console state asks

over_course : (console : Bool) (asks : List (Request × Option Reply)) → IsOver console asks → Course console asks
over_course console asks o = subst (λ (z : List (Request × Option Reply)). Course console z) (sym o.is) (refl, o.follows)

between_more : (asks : List (Request × Option Reply)) (request : Request) (reply : Option Reply) → AreBetween asks → is_between request ≡ true → AreBetween (asks ++ (request, reply) ∷ [])
between_more [] request reply all is = (is, tt)
between_more (ask ∷ asks) request reply all is = (all.0, between_more asks request reply all.1 is)

open_more : (console : Bool) (asks : List (Request × Option Reply)) (request : Request) (reply : Option Reply) → is_between request ≡ true → IsOpen console asks → IsOpen console (asks ++ (request, reply) ∷ [])
open_more console asks request reply is o = record {
  sid = o.sid;
  between = o.between ++ (request, reply) ∷ [];
  are_between = between_more o.between request reply o.are_between is;
  is = ap (λ (z : List (Request × Option Reply)). z ++ (request, reply) ∷ []) o.is;
}

open_closes : (console : Bool) (asks : List (Request × Option Reply)) (reply : Option Reply) → IsOpen console asks → IsOver console (asks ++ (requests.Close, reply) ∷ [])
open_closes console asks reply o = record {
  first = Some (replies.Opened o.sid);
  rest = o.between ++ (requests.Close, reply) ∷ [];
  follows = record { between = o.between; last = reply; are_between = o.are_between; is = refl };
  is = ap (λ (z : List (Request × Option Reply)). z ++ (requests.Close, reply) ∷ []) o.is;
}

not_opened : (console : Bool) (reply : Option Reply) → Follows reply [] → IsOver console ((requests.Open console, reply) ∷ [])
not_opened console reply follows = record { first = reply; rest = []; follows = follows; is = refl }

pub opening_stands : (console : Bool) (reply : Option Reply) → Stands console (state_opened reply) ((requests.Open console, reply) ∷ [])
opening_stands console None = not_opened console None refl
opening_stands console (Some (replies.Opened sid)) = record { sid = sid; between = []; are_between = tt; is = refl }
opening_stands console (Some replies.Password) = not_opened console (Some replies.Password) refl
opening_stands console (Some (replies.Challenge number word_seed)) = not_opened console (Some (replies.Challenge number word_seed)) refl
opening_stands console (Some replies.Ok) = not_opened console (Some replies.Ok) refl
opening_stands console (Some (replies.Shown summary)) = not_opened console (Some (replies.Shown summary)) refl
opening_stands console (Some (replies.Denied denial)) = not_opened console (Some (replies.Denied denial)) refl

-- ---- one act more

first_stands : (console : Bool) (asks : List (Request × Option Reply)) (request : Request) (reply : Option Reply) → asks ≡ [] → request ≡ requests.Open console
    → Stands console (state_then Unasked request reply) (asks ++ (request, reply) ∷ [])
first_stands console asks request reply none is =
    let opening = subst (λ (r : Request). Stands console (state_then Unasked r reply) ((r, reply) ∷ [])) (sym is) (opening_stands console reply) in
    subst (λ (z : List (Request × Option Reply)). Stands console (state_then Unasked request reply) (z ++ (request, reply) ∷ [])) (sym none) opening

open_stands : (console : Bool) (asks : List (Request × Option Reply)) (request : Request) (reply : Option Reply) → IsOpen console asks → is_opening request ≡ false
    → Stands console (state_then Going request reply) (asks ++ (request, reply) ∷ [])
open_stands console asks (requests.Open other) reply o plain = absurd (cc)
open_stands console asks requests.Close reply o plain = open_closes console asks reply o
open_stands console asks request reply o plain = open_more console asks request reply refl o

ask_stands : (console : Bool) (state : CourseState) (asks : List (Request × Option Reply)) (request : Request) (reply : Option Reply) → Stands console state asks → MayAsk console state request
    → Stands console (state_then state request reply) (asks ++ (request, reply) ∷ [])
ask_stands console Unasked asks request reply stands may = first_stands console asks request reply stands may
ask_stands console Going asks request reply stands may = open_stands console asks request reply stands may
ask_stands console Finished asks request reply stands may = absurd may

renew_stands : (console : Bool) (state : CourseState) (asks : List (Request × Option Reply)) (request : Request) (reply : Option Reply) → is_between request ≡ true → Stands console state asks → state ≡ Going
    → Stands console state (asks ++ (request, reply) ∷ [])
renew_stands console Unasked asks request reply is stands may = absurd (cc)
renew_stands console Going asks request reply is stands may = open_more console asks request reply is stands
renew_stands console Finished asks request reply is stands may = absurd (cc)

-- nothing was asked
pub same_stands : (console : Bool) (state : CourseState) (asks : List (Request × Option Reply)) → Stands console state asks → Stands console state (asks ++ [])
same_stands console state asks stands = subst (λ (z : List (Request × Option Reply)). Stands console state z) (sym (append-nil asks)) stands

pub act_stands : (console : Bool) (state : CourseState) (asks : List (Request × Option Reply)) (act : Act) (outcome : Outcome act) → Stands console state asks → MayCome console state act
    → Stands console (state_after state act outcome) (asks ++ asked act outcome)
act_stands console state asks (Ask request) outcome stands may = ask_stands console state asks request (reply_of outcome) stands may
act_stands console state asks (Renew name hash) (Ok salts) stands may = renew_stands console state asks (requests.Password name salts.0 hash) (Some salts.1) refl stands may
act_stands console state asks (Renew name hash) (Err salts) stands may = renew_stands console state asks (requests.Password name salts.0 hash) None refl stands may
act_stands console state asks (Hear form) outcome stands may = same_stands console state asks stands
act_stands console state asks (Say text) outcome stands may = same_stands console state asks stands
act_stands console state asks (Try text) outcome stands may = same_stands console state asks stands
act_stands console state asks (Log text) outcome stands may = same_stands console state asks stands
act_stands console state asks (Deposit sender rcpts words most) outcome stands may = same_stands console state asks stands
act_stands console state asks Allot outcome stands may = same_stands console state asks stands
act_stands console state asks (TakeReply how) outcome stands may = same_stands console state asks stands
act_stands console state asks OpenDoor outcome stands may = same_stands console state asks stands
act_stands console state asks (Join dest target) outcome stands may = same_stands console state asks stands
act_stands console state asks (Copy toward) outcome stands may = same_stands console state asks stands
act_stands console state asks Part outcome stands may = same_stands console state asks stands
act_stands console state asks (Note text) outcome stands may = same_stands console state asks stands
act_stands console state asks (Dial dest) outcome stands may = same_stands console state asks stands
act_stands console state asks (Reach dest) outcome stands may = same_stands console state asks stands
act_stands console state asks Take outcome stands may = same_stands console state asks stands
act_stands console state asks (Pass text) outcome stands may = same_stands console state asks stands
act_stands console state asks HangUp outcome stands may = same_stands console state asks stands
act_stands console state asks Relay outcome stands may = same_stands console state asks stands

-- ---- which session is open after these

pub stays_open : (request : Request) (reply : Option Reply) (opened : Option ℕ) → is_between request ≡ true → opened_then request reply opened ≡ opened
stays_open (requests.Open console) reply opened is = absurd (cc)
stays_open requests.Close reply opened is = absurd (cc)
stays_open request None opened is = refl
stays_open request (Some reply) opened is = refl

between_open : (opened : Option ℕ) (asks : List (Request × Option Reply)) → AreBetween asks → opened_after opened asks ≡ opened
between_open opened [] all = refl
between_open opened (ask ∷ asks) all =
    ap (λ (z : Option ℕ). opened_after z asks) (stays_open ask.0 ask.1 opened all.0) ∙ between_open opened asks all.1

open_opened : (console : Bool) (asks : List (Request × Option Reply)) (o : IsOpen console asks) → opened_after None asks ≡ Some o.sid
open_opened console asks o =
    ap (λ (z : List (Request × Option Reply)). opened_after None z) o.is ∙ between_open (Some o.sid) o.between o.are_between

closed_opened : (opened : Option ℕ) (asks : List (Request × Option Reply)) → IsClosed asks → opened_after opened asks ≡ None
closed_opened opened asks c =
    ap (λ (z : List (Request × Option Reply)). opened_after opened z) c.is ∙ opened_both opened c.between ((requests.Close, c.last) ∷ []) ∙ closed_then c.last (opened_after opened c.between)

follows_none : (console : Bool) (first : Option Reply) (rest : List (Request × Option Reply)) → Follows first rest → opened_after None ((requests.Open console, first) ∷ rest) ≡ None
follows_none console None rest follows = ap (λ (z : List (Request × Option Reply)). opened_after None z) follows
follows_none console (Some (replies.Opened sid)) rest follows = closed_opened (Some sid) rest follows
follows_none console (Some replies.Password) rest follows = ap (λ (z : List (Request × Option Reply)). opened_after None z) follows
follows_none console (Some (replies.Challenge number word_seed)) rest follows = ap (λ (z : List (Request × Option Reply)). opened_after None z) follows
follows_none console (Some replies.Ok) rest follows = ap (λ (z : List (Request × Option Reply)). opened_after None z) follows
follows_none console (Some (replies.Shown summary)) rest follows = ap (λ (z : List (Request × Option Reply)). opened_after None z) follows
follows_none console (Some (replies.Denied denial)) rest follows = ap (λ (z : List (Request × Option Reply)). opened_after None z) follows

over_opened : (console : Bool) (asks : List (Request × Option Reply)) → IsOver console asks → opened_after None asks ≡ None
over_opened console asks o = ap (λ (z : List (Request × Option Reply)). opened_after None z) o.is ∙ follows_none console o.first o.rest o.follows

-- ---- the close that is owed

unasked_closes : (console : Bool) (opened : Option ℕ) (answer : Result Reply PortFault) (asks : List (Request × Option Reply)) → asks ≡ [] → opened ≡ opened_after None asks → Course console (asks ++ gives asked (closing opened answer))
unasked_closes console None answer asks none is = subst (λ (z : List (Request × Option Reply)). Course console (z ++ [])) (sym none) tt
unasked_closes console (Some sid) answer asks none is = absurd (none-some sid (sym (is ∙ ap (λ (z : List (Request × Option Reply)). opened_after None z) none)))

open_is_closed : (console : Bool) (opened : Option ℕ) (answer : Result Reply PortFault) (asks : List (Request × Option Reply)) → IsOpen console asks → opened ≡ opened_after None asks → Course console (asks ++ gives asked (closing opened answer))
open_is_closed console None answer asks o is = absurd (none-some o.sid (is ∙ open_opened console asks o))
open_is_closed console (Some sid) answer asks o is = over_course console (asks ++ (requests.Close, reply_of answer) ∷ []) (open_closes console asks (reply_of answer) o)

over_closes : (console : Bool) (opened : Option ℕ) (answer : Result Reply PortFault) (asks : List (Request × Option Reply)) → IsOver console asks → opened ≡ opened_after None asks → Course console (asks ++ gives asked (closing opened answer))
over_closes console None answer asks o is = subst (λ (z : List (Request × Option Reply)). Course console z) (sym (append-nil asks)) (over_course console asks o)
over_closes console (Some sid) answer asks o is = absurd (none-some sid (sym (is ∙ over_opened console asks o)))

pub closing_course : (console : Bool) (state : CourseState) (opened : Option ℕ) (answer : Result Reply PortFault) (asks : List (Request × Option Reply)) → Stands console state asks → opened ≡ opened_after None asks
    → Course console (asks ++ gives asked (closing opened answer))
closing_course console Unasked opened answer asks stands is = unasked_closes console opened answer asks stands is
closing_course console Going opened answer asks stands is = open_is_closed console opened answer asks stands is
closing_course console Finished opened answer asks stands is = over_closes console opened answer asks stands is

-- hanging up asks nothing
pub freeing_asks : (link : Option Speaker) (deeds : List Deed) → gives asked (freeing link ++ deeds) ≡ gives asked deeds
freeing_asks None deeds = refl
freeing_asks (Some link) deeds = refl

pub asked_both : (first more : List Deed) → gives asked (first ++ more) ≡ gives asked first ++ gives asked more
asked_both first more = flat_map-append (λ (deed : Deed). asked deed.act deed.outcome) first more

-- the act at which a session stopped
stop_stands : (console : Bool) (state : CourseState) (asks : List (Request × Option Reply)) (act : Act) (outcome : Outcome act) → Stands console state asks → MayCome console state act
    → StandsSome console (asks ++ gives asked (record { act = act; outcome = outcome } ∷ []))
stop_stands console state asks act outcome stands may = record {
  state = state_after state act outcome;
  stands = subst (λ (z : List (Request × Option Reply)). Stands console (state_after state act outcome) (asks ++ z)) (sym (append-nil (asked act outcome))) (act_stands console state asks act outcome stands may);
}

-- ---- the rows

module _ {Origin P : Type 0} (console : Bool) (may_be : P → CourseState → Bool) where
  steps_stand : (state : CourseState) (asks : List (Request × Option Reply)) (steps : List (Step (acts Origin))) → Stands console state asks → AllMay (course_watch Origin console may_be) state steps
      → Stands console (history (course_watch Origin console may_be) state steps) (asks ++ gives asked (map done steps))
  steps_stand state asks [] stands all = same_stands console state asks stands
  steps_stand state asks (step ∷ steps) stands all =
      let next = state_after state step.act (Ok step.answer) in
      let here = act_stands console state asks step.act (Ok step.answer) stands all.0 in
      let rest = steps_stand next (asks ++ asked step.act (Ok step.answer)) steps here all.1 in
      subst (λ (z : List (Request × Option Reply)). Stands console (history (course_watch Origin console may_be) next steps) z) (append_assoc asks (asked step.act (Ok step.answer)) (gives asked (map done steps))) rest

  last_stands : (rows : PlaceTable (acts Origin) P) → Keeps rows (course_watch Origin console may_be) → (dialogue : Result (Unit {0}) Cause) (new : World Origin) (left : Row (acts Origin) P) (mid : World Origin) (comes : Comes rows (λ (over : Unit {0}). Over) dialogue new left mid)
      → (state : CourseState) (asks : List (Request × Option Reply)) → Stands console state asks → Leaves (course_watch Origin console may_be) left state
      → StandsSome console (asks ++ gives asked (deed_last rows (λ (over : Unit {0}). Over) dialogue new left mid comes))
  last_stands rows keeps (Ok over) new left mid comes state asks stands leaves = record { state = state; stands = same_stands console state asks stands }
  last_stands rows keeps (Err cause) new (Do act go) mid comes state asks stands leaves = stop_stands console state asks act (Err comes.halt) stands leaves.0
  last_stands rows keeps (Err cause) new (At place) mid comes state asks stands leaves = stop_stands console state asks (rows.act place) (Err comes.halt) stands (keeps place state leaves).0
  last_stands rows keeps (Err cause) new Over mid comes state asks stands leaves = absurd comes

  -- what a dialogue asked
  dialogue_stands : (rows : PlaceTable (acts Origin) P) (first : Row (acts Origin) P) (old new : World Origin) (ending : Ending) (held : Held rows first old new ending) → KeepsCourse console may_be rows first
      → StandsSome console (gives asked (deeds_ran held.ran))
  dialogue_stands rows first old new ending held keeps =
      let steps = held.ran.steps in
      let left = held.ran.left in
      let last = deed_last rows (λ (over : Unit {0}). Over) held.dialogue held.mid left held.ran.mid held.ran.comes in
      let leaves = run_leaves rows (course_watch Origin console may_be) keeps.goes_on first left Unasked steps keeps.begins held.ran.run in
      let all = run_may rows (course_watch Origin console may_be) keeps.goes_on first left Unasked steps keeps.begins held.ran.run in
      let before = steps_stand Unasked [] steps refl all in
      let stood = last_stands rows keeps.goes_on held.dialogue held.mid left held.ran.mid held.ran.comes (history (course_watch Origin console may_be) Unasked steps) (gives asked (map done steps)) before leaves in
      record { state = stood.state; stands = subst (λ (z : List (Request × Option Reply)). Stands console stood.state z) (sym (asked_both (map done steps) last)) stood.stands }

  -- and the whole session, in which none was open before
  pub held_course : (rows : PlaceTable (acts Origin) P) (first : Row (acts Origin) P) (old new : World Origin) (ending : Ending) (held : Held rows first old new ending) → KeepsCourse console may_be rows first → old.office.opened ≡ None
      → Course console (gives asked (deeds_of held))
  held_course rows first old new ending held keeps none =
      let deeds = deeds_ran held.ran in
      let closes = closing held.mid.office.opened held.answer in
      let stood = dialogue_stands rows first old new ending held keeps in
      let entered = all_gain entered_gains deeds old held.mid (ran_deeds held.ran) in
      let opened : held.mid.office.opened ≡ opened_after None (gives asked deeds) = subst (λ (o : Option ℕ). held.mid.office.opened ≡ opened_after o (gives asked deeds)) none entered.opened in
      let course = closing_course console stood.state held.mid.office.opened held.answer (gives asked deeds) stood.stands opened in
      let is : gives asked (deeds_of held) ≡ gives asked deeds ++ gives asked closes =
      asked_both deeds (owed held.mid held.answer) ∙ ap (λ (z : List (Request × Option Reply)). gives asked deeds ++ z) (freeing_asks held.mid.server.link closes) in
      subst (λ (z : List (Request × Option Reply)). Course console z) (sym is) course

-- ---- a first act that asks

record BeginsAsking (request : Request) (deeds : List Deed) : Type 0 where
  outcome : Outcome (Ask request)
  more : List Deed
  is : deeds ≡ record { act = Ask request; outcome = outcome } ∷ more

not_empty : (ask : Request × Option Reply) (asks : List (Request × Option Reply)) → ask ∷ asks ≢ []
not_empty ask asks is = absurd (cc)

asks_something : (request : Request) (deeds more : List Deed) → BeginsAsking request deeds → gives asked (deeds ++ more) ≢ []
asks_something request deeds more b is =
    not_empty (request, reply_of b.outcome) (gives asked (b.more ++ more)) (subst (λ (all : List Deed). gives asked (all ++ more) ≡ []) b.is is)

module _ {Origin P : Type 0} (rows : PlaceTable (acts Origin) P) (request : Request) (go : Reply → Row (acts Origin) P) where
  stop_begins : (dialogue : Result (Unit {0}) Cause) (new mid : World Origin) (comes : Comes rows (λ (over : Unit {0}). Over) dialogue new (Do (Ask request) go) mid)
      → BeginsAsking request (deed_last rows (λ (over : Unit {0}). Over) dialogue new (Do (Ask request) go) mid comes)
  stop_begins (Ok over) new mid comes = absurd (subst (λ (row : Row (acts Origin) P). IsSettled row) (sym comes.0) tt)
  stop_begins (Err cause) new mid comes = record { outcome = Err comes.halt; more = []; is = refl }

  run_begins : (dialogue : Result (Unit {0}) Cause) (new mid : World Origin) (left : Row (acts Origin) P) (steps : List (Step (acts Origin))) → Run rows (Do (Ask request) go) steps left
      → (comes : Comes rows (λ (over : Unit {0}). Over) dialogue new left mid) → BeginsAsking request (map done steps ++ deed_last rows (λ (over : Unit {0}). Over) dialogue new left mid comes)
  run_begins dialogue new mid left [] run comes =
      let Begins : Row (acts Origin) P → Type 0 = λ row. (c : Comes rows (λ (over : Unit {0}). Over) dialogue new row mid) → BeginsAsking request (deed_last rows (λ (over : Unit {0}). Over) dialogue new row mid c) in
      subst Begins run (stop_begins dialogue new mid) comes
  run_begins dialogue new mid left (step ∷ steps) run comes =
      let last = deed_last rows (λ (over : Unit {0}). Over) dialogue new left mid comes in
      record { outcome = Ok run.0; more = map done steps ++ last; is = ap (λ (one : Step (acts Origin)). done one ∷ (map done steps ++ last)) run.1 }

pub held_begun : {Origin P : Type 0} (console : Bool) (rows : PlaceTable (acts Origin) P) (go : Reply → Row (acts Origin) P) (old new : World Origin) (ending : Ending) (held : Held rows (Do (Ask (requests.Open console)) go) old new ending)
    → gives asked (deeds_of held) ≢ []
held_begun console rows go old new ending held =
    let begins = run_begins rows (requests.Open console) go held.dialogue held.mid held.ran.mid held.ran.left held.ran.steps held.ran.run held.ran.comes in
    asks_something (requests.Open console) (deeds_ran held.ran) (owed held.mid held.answer) begins
