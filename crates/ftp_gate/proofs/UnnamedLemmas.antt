-- Where no line names a user, nothing is asked of the port, and no session ends by it.
use Rattle.std.proofs.Common.{◌≡◌, ◌≢◌, refl, sym, ap, subst, ◌∙◌, ℕ, Bool, true, false, List, [], ◌∷◌, ◌++◌, map, Option, Some, None, Result, Ok, Err, append_assoc, append-nil}
use mathlib.Core.Bool.{true≢false}
use Rattle.auth_events.specs.declared.port.PortFault.{PortFault}
use Rattle.auth_events.specs.declared.port.PortFault.TheVariants as faults
use Rattle.auth_events.specs.declared.reply.Reply.{Reply}
use Rattle.auth_events.specs.declared.request.Request.{Request}
use Rattle.auth_events.specs.declared.request.Request.TheVariants as requests
use Rattle.fw_acts.specs.Acts.{Row, Step, PlaceTable}
use Rattle.fw_acts.specs.Acts.Row.{Do, At, Over}
use Rattle.fw_acts.specs.Histories.{AllMay, Leaves, history}
use Rattle.fw_acts.specs.Ran.{Comes, Ran}
use Rattle.fw_acts.proofs.HistoryLemmas.{run_leaves, run_may}
use Rattle.fw_types.specs.Name.{name_of}
use Rattle.fw_types.specs.declared.ending.Ending.{Ending}
use Rattle.fw_types.specs.declared.ending.Ending.TheVariants as endings
use Rattle.session_acts.specs.Acts.{Act, Halt, Outcome, Unreplied, cause_by, fault_cause, reply_cause, silence_cause}
use Rattle.session_acts.specs.Acts.Unreplied.{NotHeard, NotSaid}
use Rattle.session_acts.specs.Acts.Act.{Hear, Say, Try, Log, Note, Ask, Renew, Dial, Reach, Take, Pass, HangUp, Relay, Deposit, Allot, TakeReply, OpenDoor, Join, Copy, Part}
use Rattle.session_acts.specs.Deeds.{Deed, deed_last, deeds_ran, done, gives}
use Rattle.session_acts.specs.Hearing.{heard_by}
use Rattle.session_acts.specs.Met.{acts}
use Rattle.session_acts.specs.Session.{Held, closing, deeds_of, ending_by, ending_closed, ending_of, freeing, owed}
use Rattle.session_acts.specs.Talk.{asked, opened_after}
use Rattle.session_acts.specs.World.{Speaker, World}
use Rattle.session_acts.specs.declared.cause.Cause.{Cause}
use Rattle.session_acts.specs.declared.cause.Cause.TheVariants as causes
use Rattle.session_acts.specs.declared.joined.Joined.TheVariants as joins
use Rattle.session_acts.specs.declared.replied.Replied.TheVariants.{Whole, Ended}
use Rattle.session_acts.specs.declared.reply_use.ReplyUse.{ReplyUse}
use Rattle.session_acts.specs.declared.reply_use.ReplyUse.TheVariants.{Passed, Dropped, Greeting}
use Rattle.session_acts.specs.declared.silence.Silence.{Silence}
use Rattle.session_acts.specs.declared.silence.Silence.TheVariants.{Quiet, Broken, Limit}
use Rattle.session_acts.proofs.CourseLemmas.{asked_both, freeing_asks}
use Rattle.session_acts.proofs.DeedLemmas.{all_gain, ran_deeds}
use Rattle.session_acts.proofs.TalkLemmas.{entered_gains}
use Rattle.ftp_gate.specs.Dialogue.{ftp_row, ftp_rows, is_well}
use Rattle.ftp_gate.specs.Gate.{Gate, asks_login}
use Rattle.ftp_gate.specs.Kind.{kind_of}
use Rattle.ftp_gate.specs.Known.{Known, at_start, begins, greeting_by, known_after, order_in, saying}
use Rattle.ftp_gate.specs.Laws.{IsAskedFor, IsAskedOf, Names}
use Rattle.ftp_gate.specs.Naming.{named_by, named_in, names}
use Rattle.ftp_gate.specs.Order.{Order}
use Rattle.ftp_gate.specs.Texts.{port_ok}
use Rattle.ftp_gate.specs.declared.kind.Kind.{Kind}
use Rattle.ftp_gate.specs.declared.kind.Kind.TheVariants as kinds
use Rattle.ftp_gate.specs.declared.place.Place.{Place}
use Rattle.ftp_gate.proofs.AccountLemmas.{Noted, at_first, deed_of, note}
use Rattle.ftp_gate.proofs.KeepLemmas.{first_keeps, rows_keep}
use Rattle.ftp_gate.proofs.KindLemmas.{user_asks}
use Rattle.ftp_gate.proofs.WatchLemmas.{May, ftp_watch}

abbrev Asks : Type 0
Asks = List (Request × Option Reply)

-- ---- the acts of the dialogue

abbrev IsOwn : Gate → Known → Act → Type 0
IsOwn gate k (Hear form) = Unit {0}
IsOwn gate k (Say text) = Unit {0}
IsOwn gate k (Log text) = Unit {0}
IsOwn gate k (Ask request) = IsAskedOf gate request k
IsOwn gate k (Dial dest) = Unit {0}
IsOwn gate k (Pass text) = Unit {0}
IsOwn gate k HangUp = Unit {0}
IsOwn gate k (TakeReply how) = Unit {0}
IsOwn gate k OpenDoor = Unit {0}
IsOwn gate k (Join dest target) = Unit {0}
IsOwn gate k (Copy toward) = Unit {0}
IsOwn gate k Part = Unit {0}
IsOwn gate k act = ⊥

own_by : (gate : Gate) (n : Noted) (act : Act) → May gate n act → IsOwn gate n.k act
own_by gate n (Hear form) may = tt
own_by gate n (Say text) may = tt
own_by gate n (Try text) may = absurd may
own_by gate n (Log text) may = tt
own_by gate n (Note text) may = absurd may
own_by gate n (Ask request) may = may.0
own_by gate n (Renew name hash) may = absurd may
own_by gate n (Dial dest) may = tt
own_by gate n (Reach dest) may = absurd may
own_by gate n Take may = absurd may
own_by gate n (Pass text) may = tt
own_by gate n HangUp may = tt
own_by gate n Relay may = absurd may
own_by gate n (Deposit sender rcpts words most) may = absurd may
own_by gate n Allot may = absurd may
own_by gate n (TakeReply how) may = tt
own_by gate n OpenDoor may = tt
own_by gate n (Join dest target) may = tt
own_by gate n (Copy toward) may = tt
own_by gate n Part may = tt

abbrev AllOwn : Gate → Known → List Deed → Type 0
AllOwn gate k [] = Unit {0}
AllOwn gate k (deed ∷ deeds) = IsOwn gate k deed.act × AllOwn gate (known_after gate k deed.act deed.outcome) deeds

-- ---- what is known where no user was named

record Same (k other : Known) : Type 0 where
  user : other.user ≡ k.user
  login : other.login ≡ k.login
  order : other.order ≡ k.order

said_same : (gate : Gate) (b : Bool) (k : Known) → Same k (saying gate b k)
said_same gate true k = record { user = refl; login = refl; order = refl }
said_same gate false k = record { user = refl; login = refl; order = refl }

greeted_same : (b : Bool) (k : Known) → Same k (greeting_by b k)
greeted_same true k = record { user = refl; login = refl; order = refl }
greeted_same false k = record { user = refl; login = refl; order = refl }

-- neither hears the client nor asks the port
abbrev IsOther : Act → Type 0
IsOther (Hear form) = ⊥
IsOther (Ask request) = ⊥
IsOther (Renew name hash) = ⊥
IsOther act = Unit {0}

with_same : (k other : Known) (deed : Deed) (since : List Deed) → Same k other → Same k (record other { since = since ++ deed ∷ [] })
with_same k other deed since same = record { user = same.user; login = same.login; order = same.order }

same_after : (gate : Gate) (k : Known) (act : Act) (outcome : Outcome act) → IsOther act → Same k (known_after gate k act outcome)
same_after gate k (Say text) outcome other = with_same k (saying gate (begins text port_ok) k) (deed_of (Say text) outcome) k.since (said_same gate (begins text port_ok) k)
same_after gate k (Try text) outcome other = record { user = refl; login = refl; order = refl }
same_after gate k (Log text) outcome other = record { user = refl; login = refl; order = refl }
same_after gate k (Note text) outcome other = record { user = refl; login = refl; order = refl }
same_after gate k (Dial dest) (Ok true) other = record { user = refl; login = refl; order = refl }
same_after gate k (Dial dest) (Ok false) other = record { user = refl; login = refl; order = refl }
same_after gate k (Dial dest) (Err never) other = record { user = refl; login = refl; order = refl }
same_after gate k (Reach dest) outcome other = record { user = refl; login = refl; order = refl }
same_after gate k Take outcome other = record { user = refl; login = refl; order = refl }
same_after gate k (Pass text) outcome other = record { user = refl; login = refl; order = refl }
same_after gate k HangUp outcome other = record { user = refl; login = refl; order = refl }
same_after gate k Relay outcome other = record { user = refl; login = refl; order = refl }
same_after gate k (Deposit sender rcpts words most) outcome other = record { user = refl; login = refl; order = refl }
same_after gate k Allot outcome other = record { user = refl; login = refl; order = refl }
same_after gate k (TakeReply Passed) outcome other = record { user = refl; login = refl; order = refl }
same_after gate k (TakeReply Dropped) outcome other = record { user = refl; login = refl; order = refl }
same_after gate k (TakeReply Greeting) (Ok (Whole code six, text)) other =
    with_same k (greeting_by (is_well code) k) (deed_of (TakeReply Greeting) (Ok (Whole code six, text))) k.since (greeted_same (is_well code) k)
same_after gate k (TakeReply Greeting) (Ok (Ended, text)) other = record { user = refl; login = refl; order = refl }
same_after gate k (TakeReply Greeting) (Err halt) other = record { user = refl; login = refl; order = refl }
same_after gate k OpenDoor (Ok (Some door)) other = record { user = refl; login = refl; order = refl }
same_after gate k OpenDoor (Ok None) other = record { user = refl; login = refl; order = refl }
same_after gate k OpenDoor (Err never) other = record { user = refl; login = refl; order = refl }
same_after gate k (Join dest target) (Ok joins.Up) other = record { user = refl; login = refl; order = refl }
same_after gate k (Join dest target) (Ok joins.NoSide) other = record { user = refl; login = refl; order = refl }
same_after gate k (Join dest target) (Ok joins.NoNear) other = record { user = refl; login = refl; order = refl }
same_after gate k (Join dest target) (Ok joins.Unready) other = record { user = refl; login = refl; order = refl }
same_after gate k (Join dest target) (Err never) other = record { user = refl; login = refl; order = refl }
same_after gate k (Copy toward) outcome other = record { user = refl; login = refl; order = refl }
same_after gate k Part outcome other = record { user = refl; login = refl; order = refl }
same_after gate k (Hear form) outcome other = absurd other
same_after gate k (Ask request) outcome other = absurd other
same_after gate k (Renew name hash) outcome other = absurd other

-- no user was named, so no login stands
record Alone (k : Known) : Type 0 where
  user : k.user ≡ None
  login : k.login ≡ false
  order : named_in k.order ≡ []

alone_same : (k other : Known) → Same k other → Alone k → Alone other
alone_same k other same alone = record { user = same.user ∙ alone.user; login = same.login ∙ alone.login; order = ap named_in same.order ∙ alone.order }

-- nothing is asked for then
not_empty : (name : List ℕ) (more : List (List ℕ)) → name ∷ more ≡ [] → ⊥
not_empty name more is = cc

not_none : (name : List ℕ) → Some name ≡ None → ⊥
not_none name is = cc

no_names : (name : List ℕ) (order : Order) → Names name order → named_in (Some order) ≡ [] → ⊥
no_names name order named none =
    let is : named_in (Some order) ≡ name ∷ [] = ap (λ (kind : Kind). named_by kind (name_of order.arg)) named.kind ∙ ap (λ (n : Option (List ℕ)). named_by kinds.Authorize n) named.is in
    not_empty name [] (sym is ∙ none)

no_user : (name : List ℕ) (user : Option (List ℕ)) → user ≡ Some name → user ≡ None → ⊥
no_user name user is none = not_none name (sym is ∙ none)

none_asked : (gate : Gate) (request : Request) (k : Known) (order : Order) → k.order ≡ Some order → IsAskedFor gate request order k → Alone k → ⊥
none_asked gate (requests.Open console) k order heard asks alone = no_names asks.2 order asks.3 (ap named_in (sym heard) ∙ alone.order)
none_asked gate (requests.Authenticate name) k order heard asks alone = no_names name order asks.0 (ap named_in (sym heard) ∙ alone.order)
none_asked gate (requests.Response hash word) k order heard asks alone = no_user asks.2 k.user asks.3 alone.user
none_asked gate (requests.Operation service host) k order heard asks alone =
    true≢false (sym (asks.3.login (user_asks gate.options order.verb asks.4.wants.kind asks.4.extnd)) ∙ alone.login)
none_asked gate request k order heard asks alone = absurd asks

-- ---- what was asked

names_front : (first more : List (List ℕ)) → first ++ more ≡ [] → first ≡ []
names_front [] more is = refl
names_front (name ∷ first) more is = absurd (not_empty name (first ++ more) is)

names_rest : (first more : List (List ℕ)) → first ++ more ≡ [] → more ≡ []
names_rest [] more is = is
names_rest (name ∷ first) more is = absurd (not_empty name (first ++ more) is)

-- an act of the dialogue
record Unasked (gate : Gate) (k : Known) (act : Act) (outcome : Outcome act) : Type 0 where
  none : asked act outcome ≡ []
  alone : Alone (known_after gate k act outcome)

unasked_other : (gate : Gate) (k : Known) (act : Act) (outcome : Outcome act) → asked act outcome ≡ [] → IsOther act → Alone k → Unasked gate k act outcome
unasked_other gate k act outcome none other alone = record { none = none; alone = alone_same k (known_after gate k act outcome) (same_after gate k act outcome other) alone }

act_unasked : (gate : Gate) (k : Known) (act : Act) (outcome : Outcome act) → IsOwn gate k act → Alone k → names act outcome ≡ [] → Unasked gate k act outcome
act_unasked gate k (Hear form) outcome own alone none = record { none = refl; alone = record { user = alone.user; login = alone.login; order = none } }
act_unasked gate k (Ask request) outcome own alone none = absurd (none_asked gate request k own.order own.heard own.asks alone)
act_unasked gate k (Say text) outcome own alone none = unasked_other gate k (Say text) outcome refl tt alone
act_unasked gate k (Log text) outcome own alone none = unasked_other gate k (Log text) outcome refl tt alone
act_unasked gate k (Dial dest) outcome own alone none = unasked_other gate k (Dial dest) outcome refl tt alone
act_unasked gate k (Pass text) outcome own alone none = unasked_other gate k (Pass text) outcome refl tt alone
act_unasked gate k HangUp outcome own alone none = unasked_other gate k HangUp outcome refl tt alone
act_unasked gate k (TakeReply how) outcome own alone none = unasked_other gate k (TakeReply how) outcome refl tt alone
act_unasked gate k OpenDoor outcome own alone none = unasked_other gate k OpenDoor outcome refl tt alone
act_unasked gate k (Join dest target) outcome own alone none = unasked_other gate k (Join dest target) outcome refl tt alone
act_unasked gate k (Copy toward) outcome own alone none = unasked_other gate k (Copy toward) outcome refl tt alone
act_unasked gate k Part outcome own alone none = unasked_other gate k Part outcome refl tt alone
act_unasked gate k (Try text) outcome own alone none = absurd own
act_unasked gate k (Note text) outcome own alone none = absurd own
act_unasked gate k (Renew name hash) outcome own alone none = absurd own
act_unasked gate k (Reach dest) outcome own alone none = absurd own
act_unasked gate k Take outcome own alone none = absurd own
act_unasked gate k Relay outcome own alone none = absurd own
act_unasked gate k (Deposit sender rcpts words most) outcome own alone none = absurd own
act_unasked gate k Allot outcome own alone none = absurd own

all_unasked : (gate : Gate) (k : Known) (deeds : List Deed) → AllOwn gate k deeds → Alone k → gives names deeds ≡ [] → gives asked deeds ≡ []
all_unasked gate k [] own alone none = refl
all_unasked gate k (deed ∷ deeds) own alone none =
    let here = act_unasked gate k deed.act deed.outcome own.0 alone (names_front (names deed.act deed.outcome) (gives names deeds) none) in
    ap (λ (z : Asks). z ++ gives asked deeds) here.none ∙ all_unasked gate (known_after gate k deed.act deed.outcome) deeds own.1 here.alone (names_rest (names deed.act deed.outcome) (gives names deeds) none)

-- ---- for which causes

-- one that comes of no port
abbrev is_plain : Cause → Bool
is_plain causes.NoMemory = false
is_plain causes.AuthFault = false
is_plain cause = true

abbrev is_routed : Cause → Bool
is_routed causes.NoRoute = false
is_routed cause = true

plain_client : (silence : Silence) → is_plain (silence_cause causes.ClientFault silence) ≡ true
plain_client Quiet = refl
plain_client Broken = refl
plain_client Limit = refl

plain_server : (silence : Silence) → is_plain (silence_cause causes.ServerFault silence) ≡ true
plain_server Quiet = refl
plain_server Broken = refl
plain_server Limit = refl

plain_reply : (how : ReplyUse) (halt : Unreplied how) → is_plain (reply_cause halt) ≡ true
plain_reply how (NotHeard silence text begun) = plain_server silence
plain_reply how (NotSaid text front) = refl

plain_stops : (gate : Gate) (k : Known) (act : Act) (halt : Halt act) → IsOwn gate k act → asked act (Err halt) ≡ [] → is_plain (cause_by act halt) ≡ true
plain_stops gate k (Hear form) halt own none = plain_client halt
plain_stops gate k (Say text) halt own none = refl
plain_stops gate k (Log text) halt own none = refl
plain_stops gate k (Ask request) halt own none = absurd (cc)
plain_stops gate k (Dial dest) halt own none = absurd halt
plain_stops gate k (Pass text) halt own none = refl
plain_stops gate k HangUp halt own none = absurd halt
plain_stops gate k (TakeReply how) halt own none = plain_reply how halt
plain_stops gate k OpenDoor halt own none = absurd halt
plain_stops gate k (Join dest target) halt own none = absurd halt
plain_stops gate k (Copy toward) halt own none = absurd halt
plain_stops gate k Part halt own none = absurd halt
plain_stops gate k (Try text) halt own none = absurd own
plain_stops gate k (Note text) halt own none = absurd own
plain_stops gate k (Renew name hash) halt own none = absurd own
plain_stops gate k (Reach dest) halt own none = absurd own
plain_stops gate k Take halt own none = absurd own
plain_stops gate k Relay halt own none = absurd own
plain_stops gate k (Deposit sender rcpts words most) halt own none = absurd own
plain_stops gate k Allot halt own none = absurd own

routed_client : (silence : Silence) → is_routed (silence_cause causes.ClientFault silence) ≡ true
routed_client Quiet = refl
routed_client Broken = refl
routed_client Limit = refl

routed_server : (silence : Silence) → is_routed (silence_cause causes.ServerFault silence) ≡ true
routed_server Quiet = refl
routed_server Broken = refl
routed_server Limit = refl

routed_reply : (how : ReplyUse) (halt : Unreplied how) → is_routed (reply_cause halt) ≡ true
routed_reply how (NotHeard silence text begun) = routed_server silence
routed_reply how (NotSaid text front) = refl

routed_fault : (fault : PortFault) → is_routed (fault_cause fault) ≡ true
routed_fault faults.NoMemory = refl
routed_fault faults.Link = refl
routed_fault faults.Strange = refl

routed_stops : (gate : Gate) (k : Known) (act : Act) (halt : Halt act) → IsOwn gate k act → is_routed (cause_by act halt) ≡ true
routed_stops gate k (Hear form) halt own = routed_client halt
routed_stops gate k (Say text) halt own = refl
routed_stops gate k (Log text) halt own = refl
routed_stops gate k (Ask request) halt own = routed_fault halt
routed_stops gate k (Dial dest) halt own = absurd halt
routed_stops gate k (Pass text) halt own = refl
routed_stops gate k HangUp halt own = absurd halt
routed_stops gate k (TakeReply how) halt own = routed_reply how halt
routed_stops gate k OpenDoor halt own = absurd halt
routed_stops gate k (Join dest target) halt own = absurd halt
routed_stops gate k (Copy toward) halt own = absurd halt
routed_stops gate k Part halt own = absurd halt
routed_stops gate k (Try text) halt own = absurd own
routed_stops gate k (Note text) halt own = absurd own
routed_stops gate k (Renew name hash) halt own = absurd own
routed_stops gate k (Reach dest) halt own = absurd own
routed_stops gate k Take halt own = absurd own
routed_stops gate k Relay halt own = absurd own
routed_stops gate k (Deposit sender rcpts words most) halt own = absurd own
routed_stops gate k Allot halt own = absurd own

-- ---- endings

abbrev ends_plain : Ending → Bool
ends_plain endings.NoMemory = false
ends_plain endings.AuthFault = false
ends_plain ending = true

abbrev ends_routed : Ending → Bool
ends_routed endings.NoRoute = false
ends_routed ending = true

plain_ends : (cause : Cause) → is_plain cause ≡ true → ends_plain (ending_by cause) ≡ true
plain_ends causes.ClientFault is = refl
plain_ends causes.ServerFault is = refl
plain_ends causes.LogFault is = refl
plain_ends causes.AuthFault is = absurd (true≢false (sym is))
plain_ends causes.Idle is = refl
plain_ends causes.NoRoute is = refl
plain_ends causes.Spent is = refl
plain_ends causes.NoMemory is = absurd (true≢false (sym is))

routed_ends : (cause : Cause) → is_routed cause ≡ true → ends_routed (ending_by cause) ≡ true
routed_ends causes.ClientFault is = refl
routed_ends causes.ServerFault is = refl
routed_ends causes.LogFault is = refl
routed_ends causes.AuthFault is = refl
routed_ends causes.Idle is = refl
routed_ends causes.NoRoute is = absurd (true≢false (sym is))
routed_ends causes.Spent is = refl
routed_ends causes.NoMemory is = refl

closed_routed : (opened : Option ℕ) (answer : Result Reply PortFault) → ends_routed (ending_closed opened answer) ≡ true
closed_routed None answer = refl
closed_routed (Some sid) (Ok reply) = refl
closed_routed (Some sid) (Err fault) = routed_ends (fault_cause fault) (routed_fault fault)

-- ---- a dialogue

-- an act stopped it, as its last deed, if one did
record Stop (gate : Gate) (cause : Cause) (deeds : List Deed) : Type 0 where
  front : List Deed
  k : Known
  act : Act
  halt : Halt act
  is : deeds ≡ front ++ deed_of act (Err halt) ∷ []
  is_cause : cause ≡ cause_by act halt
  own : IsOwn gate k act

abbrev StopsBy : Gate → Result (Unit {0}) Cause → List Deed → Type 0
StopsBy gate (Ok done) deeds = Unit {0}
StopsBy gate (Err cause) deeds = Stop gate cause deeds

record IsTalk (gate : Gate) (dialogue : Result (Unit {0}) Cause) (deeds : List Deed) : Type 0 where
  own : AllOwn gate at_start deeds
  stops : StopsBy gate dialogue deeds

abbrev after_all : Gate → Noted → List Deed → Noted
after_all gate n [] = n
after_all gate n (deed ∷ deeds) = after_all gate (note gate n deed.act deed.outcome) deeds

own_both : (gate : Gate) (n : Noted) (first more : List Deed) → AllOwn gate n.k first → AllOwn gate (after_all gate n first).k more → AllOwn gate n.k (first ++ more)
own_both gate n [] more a b = b
own_both gate n (deed ∷ first) more a b = (a.0, own_both gate (note gate n deed.act deed.outcome) first more a.1 b)

module _ {Origin : Type 0} (gate : Gate) where
  abbrev rows : PlaceTable (acts Origin) Place
  rows = ftp_rows gate

  abbrev over : Unit {0} → Row (acts Origin) Place
  over done = Over

  steps_own : (n : Noted) (steps : List (Step (acts Origin))) → AllMay (ftp_watch Origin gate) n steps → AllOwn gate n.k (map done steps)
  steps_own n [] all = tt
  steps_own n (step ∷ steps) all = (own_by gate n step.act all.0, steps_own (note gate n step.act (Ok step.answer)) steps all.1)

  steps_after : (n : Noted) (steps : List (Step (acts Origin))) → history (ftp_watch Origin gate) n steps ≡ after_all gate n (map done steps)
  steps_after n [] = refl
  steps_after n (step ∷ steps) = steps_after (note gate n step.act (Ok step.answer)) steps

  last_own : (dialogue : Result (Unit {0}) Cause) (new : World Origin) (left : Row (acts Origin) Place) (mid : World Origin) (comes : Comes rows over dialogue new left mid) (n : Noted) → Leaves (ftp_watch Origin gate) left n
      → AllOwn gate n.k (deed_last rows over dialogue new left mid comes)
  last_own (Ok end) new left mid comes n leaves = tt
  last_own (Err cause) new (Do act go) mid comes n leaves = (own_by gate n act leaves.0, tt)
  last_own (Err cause) new (At place) mid comes n leaves = (own_by gate n (rows.act place) (rows_keep Origin gate place n leaves).0, tt)
  last_own (Err cause) new Over mid comes n leaves = absurd comes

  last_stops : (dialogue : Result (Unit {0}) Cause) (new : World Origin) (left : Row (acts Origin) Place) (mid : World Origin) (comes : Comes rows over dialogue new left mid) (n : Noted) (front : List Deed) → Leaves (ftp_watch Origin gate) left n
      → StopsBy gate dialogue (front ++ deed_last rows over dialogue new left mid comes)
  last_stops (Ok end) new left mid comes n front leaves = tt
  last_stops (Err cause) new (Do act go) mid comes n front leaves =
      record { front = front; k = n.k; act = act; halt = comes.halt; is = refl; is_cause = comes.is_cause; own = own_by gate n act leaves.0 }
  last_stops (Err cause) new (At place) mid comes n front leaves =
      record { front = front; k = n.k; act = rows.act place; halt = comes.halt; is = refl; is_cause = comes.is_cause; own = own_by gate n (rows.act place) (rows_keep Origin gate place n leaves).0 }
  last_stops (Err cause) new Over mid comes n front leaves = absurd comes

  ran_own : (old new : World Origin) (dialogue : Result (Unit {0}) Cause) (ran : Ran rows ftp_row over old new dialogue) → IsTalk gate dialogue (deeds_ran ran)
  ran_own old new dialogue ran =
      let steps = ran.steps in
      let first = map done steps in
      let leaves = run_leaves rows (ftp_watch Origin gate) (rows_keep Origin gate) ftp_row ran.left at_first steps (first_keeps Origin gate) ran.run in
      let all = run_may rows (ftp_watch Origin gate) (rows_keep Origin gate) ftp_row ran.left at_first steps (first_keeps Origin gate) ran.run in
      let n = after_all gate at_first first in
      let here : Leaves (ftp_watch Origin gate) ran.left n = subst (λ (m : Noted). Leaves (ftp_watch Origin gate) ran.left m) (steps_after at_first steps) leaves in
      record {
        own = own_both gate at_first first (deed_last rows over dialogue new ran.left ran.mid ran.comes) (steps_own at_first steps all) (last_own dialogue new ran.left ran.mid ran.comes n here);
        stops = last_stops dialogue new ran.left ran.mid ran.comes n first here;
      }

-- ---- a session

both_empty : (one : Asks) (more : Asks) → one ++ more ≡ [] → more ≡ []
both_empty [] more is = is
both_empty (ask ∷ one) more is = absurd (cc)

names_both : (first more : List Deed) → gives names (first ++ more) ≡ gives names first ++ gives names more
names_both [] more = refl
names_both (deed ∷ first) more =
    ap (λ (z : List (List ℕ)). names deed.act deed.outcome ++ z) (names_both first more) ∙ sym (append_assoc (names deed.act deed.outcome) (gives names first) (gives names more))

start_alone : Alone at_start
start_alone = record { user = refl; login = refl; order = refl }

-- a dialogue that stopped, though nothing was asked
plain_stop : (gate : Gate) (cause : Cause) (deeds : List Deed) → Stop gate cause deeds → gives asked deeds ≡ [] → is_plain cause ≡ true
plain_stop gate cause deeds stop none =
    let split : gives asked deeds ≡ gives asked stop.front ++ gives asked (deed_of stop.act (Err stop.halt) ∷ []) = ap (λ (d : List Deed). gives asked d) stop.is ∙ asked_both stop.front (deed_of stop.act (Err stop.halt) ∷ []) in
    let last : gives asked (deed_of stop.act (Err stop.halt) ∷ []) ≡ [] = both_empty (gives asked stop.front) (gives asked (deed_of stop.act (Err stop.halt) ∷ [])) (sym split ∙ none) in
    ap is_plain stop.is_cause ∙ plain_stops gate stop.k stop.act stop.halt stop.own (sym (append-nil (asked stop.act (Err stop.halt))) ∙ last)

module _ {Origin : Type 0} (gate : Gate) (old new : World Origin) (ending : Ending) (held : Held (ftp_rows gate) ftp_row old new ending) where
  talk : IsTalk gate held.dialogue (deeds_ran held.ran)
  talk = ran_own gate old held.mid held.dialogue held.ran

  routed_by : (dialogue : Result (Unit {0}) Cause) → StopsBy gate dialogue (deeds_ran held.ran) → ends_routed (ending_of dialogue held.mid.office.opened held.answer) ≡ true
  routed_by (Ok end) stops = closed_routed held.mid.office.opened held.answer
  routed_by (Err cause) stops = routed_ends cause (ap is_routed stops.is_cause ∙ routed_stops gate stops.k stops.act stops.halt stops.own)

  pub held_routed : ending ≢ endings.NoRoute
  held_routed = λ is. true≢false (sym (ap ends_routed held.ends ∙ routed_by held.dialogue talk.stops) ∙ ap ends_routed is)

  -- where no line names a user
  module _ (closed : old.office.opened ≡ None) (none : gives names (deeds_of held) ≡ []) where
    unnamed : gives names (deeds_ran held.ran) ≡ []
    unnamed = names_front (gives names (deeds_ran held.ran)) (gives names (owed held.mid held.answer)) (sym (names_both (deeds_ran held.ran) (owed held.mid held.answer)) ∙ none)

    talk_unasked : gives asked (deeds_ran held.ran) ≡ []
    talk_unasked = all_unasked gate at_start (deeds_ran held.ran) talk.own start_alone unnamed

    none_open : held.mid.office.opened ≡ None
    none_open =
        let entered = all_gain entered_gains (deeds_ran held.ran) old held.mid (ran_deeds held.ran) in
        entered.opened ∙ ap (λ (opened : Option ℕ). opened_after opened (gives asked (deeds_ran held.ran))) closed ∙ ap (λ (asks : Asks). opened_after None asks) talk_unasked

    pub held_unasked : gives asked (deeds_of held) ≡ []
    held_unasked =
        asked_both (deeds_ran held.ran) (owed held.mid held.answer) ∙ ap (λ (z : Asks). z ++ gives asked (owed held.mid held.answer)) talk_unasked
        ∙ freeing_asks held.mid.server.link (closing held.mid.office.opened held.answer) ∙ ap (λ (opened : Option ℕ). gives asked (closing opened held.answer)) none_open

    plain_by : (dialogue : Result (Unit {0}) Cause) → StopsBy gate dialogue (deeds_ran held.ran) → ends_plain (ending_of dialogue None held.answer) ≡ true
    plain_by (Ok end) stops = refl
    plain_by (Err cause) stops = plain_ends cause (plain_stop gate cause (deeds_ran held.ran) stops talk_unasked)

    ends_so : ends_plain ending ≡ true
    ends_so =
        ap ends_plain held.ends ∙ ap (λ (opened : Option ℕ). ends_plain (ending_of held.dialogue opened held.answer)) none_open ∙ plain_by held.dialogue talk.stops

    pub held_ample : ending ≢ endings.NoMemory
    held_ample = λ is. true≢false (sym ends_so ∙ ap ends_plain is)

    pub held_unfailed : ending ≢ endings.AuthFault
    held_unfailed = λ is. true≢false (sym ends_so ∙ ap ends_plain is)
