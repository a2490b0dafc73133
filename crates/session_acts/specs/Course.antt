-- How the requests of a session follow one another, and what rows keep where they follow so.
use Rattle.std.specs.Prelude.{◌≡◌, ℕ, Bool, true, false, List, [], ◌∷◌, ◌++◌, Option, Some, Ok}
use Rattle.std.specs.List.{AllByRecursion}
use Rattle.auth_events.specs.declared.entry.Entry.{Entry}
use Rattle.auth_events.specs.declared.reply.Reply.{Reply}
use Rattle.auth_events.specs.declared.reply.Reply.TheVariants.{Opened}
use Rattle.auth_events.specs.declared.request.Request.{Request}
use Rattle.auth_events.specs.declared.request.Request.TheVariants.{Open, Close}
use Rattle.fw_acts.specs.Acts.{Row, PlaceTable}
use Rattle.fw_acts.specs.Histories.{Keeps, Leaves, Watch}
use Rattle.session_acts.specs.Acts.{Act, Outcome}
use Rattle.session_acts.specs.Acts.Act.{Ask, Renew}
use Rattle.session_acts.specs.Met.{acts, reply_of}

-- ---- the course

-- neither opens nor closes a session
abbrev pub is_between : Request → Bool
is_between (Open console) = false
is_between Close = false
is_between _ = true

abbrev pub AreBetween : List (Request × Option Reply) → Type 0
AreBetween asks = AllByRecursion (λ ask. is_between ask.0 ≡ true) asks

-- what is asked in a session that is open, and then, once, to close it
pub record IsClosed (asks : List (Request × Option Reply)) : Type 0 where
  pub between : List (Request × Option Reply)
  pub last : Option Reply
  pub are_between : AreBetween between
  pub is : asks ≡ between ++ (Close, last) ∷ []

-- after the answer to the opening: that, where a session was opened, and else nothing
abbrev pub Follows : Option Reply → List (Request × Option Reply) → Type 0
Follows (Some (Opened sid)) asks = IsClosed asks
Follows _ asks = asks ≡ []

-- nothing is asked; or first to open a session, at the console or not
abbrev pub Course : Bool → List (Request × Option Reply) → Type 0
Course console [] = Unit {0}
Course console (ask ∷ asks) = (ask.0 ≡ Open console) × Follows ask.1 asks

-- the entries at these places are of one session, whose number is the first of the places
abbrev pub AreOfOne : List ℕ → List Entry → Type 0
AreOfOne [] entries = entries ≡ []
AreOfOne (place ∷ places) entries = AllByRecursion (λ entry. entry.sid ≡ place) entries

-- ---- what rows keep

-- how far a course has come: nothing was asked; a session was opened, and not asked to close; or nothing more may be asked
pub data CourseState : Type 0 where
  Unasked : CourseState
  Going : CourseState
  Finished : CourseState

-- after it was asked to open a session
abbrev pub state_opened : Option Reply → CourseState
state_opened (Some (Opened sid)) = Going
state_opened _ = Finished

-- after a request was asked
abbrev pub state_then : CourseState → Request → Option Reply → CourseState
state_then state (Open console) reply = state_opened reply
state_then state Close reply = Finished
state_then state _ reply = state

-- and after an act
abbrev pub state_after : CourseState → (act : Act) → Outcome act → CourseState
state_after state (Ask request) outcome = state_then state request (reply_of outcome)
state_after state act outcome = state

abbrev pub is_opening : Request → Bool
is_opening (Open console) = true
is_opening _ = false

-- which requests may come next: first the opening, then all others
abbrev pub MayAsk : Bool → CourseState → Request → Type 0
MayAsk console Unasked request = request ≡ Open console
MayAsk console Going request = is_opening request ≡ false
MayAsk console Finished request = ⊥

-- and which acts: a new password is for a session that is open, and what asks nothing may come at any time
abbrev pub MayCome : Bool → CourseState → Act → Type 0
MayCome console state (Ask request) = MayAsk console state request
MayCome console state (Renew name hash) = state ≡ Going
MayCome console state act = Unit {0}

-- watches the course, where it is known how far it may have come at each place; the end may come at any time, since a
-- session that is open then is closed by what is owed
abbrev pub course_watch : (Origin : Type 0) {P : Type 0} → Bool → (P → CourseState → Bool) → Watch (acts Origin) P
course_watch Origin console may_be = record {
  Noted = CourseState;
  note = λ state act answer. state_after state act (Ok answer);
  may = λ state act. MayCome console state act;
  holds = λ state place. may_be place state ≡ true;
  over = λ state. Unit {0};
}

-- from the first row on, where nothing was asked, and from each place, each act may come where it comes
pub record KeepsCourse {Origin P : Type 0} (console : Bool) (may_be : P → CourseState → Bool) (rows : PlaceTable (acts Origin) P) (first : Row (acts Origin) P) : Type 0 where
  pub begins : Leaves (course_watch Origin console may_be) first Unasked
  pub goes_on : Keeps rows (course_watch Origin console may_be)
