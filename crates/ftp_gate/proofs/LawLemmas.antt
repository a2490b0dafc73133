-- What the rows keep, said of all deeds of a session.
use Rattle.std.proofs.Common.{◌≡◌, refl, sym, ap, subst, ◌∙◌, ℕ, List, [], ◌∷◌, ◌++◌, map, Option, Some, None, Result, Ok, Err, Bool, true, false, append_assoc, append-nil}
use Rattle.ftp_gate.specs.Texts.{port_ok}
use Rattle.auth_events.specs.declared.port.PortFault.{PortFault}
use Rattle.auth_events.specs.declared.request.Request.{Request}
use Rattle.auth_events.specs.declared.request.Request.TheVariants as requests
use Rattle.fw_acts.specs.Acts.{Row, Step, PlaceTable}
use Rattle.fw_acts.specs.Acts.Row.{Do, At, Over}
use Rattle.fw_acts.specs.Histories.{AllMay, Leaves, history}
use Rattle.fw_acts.specs.Ran.{Comes, Ran}
use Rattle.fw_acts.proofs.HistoryLemmas.{run_leaves, run_may}
use Rattle.fw_outside.specs.declared.heard.Heard.TheVariants.{Stopped}
use Rattle.auth_events.specs.declared.reply.Reply.{Reply}
use Rattle.fw_types.specs.declared.dest.Dest.{Dest}
use Rattle.fw_types.specs.declared.ending.Ending.{Ending}
use Rattle.session_acts.specs.Acts.{Act, Halt, Outcome}
use Rattle.session_acts.specs.Acts.Act.{Hear, Say, Try, Log, Note, Ask, Renew, Dial, Reach, Take, Pass, HangUp, Relay, Deposit, Allot, TakeReply, OpenDoor, Join, Copy, Part}
use Rattle.session_acts.specs.Deeds.{Deed, deed_last, deeds_ran, done, gives}
use Rattle.session_acts.specs.Met.{acts}
use Rattle.session_acts.specs.Session.{Held, closing, deeds_of, freeing, owed}
use Rattle.session_acts.specs.World.{Speaker, World}
use Rattle.session_acts.specs.declared.cause.Cause.{Cause}
use Rattle.session_acts.specs.declared.reply_use.ReplyUse.TheVariants.{Passed, Dropped, Greeting}
use Rattle.session_acts.specs.declared.target.Target.{Target}
use Rattle.ftp_gate.specs.Dialogue.{ftp_row, ftp_rows, heard_form}
use Rattle.ftp_gate.specs.Gate.{Gate}
use Rattle.ftp_gate.specs.Known.{Known, asked_for, begins, dests_in, known, passage, passage_in, saying}
use Rattle.ftp_gate.specs.Laws.{AreRight, AsksDue, AsksExactly, CopiesOwn, DenialsLogged, DialsCleared, FailuresToldOf, GivesPassage, IsAskedOf, IsCleared, IsDone, IsDueAsk, IsLoggedFirst, IsOwnPair, IsPassable, IsRight, JoinsOwn, OpensOwn, PassesUnblocked, given_to_server, main_asked}
use Rattle.ftp_gate.specs.Order.{Order}
use Rattle.ftp_gate.specs.Passage.{asked_by, passed_as}
use Rattle.ftp_gate.specs.declared.place.Place.{Place}
use Rattle.ftp_gate.proofs.AccountLemmas.{Noted, all_calls, all_known, all_passed, at_first, deed_of, note, noted_after, noted_both}
use Rattle.ftp_gate.proofs.KeepLemmas.{first_keeps, rows_keep}
use Rattle.ftp_gate.proofs.WatchLemmas.{Behind, Even, May, ftp_watch}

-- ---- deeds that come where they may

-- what is passed is what is due
abbrev IsDueText : Gate → Noted → Act → Type 0
IsDueText gate n (Pass text) = passage_in gate n.k ≡ n.passed ++ text
IsDueText gate n act = Unit {0}

abbrev AllRight : Gate → Noted → List Deed → Type 0
AllRight gate n [] = Unit {0}
AllRight gate n (deed ∷ deeds) = (IsRight gate n.k deed.act × IsDueText gate n deed.act) × AllRight gate (note gate n deed.act deed.outcome) deeds

due_ask : (gate : Gate) (request : Request) (k : Known) → IsAskedOf gate request k → IsDueAsk gate request k
due_ask gate requests.Close k asks = tt
due_ask gate request k asks = asks

right_by : (gate : Gate) (n : Noted) (act : Act) → May gate n act → IsRight gate n.k act
right_by gate n (Hear form) may = may.0
right_by gate n (Say text) may = may.0
right_by gate n (Try text) may = absurd may
right_by gate n (Log text) may = tt
right_by gate n (Note text) may = absurd may
right_by gate n (Ask request) may = due_ask gate request n.k may.0
right_by gate n (Renew name hash) may = absurd may
right_by gate n (Dial dest) may = may.0
right_by gate n (Reach dest) may = absurd may
right_by gate n Take may = absurd may
right_by gate n (Pass text) may = may.0
right_by gate n HangUp may = tt
right_by gate n Relay may = absurd may
right_by gate n (Deposit sender rcpts words most) may = absurd may
right_by gate n Allot may = absurd may
right_by gate n (TakeReply how) may = may.0
right_by gate n OpenDoor may = may.0
right_by gate n (Join dest target) may = may.0
right_by gate n (Copy toward) may = may.0
right_by gate n Part may = tt

due_text : (gate : Gate) (n : Noted) (act : Act) → May gate n act → IsDueText gate n act
due_text gate n (Pass text) may = may.1.is
due_text gate n act may = tt

right_both : (gate : Gate) (n : Noted) (first more : List Deed) → AllRight gate n first → AllRight gate (noted_after gate n first) more → AllRight gate n (first ++ more)
right_both gate n [] more a b = b
right_both gate n (deed ∷ first) more a b = (a.0, right_both gate (note gate n deed.act deed.outcome) first more a.1 b)

right_each : (gate : Gate) (n : Noted) (before after : List Deed) (deed : Deed) → AllRight gate n (before ++ deed ∷ after) → IsRight gate (noted_after gate n before).k deed.act × IsDueText gate (noted_after gate n before) deed.act
right_each gate n [] after deed all = all.0
right_each gate n (other ∷ before) after deed all = right_each gate (note gate n other.act other.outcome) before after deed all.1

-- ---- a stop

same_behind : (gate : Gate) (n : Noted) → Behind gate n → Behind gate (record { k = n.k; passed = n.passed ++ []; calls = n.calls ++ [] })
same_behind gate n b = record {
  rest = b.rest;
  is = b.is ∙ ap (λ (z : List ℕ). z ++ b.rest) (sym (append-nil n.passed));
  more = b.more;
  asks = b.asks ∙ ap (λ (z : List Dest). z ++ b.more) (sym (append-nil n.calls));
}

-- where what was to be passed and asked for stays as it was
moved_behind : (gate : Gate) (n after : Noted) → passage_in gate after.k ≡ passage_in gate n.k → dests_in gate after.k ≡ dests_in gate n.k → after.passed ≡ n.passed → after.calls ≡ n.calls → Behind gate n → Behind gate after
moved_behind gate n after passes asks passed calls b = record {
  rest = b.rest;
  is = passes ∙ b.is ∙ ap (λ (z : List ℕ). z ++ b.rest) (sym passed);
  more = b.more;
  asks = asks ∙ b.asks ∙ ap (λ (z : List Dest). z ++ b.more) (sym calls);
}

said_passes : (gate : Gate) (b : Bool) (k : Known) → passage_in gate (saying gate b k) ≡ passage_in gate k
said_passes gate true k = refl
said_passes gate false k = refl

said_asks : (gate : Gate) (b : Bool) (k : Known) → dests_in gate (saying gate b k) ≡ dests_in gate k
said_asks gate true k = refl
said_asks gate false k = refl

-- of a text that was given in part, the rest is still due
stop_behind : (gate : Gate) (n : Noted) (act : Act) (halt : Halt act) → May gate n act → Behind gate (note gate n act (Err halt))
stop_behind gate n (Hear form) halt may =
    moved_behind gate n (note gate n (Hear form) (Err halt)) (append-nil (passage_in gate n.k)) (append-nil (dests_in gate n.k)) (append-nil n.passed) (append-nil n.calls) may.1
stop_behind gate n (Say text) halt may =
    moved_behind gate n (note gate n (Say text) (Err halt)) (said_passes gate (begins text port_ok) n.k) (said_asks gate (begins text port_ok) n.k) (append-nil n.passed) (append-nil n.calls) may.1
stop_behind gate n (Try text) halt may = absurd may
stop_behind gate n (Log text) halt may = moved_behind gate n (note gate n (Log text) (Err halt)) refl refl (append-nil n.passed) (append-nil n.calls) may
stop_behind gate n (Note text) halt may = absurd may
stop_behind gate n (Ask request) halt may = moved_behind gate n (note gate n (Ask request) (Err halt)) refl refl (append-nil n.passed) (append-nil n.calls) may.1
stop_behind gate n (Renew name hash) halt may = absurd may
stop_behind gate n (Dial dest) halt may = absurd halt
stop_behind gate n (Reach dest) halt may = absurd may
stop_behind gate n Take halt may = absurd may
stop_behind gate n (Pass text) halt may = record {
  rest = halt.rest;
  is = may.1.is ∙ ap (λ (z : List ℕ). n.passed ++ z) halt.cut ∙ sym (append_assoc n.passed halt.part halt.rest);
  more = [];
  asks = may.1.asks ∙ sym (append-nil n.calls) ∙ sym (append-nil (n.calls ++ []));
}
stop_behind gate n HangUp halt may = absurd halt
stop_behind gate n Relay halt may = absurd may
stop_behind gate n (Deposit sender rcpts words most) halt may = absurd may
stop_behind gate n Allot halt may = absurd may
stop_behind gate n (TakeReply Passed) halt may = moved_behind gate n (note gate n (TakeReply Passed) (Err halt)) refl refl (append-nil n.passed) (append-nil n.calls) may.1
stop_behind gate n (TakeReply Dropped) halt may = moved_behind gate n (note gate n (TakeReply Dropped) (Err halt)) refl refl (append-nil n.passed) (append-nil n.calls) may.1
stop_behind gate n (TakeReply Greeting) halt may = moved_behind gate n (note gate n (TakeReply Greeting) (Err halt)) refl refl (append-nil n.passed) (append-nil n.calls) may.1
stop_behind gate n OpenDoor halt may = absurd halt
stop_behind gate n (Join dest target) halt may = absurd halt
stop_behind gate n (Copy toward) halt may = absurd halt
stop_behind gate n Part halt may = absurd halt

-- ---- what is owed

record IsQuiet (gate : Gate) (n : Noted) (deeds : List Deed) : Type 0 where
  right : AllRight gate n deeds
  passes : passage_in gate (noted_after gate n deeds).k ≡ passage_in gate n.k
  asks : dests_in gate (noted_after gate n deeds).k ≡ dests_in gate n.k
  passed : (noted_after gate n deeds).passed ≡ n.passed
  calls : (noted_after gate n deeds).calls ≡ n.calls

close_quiet : (gate : Gate) (n : Noted) (answer : Result Reply PortFault) → IsQuiet gate n (deed_of (Ask requests.Close) answer ∷ [])
close_quiet gate n (Ok reply) = record { right = ((tt, tt), tt); passes = refl; asks = refl; passed = append-nil n.passed; calls = append-nil n.calls }
close_quiet gate n (Err fault) = record { right = ((tt, tt), tt); passes = refl; asks = refl; passed = append-nil n.passed; calls = append-nil n.calls }

closing_quiet : (gate : Gate) (n : Noted) (opened : Option ℕ) (answer : Result Reply PortFault) → IsQuiet gate n (closing opened answer)
closing_quiet gate n None answer = record { right = tt; passes = refl; asks = refl; passed = refl; calls = refl }
closing_quiet gate n (Some sid) answer = close_quiet gate n answer

owed_quiet : (gate : Gate) (n : Noted) (link : Option Speaker) (opened : Option ℕ) (answer : Result Reply PortFault) → IsQuiet gate n (freeing link ++ closing opened answer)
owed_quiet gate n None opened answer = closing_quiet gate n opened answer
owed_quiet gate n (Some up) opened answer =
    let rest = closing_quiet gate (note gate n HangUp (Ok tt)) opened answer in
    record { right = ((tt, tt), rest.right); passes = rest.passes; asks = rest.asks; passed = rest.passed ∙ append-nil n.passed; calls = rest.calls ∙ append-nil n.calls }

-- ---- a dialogue

record Ends (gate : Gate) (dialogue : Result (Unit {0}) Cause) (n : Noted) (deeds : List Deed) : Type 0 where
  right : AllRight gate n deeds
  rest : List ℕ
  is : passage_in gate (noted_after gate n deeds).k ≡ (noted_after gate n deeds).passed ++ rest
  more : List Dest
  asks : dests_in gate (noted_after gate n deeds).k ≡ (noted_after gate n deeds).calls ++ more
  whole : IsDone dialogue → rest ≡ []
  all : IsDone dialogue → more ≡ []

stop_ends : (gate : Gate) (n : Noted) (act : Act) (halt : Halt act) (cause : Cause) → May gate n act → Ends gate (Err cause) n (deed_of act (Err halt) ∷ [])
stop_ends gate n act halt cause may =
    let b = stop_behind gate n act halt may in
    record { right = ((right_by gate n act may, due_text gate n act may), tt); rest = b.rest; is = b.is; more = b.more; asks = b.asks; whole = λ never. absurd never; all = λ never. absurd never }

module _ {Origin : Type 0} (gate : Gate) where
  abbrev own : PlaceTable (acts Origin) Place
  own = ftp_rows gate

  abbrev over : Unit {0} → Row (acts Origin) Place
  over done = Over

  steps_right : (n : Noted) (steps : List (Step (acts Origin))) → AllMay (ftp_watch Origin gate) n steps → AllRight gate n (map done steps)
  steps_right n [] all = tt
  steps_right n (step ∷ steps) all = ((right_by gate n step.act all.0, due_text gate n step.act all.0), steps_right (note gate n step.act (Ok step.answer)) steps all.1)

  steps_noted : (n : Noted) (steps : List (Step (acts Origin))) → history (ftp_watch Origin gate) n steps ≡ noted_after gate n (map done steps)
  steps_noted n [] = refl
  steps_noted n (step ∷ steps) = steps_noted (note gate n step.act (Ok step.answer)) steps

  over_ends : (n : Noted) (left : Row (acts Origin) Place) → left ≡ Over → Leaves (ftp_watch Origin gate) left n → Ends gate (Ok tt) n []
  over_ends n left is leaves =
      let even : Even gate n = subst (λ (r : Row (acts Origin) Place). Leaves (ftp_watch Origin gate) r n) is leaves in
      record { right = tt; rest = []; is = even.is ∙ sym (append-nil n.passed); more = []; asks = even.asks ∙ sym (append-nil n.calls); whole = λ ended. refl; all = λ ended. refl }

  last_ends : (dialogue : Result (Unit {0}) Cause) (new : World Origin) (left : Row (acts Origin) Place) (mid : World Origin) (comes : Comes own over dialogue new left mid) (n : Noted) → Leaves (ftp_watch Origin gate) left n
      → Ends gate dialogue n (deed_last own over dialogue new left mid comes)
  last_ends (Ok end) new left mid comes n leaves = over_ends n left comes.0 leaves
  last_ends (Err cause) new (Do act go) mid comes n leaves = stop_ends gate n act comes.halt cause leaves.0
  last_ends (Err cause) new (At place) mid comes n leaves = stop_ends gate n (own.act place) comes.halt cause (rows_keep Origin gate place n leaves).0
  last_ends (Err cause) new Over mid comes n leaves = absurd comes

  ran_ends : (old new : World Origin) (dialogue : Result (Unit {0}) Cause) (ran : Ran own ftp_row over old new dialogue) → Ends gate dialogue at_first (deeds_ran ran)
  ran_ends old new dialogue ran =
      let start = at_first in
      let steps = ran.steps in
      let first = map done steps in
      let leaves = run_leaves own (ftp_watch Origin gate) (rows_keep Origin gate) ftp_row ran.left start steps (first_keeps Origin gate) ran.run in
      let all = run_may own (ftp_watch Origin gate) (rows_keep Origin gate) ftp_row ran.left start steps (first_keeps Origin gate) ran.run in
      let n = noted_after gate start first in
      let here : Leaves (ftp_watch Origin gate) ran.left n = subst (λ (m : Noted). Leaves (ftp_watch Origin gate) ran.left m) (steps_noted start steps) leaves in
      let last = deed_last own over dialogue new ran.left ran.mid ran.comes in
      let ends = last_ends dialogue new ran.left ran.mid ran.comes n here in
      let joined = sym (noted_both gate start first last) in
      record {
        right = right_both gate start first last (steps_right start steps all) ends.right;
        rest = ends.rest;
        is = subst (λ (m : Noted). passage_in gate m.k ≡ m.passed ++ ends.rest) joined ends.is;
        more = ends.more;
        asks = subst (λ (m : Noted). dests_in gate m.k ≡ m.calls ++ ends.more) joined ends.asks;
        whole = ends.whole;
        all = ends.all;
      }

-- ---- a session

module _ {Origin : Type 0} (gate : Gate) (old new : World Origin) (ending : Ending) (held : Held (ftp_rows gate) ftp_row old new ending) where
  abbrev talk : List Deed
  talk = deeds_ran held.ran

  abbrev last : List Deed
  last = owed held.mid held.answer

  abbrev middle : Noted
  middle = noted_after gate at_first talk

  ends : Ends gate held.dialogue at_first talk
  ends = ran_ends gate old held.mid held.dialogue held.ran

  quiet : IsQuiet gate middle last
  quiet = owed_quiet gate middle held.mid.server.link held.mid.office.opened held.answer

  joined : noted_after gate at_first (deeds_of held) ≡ noted_after gate middle last
  joined = noted_both gate at_first talk last

  right_there : (before after : List Deed) (deed : Deed) → deeds_of held ≡ before ++ deed ∷ after
      → IsRight gate (noted_after gate at_first before).k deed.act × IsDueText gate (noted_after gate at_first before) deed.act
  right_there before after deed is =
      right_each gate at_first before after deed (subst (λ (d : List Deed). AllRight gate at_first d) is (right_both gate at_first talk last ends.right quiet.right))

  pub held_right : AreRight gate (deeds_of held)
  held_right before after deed is = subst (λ (k : Known). IsRight gate k deed.act) (all_known gate before) (right_there before after deed is).0

  pub held_gives : GivesPassage gate held
  held_gives = record {
    rest = ends.rest;
    is =
        ap (λ (k : Known). passage_in gate k) (sym (all_known gate (deeds_of held)) ∙ ap (λ (m : Noted). m.k) joined) ∙ quiet.passes ∙ ends.is
        ∙ ap (λ (z : List ℕ). z ++ ends.rest) (sym quiet.passed ∙ ap (λ (m : Noted). m.passed) (sym joined) ∙ all_passed gate (deeds_of held));
    whole = ends.whole;
  }

  pub held_asks : AsksExactly gate held
  held_asks = record {
    rest = ends.more;
    is =
        ap (λ (k : Known). dests_in gate k) (sym (all_known gate (deeds_of held)) ∙ ap (λ (m : Noted). m.k) joined) ∙ quiet.asks ∙ ends.asks
        ∙ ap (λ (z : List Dest). z ++ ends.more) (sym quiet.calls ∙ ap (λ (m : Noted). m.calls) (sym joined) ∙ all_calls gate (deeds_of held));
    whole = ends.all;
  }

  pub held_cleared : DialsCleared gate (deeds_of held)
  held_cleared before after deed dest is act = subst (λ (a : Act). IsRight gate (known gate before) a) act (held_right before after deed is)

  pub held_own : JoinsOwn gate (deeds_of held)
  held_own before after deed dest target is act = subst (λ (a : Act). IsRight gate (known gate before) a) act (held_right before after deed is)

  pub held_unblocked : PassesUnblocked gate (deeds_of held)
  held_unblocked before after deed text is act =
      let n = noted_after gate at_first before in
      let due : passage_in gate n.k ≡ n.passed ++ text = subst (λ (a : Act). IsDueText gate n a) act (right_there before after deed is).1 in
      record {
        passable = subst (λ (a : Act). IsRight gate (known gate before) a) act (held_right before after deed is);
        due = ap (λ (k : Known). passage_in gate k) (sym (all_known gate before)) ∙ due ∙ ap (λ (z : List ℕ). z ++ text) (all_passed gate before);
      }

  pub held_logged : DenialsLogged gate (deeds_of held)
  held_logged before after deed text is act = (subst (λ (a : Act). IsRight gate (known gate before) a) act (held_right before after deed is)).0

  pub held_caused : FailuresToldOf gate (deeds_of held)
  held_caused before after deed text is act = (subst (λ (a : Act). IsRight gate (known gate before) a) act (held_right before after deed is)).1

  pub held_doors : OpensOwn gate (deeds_of held)
  held_doors before after deed is act = subst (λ (a : Act). IsRight gate (known gate before) a) act (held_right before after deed is)

  pub held_copies : CopiesOwn gate (deeds_of held)
  held_copies before after deed toward is act = subst (λ (a : Act). IsRight gate (known gate before) a) act (held_right before after deed is)

  pub held_asked : AsksDue gate (deeds_of held)
  held_asked before after deed request is act =
      subst (λ (a : Act). IsRight gate (known gate before) a) act (held_right before after deed is)
