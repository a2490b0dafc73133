-- A dialogue ends with QUIT or with the client's end, and with nothing else.
use Rattle.std.proofs.Common.{◌≡◌, refl, sym, ap, subst, ◌∙◌, ℕ, ◌==◌, Bool, true, false, ◌||◌, nat_lt, List, [], ◌∷◌, ◌++◌, map, length, Option, Some, None, Result, Ok, Err, append-nil}
use Rattle.auth_events.specs.declared.port.PortFault.{PortFault}
use Rattle.auth_events.specs.declared.reply.Reply as answers
use Rattle.fw_acts.specs.Acts.{Row, Step, PlaceTable}
use Rattle.fw_acts.specs.Acts.Row.{Do, At, Over}
use Rattle.fw_acts.specs.Histories.{AllMay, Keeps, Leaves, Watch, history}
use Rattle.fw_acts.specs.Ran.{Comes}
use Rattle.fw_acts.proofs.HistoryLemmas.{run_leaves, run_may}
use Rattle.fw_outside.specs.declared.heard.Heard.{Heard}
use Rattle.fw_outside.specs.declared.heard.Heard.TheVariants.{Line, TooLong, Stopped}
use Rattle.fw_types.specs.declared.ending.Ending.{Ending}
use Rattle.session_acts.specs.Acts.{Act, Outcome}
use Rattle.session_acts.specs.Acts.Act.{Hear, Say, Try, Log, Note, Ask, Renew, Dial, Reach, Take, Pass, HangUp, Relay, Deposit, Allot, TakeReply, OpenDoor, Join, Copy, Part}
use Rattle.session_acts.specs.Deeds.{Deed, deed_last, deeds_ran, done, gives}
use Rattle.session_acts.specs.Hearing.{Fate, heard_in}
use Rattle.session_acts.specs.Met.{acts}
use Rattle.session_acts.specs.Session.{Held, closing, deeds_of, freeing, owed}
use Rattle.session_acts.specs.World.{Speaker, World}
use Rattle.session_acts.specs.declared.cause.Cause.{Cause}
use Rattle.session_acts.specs.declared.deposited.Deposited.{Deposited}
use Rattle.session_acts.specs.declared.deposited.Deposited.TheVariants as ends
use Rattle.smap_gate.specs.Dialogue.{bare_row, command_row, data_if, data_row, deposited_row, heard_row, helo_if, mail_row, rcpt_row, recipient_if, recipient_row, sender_row, smap_row, smap_rows}
use Rattle.smap_gate.specs.Gate.{Gate}
use Rattle.smap_gate.specs.LastHeard.{EndsThere, HasEnd, ends_dialogue, is_ended, is_last_heard, is_quit, is_quit_verb}
use Rattle.smap_gate.specs.Paths.{path_behind}
use Rattle.smap_gate.specs.declared.place.Place.{Place}
use Rattle.smap_gate.specs.declared.place.Place.TheVariants.{Waiting, Mailing}
use Rattle.smap_lines.specs.Command.{Command, mail_command_of}
use Rattle.smap_lines.specs.Command.Command.{bare, helo, mail, rcpt}
use Rattle.smap_lines.specs.declared.path.PathFault.{PathFault}
use Rattle.smap_lines.specs.declared.verb.Verb.{Verb}
use Rattle.smap_lines.specs.declared.verb.Verb.TheVariants as verbs

-- ---- the rows

-- where the dialogue is over nothing is heard
abbrev MayHear : Bool → Act → Type 0
MayHear over (Hear form) = over ≡ false
MayHear over (Deposit sender rcpts words most) = over ≡ false
MayHear over Relay = ⊥
MayHear over act = Unit {0}

abbrev end_watch : (Origin : Type 0) → Watch (acts Origin) Place
end_watch Origin = record { Noted = Bool; note = λ over act answer. over || ends_dialogue act (Ok answer); may = MayHear; holds = λ over place. over ≡ false; over = λ over. over ≡ true }

module _ (Origin : Type 0) (gate : Gate) where
  abbrev Ends : Row (acts Origin) Place → Bool → Type 0
  Ends row over = Leaves (end_watch Origin) row over

  helo_ends : (is_bare : Bool) (place : Place) → Ends (helo_if is_bare place) false
  helo_ends true place = (tt, λ done. refl)
  helo_ends false place = (tt, λ done. refl)

  sender_ends : (path : Result (List ℕ) PathFault) → Ends (sender_row path) false
  sender_ends (Ok path) = (tt, λ done. refl)
  sender_ends (Err fault) = (tt, λ done. refl)

  mail_ends : (place : Place) (path_text : Option (List ℕ)) → Ends (mail_row place path_text) false
  mail_ends Waiting path_text = sender_ends (path_behind true path_text)
  mail_ends (Mailing sender rcpts) path_text = (tt, λ done. refl)

  recipient_ends : (sender : List ℕ) (rcpts : List (List ℕ)) (path : Result (List ℕ) PathFault) → Ends (recipient_row sender rcpts path) false
  recipient_ends sender rcpts (Ok path) = (tt, λ allotted. (tt, λ done. refl))
  recipient_ends sender rcpts (Err fault) = (tt, λ done. refl)

  recipient_if_ends : (room : Bool) (sender : List ℕ) (rcpts : List (List ℕ)) (path_text : Option (List ℕ)) → Ends (recipient_if room sender rcpts path_text) false
  recipient_if_ends true sender rcpts path_text = recipient_ends sender rcpts (path_behind false path_text)
  recipient_if_ends false sender rcpts path_text = (tt, λ done. refl)

  rcpt_ends : (place : Place) (path_text : Option (List ℕ)) → Ends (rcpt_row gate place path_text) false
  rcpt_ends Waiting path_text = (tt, λ done. refl)
  rcpt_ends (Mailing sender rcpts) path_text = recipient_if_ends (nat_lt (length rcpts) gate.most_rcpts) sender rcpts path_text

  deposited_ends : (rcpts : ℕ) (deposited : Deposited) → Ends (deposited_row gate rcpts deposited) (is_ended deposited)
  deposited_ends rcpts ends.NoSlot = (tt, λ done. refl)
  deposited_ends rcpts ends.NotBegun = (tt, λ done. refl)
  deposited_ends rcpts (ends.Kept slot bytes) = (tt, λ logged. (tt, λ done. refl))
  deposited_ends rcpts ends.TooLarge = (tt, λ done. refl)
  deposited_ends rcpts ends.Faulted = (tt, λ done. refl)
  deposited_ends rcpts ends.Ended = refl

  data_if_ends : (none : Bool) (sender : List ℕ) (rcpts : List (List ℕ)) → Ends (data_if none gate sender rcpts) false
  data_if_ends true sender rcpts = (tt, λ done. refl)
  data_if_ends false sender rcpts = (refl, λ answer. deposited_ends (length rcpts) answer.0)

  data_ends : (place : Place) → Ends (data_row gate place) false
  data_ends Waiting = (tt, λ done. refl)
  data_ends (Mailing sender rcpts) = data_if_ends (length rcpts == 0) sender rcpts

  verb_ends : (place : Place) (verb : Verb) → Ends (bare_row gate place verb) (is_quit_verb verb)
  verb_ends place verbs.Data = data_ends place
  verb_ends place verbs.Rset = (tt, λ done. refl)
  verb_ends place verbs.Noop = (tt, λ done. refl)
  verb_ends place verbs.Quit = (tt, λ done. refl)
  verb_ends place verbs.Help = (tt, λ done. refl)
  verb_ends place verbs.NotImplemented = (tt, λ done. refl)
  verb_ends place verbs.Unknown = (tt, λ done. refl)
  verb_ends place verbs.Helo = (tt, λ done. refl)
  verb_ends place verbs.Mail = (tt, λ done. refl)
  verb_ends place verbs.Rcpt = (tt, λ done. refl)

  command_ends : (place : Place) (command : Command) → Ends (command_row gate place command) (is_quit command)
  command_ends place (helo rest) = helo_ends (length rest == 0) place
  command_ends place (mail path_text) = mail_ends place path_text
  command_ends place (rcpt path_text) = rcpt_ends place path_text
  command_ends place (bare verb) = verb_ends place verb

  heard_ends : (place : Place) (heard : Heard) → Ends (heard_row gate place heard) (is_last_heard heard)
  heard_ends place (Line line) = command_ends place (mail_command_of line.items)
  heard_ends place TooLong = (tt, λ done. refl)
  heard_ends place (Stopped stop) = refl

  abbrev own : PlaceTable (acts Origin) Place
  own = smap_rows gate

  rows_end : Keeps own (end_watch Origin)
  rows_end place over still = subst (λ (o : Bool). Leaves (end_watch Origin) (Do (own.act place) (own.go place)) o) (sym still) (refl, λ heard. heard_ends place heard)

  first_ends : Ends smap_row false
  first_ends = (tt, λ done. refl)

-- ---- the deeds

abbrev over_after : Bool → List Deed → Bool
over_after over [] = over
over_after over (deed ∷ deeds) = over_after (over || ends_dialogue deed.act deed.outcome) deeds

abbrev AllQuiet : Bool → List Deed → Type 0
AllQuiet over [] = Unit {0}
AllQuiet over (deed ∷ deeds) = MayHear over deed.act × AllQuiet (over || ends_dialogue deed.act deed.outcome) deeds

quiet_both : (over : Bool) (first more : List Deed) → AllQuiet over first → ((o : Bool) → AllQuiet o more) → AllQuiet over (first ++ more)
quiet_both over [] more all later = later over
quiet_both over (deed ∷ first) more all later = (all.0, quiet_both (over || ends_dialogue deed.act deed.outcome) first more all.1 later)

quiet_behind : (over : Bool) (before : List Deed) (deed : Deed) (after : List Deed) → AllQuiet over (before ++ deed ∷ after) → AllQuiet (over_after over before || ends_dialogue deed.act deed.outcome) after
quiet_behind over [] deed after all = all.1
quiet_behind over (one ∷ before) deed after all = quiet_behind (over || ends_dialogue one.act one.outcome) before deed after all.1

or_so : (over ends : Bool) → ends ≡ true → (over || ends) ≡ true
or_so true ends is = refl
or_so false ends is = is

not_over : true ≡ false → ⊥
not_over is = cc

act_silent : (act : Act) (outcome : Outcome act) → MayHear true act → heard_in act outcome ≡ []
act_silent (Hear form) outcome may = absurd (not_over may)
act_silent (Deposit sender rcpts words most) outcome may = absurd (not_over may)
act_silent Relay outcome may = absurd may
act_silent (Say text) outcome may = refl
act_silent (Log text) outcome may = refl
act_silent Allot outcome may = refl
act_silent (TakeReply how) outcome may = refl
act_silent OpenDoor outcome may = refl
act_silent (Join dest target) outcome may = refl
act_silent (Copy toward) outcome may = refl
act_silent Part outcome may = refl
act_silent (Try text) outcome may = refl
act_silent (Note text) outcome may = refl
act_silent (Ask request) outcome may = refl
act_silent (Renew name hash) outcome may = refl
act_silent (Dial dest) outcome may = refl
act_silent (Reach dest) outcome may = refl
act_silent Take outcome may = refl
act_silent (Pass text) outcome may = refl
act_silent HangUp outcome may = refl

all_silent : (deeds : List Deed) → AllQuiet true deeds → gives heard_in deeds ≡ []
all_silent [] all = refl
all_silent (deed ∷ deeds) all = ap (λ (z : List Fate). z ++ gives heard_in deeds) (act_silent deed.act deed.outcome all.0) ∙ all_silent deeds all.1

quiet_ends : (deeds : List Deed) → AllQuiet false deeds → EndsThere deeds
quiet_ends deeds all before after deed is ends =
    let behind = quiet_behind false before deed after (subst (λ (d : List Deed). AllQuiet false d) is all) in
    all_silent after (subst (λ (o : Bool). AllQuiet o after) (or_so (over_after false before) (ends_dialogue deed.act deed.outcome) ends) behind)

-- what is owed hears nothing
closing_quiet : (over : Bool) (opened : Option ℕ) (answer : Result answers.Reply PortFault) → AllQuiet over (closing opened answer)
closing_quiet over None answer = tt
closing_quiet over (Some sid) answer = (tt, tt)

owed_quiet : (over : Bool) (link : Option Speaker) (opened : Option ℕ) (answer : Result answers.Reply PortFault) → AllQuiet over (freeing link ++ closing opened answer)
owed_quiet over None opened answer = closing_quiet over opened answer
owed_quiet over (Some link) opened answer = (tt, closing_quiet (over || false) opened answer)

-- ---- the session

not_yet : false ≡ true → ⊥
not_yet is = cc

not_done : {A : Type 0} (cause : Cause) (dialogue : Result (Unit {0}) Cause) → dialogue ≡ Err cause → dialogue ≡ Ok tt → A
not_done cause dialogue stopped is = absurd (cc)

-- at the end of a dialogue it is over, and no act is left
record IsEnd (over : Bool) (last : List Deed) : Type 0 where
  so : over ≡ true
  none : last ≡ []

module _ {Origin : Type 0} (gate : Gate) where
  abbrev last_of : (dialogue : Result (Unit {0}) Cause) (new mid : World Origin) (left : Row (acts Origin) Place) → Comes (smap_rows gate) (λ (over : Unit {0}). Over) dialogue new left mid → List Deed
  last_of dialogue new mid left comes = deed_last (smap_rows gate) (λ (over : Unit {0}). Over) dialogue new left mid comes

  last_quiet : (over : Bool) (dialogue : Result (Unit {0}) Cause) (new mid : World Origin) (left : Row (acts Origin) Place) (comes : Comes (smap_rows gate) (λ (over : Unit {0}). Over) dialogue new left mid) → Leaves (end_watch Origin) left over
      → AllQuiet over (last_of dialogue new mid left comes)
  last_quiet over (Ok end) new mid left comes leaves = tt
  last_quiet over (Err cause) new mid (Do act go) comes leaves = (leaves.0, tt)
  last_quiet over (Err cause) new mid (At place) comes leaves = ((rows_end Origin gate place over leaves).0, tt)
  last_quiet over (Err cause) new mid Over comes leaves = absurd comes

  last_end : (over : Bool) (dialogue : Result (Unit {0}) Cause) (new mid : World Origin) (left : Row (acts Origin) Place) (comes : Comes (smap_rows gate) (λ (over : Unit {0}). Over) dialogue new left mid) → Leaves (end_watch Origin) left over
      → dialogue ≡ Ok tt → IsEnd over (last_of dialogue new mid left comes)
  last_end over (Ok end) new mid left comes leaves is = record { so = subst (λ (row : Row (acts Origin) Place). Leaves (end_watch Origin) row over) comes.0 leaves; none = refl }
  last_end over (Err cause) new mid left comes leaves is = not_done cause (Err cause) refl is

  steps_quiet : (over : Bool) (steps : List (Step (acts Origin))) (last : List Deed) → AllMay (end_watch Origin) over steps → AllQuiet (history (end_watch Origin) over steps) last → AllQuiet over (map done steps ++ last)
  steps_quiet over [] last all ends = ends
  steps_quiet over (step ∷ steps) last all ends = (all.0, steps_quiet (over || ends_dialogue step.act (Ok step.answer)) steps last all.1 ends)

  -- where the dialogue is over, it ended with one of its acts
  ended_by : (step : Step (acts Origin)) (steps : List (Step (acts Origin))) (now : Bool) → ends_dialogue step.act (Ok step.answer) ≡ now → history (end_watch Origin) now steps ≡ true
      → (history (end_watch Origin) false steps ≡ true → HasEnd (map done steps)) → HasEnd (done step ∷ map done steps)
  ended_by step steps true is over later = record { before = []; deed = done step; after = map done steps; is = refl; ends = is }
  ended_by step steps false is over later =
      let behind = later over in
      record { before = done step ∷ behind.before; deed = behind.deed; after = behind.after; is = ap (λ (d : List Deed). done step ∷ d) behind.is; ends = behind.ends }

  ended_in : (steps : List (Step (acts Origin))) → history (end_watch Origin) false steps ≡ true → HasEnd (map done steps)
  ended_in [] over = absurd (not_yet over)
  ended_in (step ∷ steps) over = ended_by step steps (ends_dialogue step.act (Ok step.answer)) refl over (λ is. ended_in steps is)

  pub ends_there : (old new : World Origin) (ending : Ending) (held : Held (smap_rows gate) smap_row old new ending) → EndsThere (deeds_of held)
  ends_there old new ending held =
      let ran = held.ran in
      let leaves = run_leaves (own Origin gate) (end_watch Origin) (rows_end Origin gate) smap_row ran.left false ran.steps (first_ends Origin gate) ran.run in
      let all = run_may (own Origin gate) (end_watch Origin) (rows_end Origin gate) smap_row ran.left false ran.steps (first_ends Origin gate) ran.run in
      let here = history (end_watch Origin) false ran.steps in
      let last = last_of held.dialogue held.mid ran.mid ran.left ran.comes in
      let quiet = steps_quiet false ran.steps last all (last_quiet here held.dialogue held.mid ran.mid ran.left ran.comes leaves) in
      quiet_ends (deeds_of held) (quiet_both false (map done ran.steps ++ last) (owed held.mid held.answer) quiet (λ o. owed_quiet o held.mid.server.link held.mid.office.opened held.answer))

  pub has_end : (old new : World Origin) (ending : Ending) (held : Held (smap_rows gate) smap_row old new ending) → held.dialogue ≡ Ok tt → HasEnd (deeds_ran held.ran)
  has_end old new ending held is =
      let ran = held.ran in
      let leaves = run_leaves (own Origin gate) (end_watch Origin) (rows_end Origin gate) smap_row ran.left false ran.steps (first_ends Origin gate) ran.run in
      let here = history (end_watch Origin) false ran.steps in
      let end = last_end here held.dialogue held.mid ran.mid ran.left ran.comes leaves is in
      let found = ended_in ran.steps end.so in
      record {
        before = found.before;
        deed = found.deed;
        after = found.after;
        is = ap (λ (d : List Deed). map done ran.steps ++ d) end.none ∙ append-nil (map done ran.steps) ∙ found.is;
        ends = found.ends;
      }
