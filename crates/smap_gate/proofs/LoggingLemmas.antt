-- A message that is kept is logged before anything else is done.
use Rattle.std.proofs.Common.{◌≡◌, refl, ap, subst, ℕ, ◌==◌, Bool, true, false, nat_lt, List, [], ◌∷◌, ◌++◌, map, length, Option, Some, None, Result, Ok, Err}
use Rattle.fw_acts.specs.Acts.{Row, Step}
use Rattle.fw_acts.specs.Acts.Row.{Do, At, Over}
use Rattle.fw_acts.specs.Histories.{AllMay, Leaves, history}
use Rattle.fw_acts.specs.Ran.{Comes}
use Rattle.fw_acts.proofs.HistoryLemmas.{run_leaves, run_may}
use Rattle.fw_outside.specs.declared.heard.Heard.{Heard}
use Rattle.fw_outside.specs.declared.heard.Heard.TheVariants.{Line, TooLong, Stopped}
use Rattle.fw_types.specs.declared.ending.Ending.{Ending}
use Rattle.session_acts.specs.Acts.{Act, Answer, Halt}
use Rattle.session_acts.specs.Acts.Act.{Hear, Say, Try, Log, Note, Ask, Renew, Dial, Reach, Take, Pass, HangUp, Relay, Deposit, Allot, TakeReply, OpenDoor, Join, Copy, Part}
use Rattle.session_acts.specs.Deeds.{Deed, deed_last, deeds_ran, done}
use Rattle.session_acts.specs.Met.{acts}
use Rattle.session_acts.specs.Session.{Held}
use Rattle.session_acts.specs.World.{World}
use Rattle.session_acts.specs.declared.cause.Cause.{Cause}
use Rattle.session_acts.specs.declared.deposited.Deposited.{Deposited}
use Rattle.session_acts.specs.declared.deposited.Deposited.TheVariants as ends
use Rattle.smap_gate.specs.Dialogue.{smap_row, smap_rows}
use Rattle.smap_gate.specs.Gate.{Gate}
use Rattle.smap_gate.specs.Logging.{IsDue, LogsDue, line_by, line_due}
use Rattle.smap_gate.specs.Paths.{path_behind}
use Rattle.smap_gate.specs.Replies.{Reply, Want, says, to_command, to_data, to_data_if, to_heard, to_helo, to_mail, to_rcpt, to_recipient, to_recipient_if, to_sender, to_verb}
use Rattle.smap_gate.specs.Replies.Want.{Nothing, Memory, Message, Logging}
use Rattle.smap_gate.specs.Texts as texts
use Rattle.smap_gate.specs.declared.place.Place.{Place}
use Rattle.smap_gate.specs.declared.place.Place.TheVariants.{Waiting, Mailing}
use Rattle.smap_lines.specs.Command.{Command, mail_command_of}
use Rattle.smap_lines.specs.Command.Command.{bare, helo, mail, rcpt}
use Rattle.smap_lines.specs.declared.path.PathFault.{PathFault}
use Rattle.smap_lines.specs.declared.verb.Verb.{Verb}
use Rattle.smap_lines.specs.declared.verb.Verb.TheVariants as verbs
use Rattle.smap_gate.specs.Wanted.{IsWanted, owing_behind, want_behind}
use Rattle.smap_gate.proofs.ReplyLemmas.{first_tells, own_rows, rows_tell, watch}

-- the line that is wanted
abbrev line_wanted : Want → Option (List ℕ)
line_wanted Nothing = None
line_wanted Memory = None
line_wanted (Message sender rcpts) = None
line_wanted (Logging line) = Some line

-- ---- no line of the client wants one

abbrev Quiet : Reply → Type 0
Quiet reply = line_wanted reply.want ≡ None

helo_quiet : (is_bare : Bool) (place : Place) → Quiet (to_helo is_bare place)
helo_quiet true place = refl
helo_quiet false place = refl

sender_quiet : (path : Result (List ℕ) PathFault) → Quiet (to_sender path)
sender_quiet (Ok path) = refl
sender_quiet (Err fault) = refl

mail_quiet : (place : Place) (path_text : Option (List ℕ)) → Quiet (to_mail place path_text)
mail_quiet Waiting path_text = sender_quiet (path_behind true path_text)
mail_quiet (Mailing sender rcpts) path_text = refl

recipient_quiet : (sender : List ℕ) (rcpts : List (List ℕ)) (path : Result (List ℕ) PathFault) → Quiet (to_recipient sender rcpts path)
recipient_quiet sender rcpts (Ok path) = refl
recipient_quiet sender rcpts (Err fault) = refl

recipient_if_quiet : (room : Bool) (sender : List ℕ) (rcpts : List (List ℕ)) (path_text : Option (List ℕ)) → Quiet (to_recipient_if room sender rcpts path_text)
recipient_if_quiet true sender rcpts path_text = recipient_quiet sender rcpts (path_behind false path_text)
recipient_if_quiet false sender rcpts path_text = refl

rcpt_quiet : (gate : Gate) (place : Place) (path_text : Option (List ℕ)) → Quiet (to_rcpt gate place path_text)
rcpt_quiet gate Waiting path_text = refl
rcpt_quiet gate (Mailing sender rcpts) path_text = recipient_if_quiet (nat_lt (length rcpts) gate.most_rcpts) sender rcpts path_text

data_if_quiet : (none : Bool) (sender : List ℕ) (rcpts : List (List ℕ)) → Quiet (to_data_if none sender rcpts)
data_if_quiet true sender rcpts = refl
data_if_quiet false sender rcpts = refl

data_quiet : (place : Place) → Quiet (to_data place)
data_quiet Waiting = refl
data_quiet (Mailing sender rcpts) = data_if_quiet (length rcpts == 0) sender rcpts

verb_quiet : (place : Place) (verb : Verb) → Quiet (to_verb place verb)
verb_quiet place verbs.Data = data_quiet place
verb_quiet place verbs.Rset = refl
verb_quiet place verbs.Noop = refl
verb_quiet place verbs.Quit = refl
verb_quiet place verbs.Help = refl
verb_quiet place verbs.NotImplemented = refl
verb_quiet place verbs.Unknown = refl
verb_quiet place verbs.Helo = refl
verb_quiet place verbs.Mail = refl
verb_quiet place verbs.Rcpt = refl

command_quiet : (gate : Gate) (place : Place) (command : Command) → Quiet (to_command gate place command)
command_quiet gate place (helo rest) = helo_quiet (length rest == 0) place
command_quiet gate place (mail path_text) = mail_quiet place path_text
command_quiet gate place (rcpt path_text) = rcpt_quiet gate place path_text
command_quiet gate place (bare verb) = verb_quiet place verb

heard_quiet : (gate : Gate) (place : Place) (heard : Heard) → Quiet (to_heard gate place heard)
heard_quiet gate place (Line line) = command_quiet gate place (mail_command_of line.items)
heard_quiet gate place TooLong = refl
heard_quiet gate place (Stopped stop) = refl

-- ---- the acts

behind_wants : (gate : Gate) (rcpts : ℕ) (deposited : Deposited) → line_wanted (want_behind gate rcpts deposited) ≡ line_by gate.peer rcpts deposited
behind_wants gate rcpts ends.NoSlot = refl
behind_wants gate rcpts ends.NotBegun = refl
behind_wants gate rcpts (ends.Kept slot bytes) = refl
behind_wants gate rcpts ends.TooLarge = refl
behind_wants gate rcpts ends.Faulted = refl
behind_wants gate rcpts ends.Ended = refl

-- each act comes only where the line that is wanted lets it
act_due : (gate : Gate) (owing : Reply) (act : Act) → IsWanted gate owing act → IsDue act (line_wanted owing.want)
act_due gate owing (Say text) may = ap line_wanted may.0
act_due gate owing (Hear form) may = ap line_wanted may.0
act_due gate owing (Log text) may = ap line_wanted may
act_due gate owing Allot may = ap line_wanted may
act_due gate owing (TakeReply how) may = absurd may
act_due gate owing OpenDoor may = absurd may
act_due gate owing (Join dest target) may = absurd may
act_due gate owing (Copy toward) may = absurd may
act_due gate owing Part may = absurd may
act_due gate owing (Deposit sender rcpts words most) may = ap line_wanted may.0
act_due gate owing (Try text) may = absurd may
act_due gate owing (Note text) may = absurd may
act_due gate owing (Ask request) may = absurd may
act_due gate owing (Renew name hash) may = absurd may
act_due gate owing (Dial dest) may = absurd may
act_due gate owing (Reach dest) may = absurd may
act_due gate owing Take may = absurd may
act_due gate owing (Pass text) may = absurd may
act_due gate owing HangUp may = absurd may
act_due gate owing Relay may = absurd may

-- and wants what is due behind it
act_wants : (gate : Gate) (owing : Reply) (act : Act) (answer : Answer act) → IsWanted gate owing act → line_wanted (owing_behind gate owing act answer).want ≡ line_due gate.peer act (Ok answer)
act_wants gate owing (Say text) answer may = refl
act_wants gate owing (Hear form) answer may = heard_quiet gate owing.place answer
act_wants gate owing (Log text) answer may = refl
act_wants gate owing Allot answer may = refl
act_wants gate owing (TakeReply how) answer may = absurd may
act_wants gate owing OpenDoor answer may = absurd may
act_wants gate owing (Join dest target) answer may = absurd may
act_wants gate owing (Copy toward) answer may = absurd may
act_wants gate owing Part answer may = absurd may
act_wants gate owing (Deposit sender rcpts words most) answer may = behind_wants gate (length rcpts) answer.0
act_wants gate owing (Try text) answer may = absurd may
act_wants gate owing (Note text) answer may = absurd may
act_wants gate owing (Ask request) answer may = absurd may
act_wants gate owing (Renew name hash) answer may = absurd may
act_wants gate owing (Dial dest) answer may = absurd may
act_wants gate owing (Reach dest) answer may = absurd may
act_wants gate owing Take answer may = absurd may
act_wants gate owing (Pass text) answer may = absurd may
act_wants gate owing HangUp answer may = absurd may
act_wants gate owing Relay answer may = absurd may

-- an act that stopped wants no line
stop_wants : (gate : Gate) (act : Act) (halt : Halt act) → line_due gate.peer act (Err halt) ≡ None
stop_wants gate (Deposit sender rcpts words most) halt = refl
stop_wants gate (Say text) halt = refl
stop_wants gate (Hear form) halt = refl
stop_wants gate (Log text) halt = refl
stop_wants gate Allot halt = refl
stop_wants gate (TakeReply how) halt = refl
stop_wants gate OpenDoor halt = absurd halt
stop_wants gate (Join dest target) halt = absurd halt
stop_wants gate (Copy toward) halt = absurd halt
stop_wants gate Part halt = absurd halt
stop_wants gate (Try text) halt = refl
stop_wants gate (Note text) halt = refl
stop_wants gate (Ask request) halt = refl
stop_wants gate (Renew name hash) halt = refl
stop_wants gate (Dial dest) halt = refl
stop_wants gate (Reach dest) halt = refl
stop_wants gate Take halt = refl
stop_wants gate (Pass text) halt = refl
stop_wants gate HangUp halt = refl
stop_wants gate Relay halt = refl

-- ---- the session

module _ {Origin : Type 0} (gate : Gate) where
  last_due : (owing : Reply) (dialogue : Result (Unit {0}) Cause) (new mid : World Origin) (left : Row (acts Origin) Place) (comes : Comes (smap_rows gate) (λ (over : Unit {0}). Over) dialogue new left mid) → Leaves (watch Origin gate) left owing
      → LogsDue gate.peer (line_wanted owing.want) (deed_last (smap_rows gate) (λ (over : Unit {0}). Over) dialogue new left mid comes)
  last_due owing (Ok over) new mid left comes leaves =
      let settled : (owing.want ≡ Nothing) × (owing.text ≡ []) = subst (λ (row : Row (acts Origin) Place). Leaves (watch Origin gate) row owing) comes.0 leaves in
      ap line_wanted settled.0
  last_due owing (Err cause) new mid (Do act go) comes leaves = (act_due gate owing act leaves.0, stop_wants gate act comes.halt)
  last_due owing (Err cause) new mid (At place) comes leaves = (act_due gate owing ((own_rows Origin gate).act place) (rows_tell Origin gate place owing leaves).0, stop_wants gate ((own_rows Origin gate).act place) comes.halt)
  last_due owing (Err cause) new mid Over comes leaves = absurd comes

  steps_due : (owing : Reply) (steps : List (Step (acts Origin))) (last : List Deed) → AllMay (watch Origin gate) owing steps → LogsDue gate.peer (line_wanted (history (watch Origin gate) owing steps).want) last
      → LogsDue gate.peer (line_wanted owing.want) (map done steps ++ last)
  steps_due owing [] last all ends = ends
  steps_due owing (step ∷ steps) last all ends =
      let next = owing_behind gate owing step.act step.answer in
      let later = steps_due next steps last all.1 ends in
      (act_due gate owing step.act all.0, subst (λ (due : Option (List ℕ)). LogsDue gate.peer due (map done steps ++ last)) (act_wants gate owing step.act step.answer all.0) later)

  pub logs_due : (old new : World Origin) (ending : Ending) (held : Held (smap_rows gate) smap_row old new ending) → LogsDue gate.peer None (deeds_ran held.ran)
  logs_due old new ending held =
      let ran = held.ran in
      let start = says texts.ready Waiting in
      let leaves = run_leaves (own_rows Origin gate) (watch Origin gate) (rows_tell Origin gate) smap_row ran.left start ran.steps (first_tells Origin gate) ran.run in
      let all = run_may (own_rows Origin gate) (watch Origin gate) (rows_tell Origin gate) smap_row ran.left start ran.steps (first_tells Origin gate) ran.run in
      let here = history (watch Origin gate) start ran.steps in
      let last = deed_last (smap_rows gate) (λ (over : Unit {0}). Over) held.dialogue held.mid ran.left ran.mid ran.comes in
      steps_due start ran.steps last all (last_due here held.dialogue held.mid ran.mid ran.left ran.comes leaves)
