-- Each reply is told before anything else is done, but for what it waits for.
use Rattle.std.proofs.Common.{◌≡◌, refl, sym, ap, subst, ◌∙◌, ℕ, ◌==◌, Bool, true, false, nat_lt, List, [], ◌∷◌, ◌++◌, map, length, Option, Some, None, Result, Ok, Err, append_assoc, append-nil}
use Rattle.std.proofs.lemmas.List.Concat.{flat_map-append}
use Rattle.auth_events.specs.declared.port.PortFault.{PortFault}
use Rattle.auth_events.specs.declared.reply.Reply as answers
use Rattle.fw_acts.specs.Acts.{Row, Step, PlaceTable}
use Rattle.fw_acts.specs.Acts.Row.{Do, At, Over}
use Rattle.fw_acts.specs.Histories.{AllMay, Keeps, Leaves, Watch, history}
use Rattle.fw_acts.specs.Ran.{Comes}
use Rattle.fw_acts.proofs.HistoryLemmas.{run_leaves, run_may}
use Rattle.fw_outside.specs.declared.heard.Heard.{Heard}
use Rattle.fw_outside.specs.declared.heard.Heard.TheVariants.{Line, TooLong, Stopped}
use Rattle.fw_types.specs.declared.ending.Ending.{Ending}
use Rattle.session_acts.specs.Acts.{Act, Answer, Halt, Undeposited}
use Rattle.session_acts.specs.Acts.Act.{Hear, Say, Try, Log, Note, Ask, Renew, Dial, Reach, Take, Pass, HangUp, Relay, Deposit, Allot, TakeReply, OpenDoor, Join, Copy, Part}
use Rattle.session_acts.specs.Acts.Undeposited.{Lacks, Unsaid, Unheard}
use Rattle.session_acts.specs.Deeds.{Deed, deed_last, done, gives}
use Rattle.session_acts.specs.Laws.{told, words_if, words_told}
use Rattle.session_acts.specs.Met.{acts}
use Rattle.session_acts.specs.Session.{Held, closing, deeds_of, freeing, owed}
use Rattle.session_acts.specs.World.{Speaker, World}
use Rattle.session_acts.specs.declared.cause.Cause.{Cause}
use Rattle.session_acts.specs.declared.deposited.Deposited.{Deposited}
use Rattle.session_acts.specs.declared.deposited.Deposited.TheVariants as ends
use Rattle.smap_gate.specs.Dialogue.{command_row, bare_row, data_if, data_row, deposited_row, heard_row, helo_if, mail_row, rcpt_row, recipient_if, recipient_row, sender_row, smap_row, smap_rows}
use Rattle.smap_gate.specs.Gate.{Gate}
use Rattle.smap_gate.specs.Paths.{path_behind}
use Rattle.smap_gate.specs.Replies.{Reply, ToldInOrder, all_due, due, end_text, place_then, says, to_command, to_data, to_data_if, to_heard, to_helo, to_mail, to_rcpt, to_recipient, to_recipient_if, to_sender, to_verb}
use Rattle.smap_gate.specs.Replies.Want.{Nothing}
use Rattle.smap_gate.specs.Texts as texts
use Rattle.smap_gate.specs.Wanted.{IsWanted, owing_behind, want_behind}
use Rattle.smap_gate.specs.declared.place.Place.{Place}
use Rattle.smap_gate.specs.declared.place.Place.TheVariants.{Waiting, Mailing}
use Rattle.smap_lines.specs.Command.{Command, mail_command_of}
use Rattle.smap_lines.specs.Command.Command.{bare, helo, mail, rcpt}
use Rattle.smap_lines.specs.declared.path.PathFault.{PathFault}
use Rattle.smap_lines.specs.declared.verb.Verb.{Verb}
use Rattle.smap_lines.specs.declared.verb.Verb.TheVariants as verbs

-- ---- what may come

abbrev pub watch : (Origin : Type 0) → Gate → Watch (acts Origin) Place
watch Origin gate = record { Noted = Reply; note = owing_behind gate; may = IsWanted gate; holds = λ owing place. owing ≡ says [] place; over = λ owing. (owing.want ≡ Nothing) × (owing.text ≡ []) }

-- ---- the rows

module _ (Origin : Type 0) (gate : Gate) where
  abbrev pub own_rows : PlaceTable (acts Origin) Place
  own_rows = smap_rows gate

  abbrev pub Tells : Row (acts Origin) Place → Reply → Type 0
  Tells row reply = Leaves (watch Origin gate) row reply

  helo_tells : (is_bare : Bool) (place : Place) → Tells (helo_if is_bare place) (to_helo is_bare place)
  helo_tells true place = ((refl, refl), λ done. refl)
  helo_tells false place = ((refl, refl), λ done. refl)

  sender_tells : (path : Result (List ℕ) PathFault) → Tells (sender_row path) (to_sender path)
  sender_tells (Ok path) = ((refl, refl), λ done. refl)
  sender_tells (Err fault) = ((refl, refl), λ done. refl)

  mail_tells : (place : Place) (path_text : Option (List ℕ)) → Tells (mail_row place path_text) (to_mail place path_text)
  mail_tells Waiting path_text = sender_tells (path_behind true path_text)
  mail_tells (Mailing sender rcpts) path_text = ((refl, refl), λ done. refl)

  recipient_tells : (sender : List ℕ) (rcpts : List (List ℕ)) (path : Result (List ℕ) PathFault) → Tells (recipient_row sender rcpts path) (to_recipient sender rcpts path)
  recipient_tells sender rcpts (Ok path) = (refl, λ allotted. ((refl, refl), λ done. refl))
  recipient_tells sender rcpts (Err fault) = ((refl, refl), λ done. refl)

  recipient_if_tells : (room : Bool) (sender : List ℕ) (rcpts : List (List ℕ)) (path_text : Option (List ℕ)) → Tells (recipient_if room sender rcpts path_text) (to_recipient_if room sender rcpts path_text)
  recipient_if_tells true sender rcpts path_text = recipient_tells sender rcpts (path_behind false path_text)
  recipient_if_tells false sender rcpts path_text = ((refl, refl), λ done. refl)

  rcpt_tells : (place : Place) (path_text : Option (List ℕ)) → Tells (rcpt_row gate place path_text) (to_rcpt gate place path_text)
  rcpt_tells Waiting path_text = ((refl, refl), λ done. refl)
  rcpt_tells (Mailing sender rcpts) path_text = recipient_if_tells (nat_lt (length rcpts) gate.most_rcpts) sender rcpts path_text

  deposited_tells : (rcpts : ℕ) (deposited : Deposited) → Tells (deposited_row gate rcpts deposited) (record { place = Waiting; want = want_behind gate rcpts deposited; text = end_text deposited })
  deposited_tells rcpts ends.NoSlot = ((refl, refl), λ done. refl)
  deposited_tells rcpts ends.NotBegun = ((refl, refl), λ done. refl)
  deposited_tells rcpts (ends.Kept slot bytes) = (refl, λ logged. ((refl, refl), λ done. refl))
  deposited_tells rcpts ends.TooLarge = ((refl, refl), λ done. refl)
  deposited_tells rcpts ends.Faulted = ((refl, refl), λ done. refl)
  deposited_tells rcpts ends.Ended = (refl, refl)

  data_if_tells : (none : Bool) (sender : List ℕ) (rcpts : List (List ℕ)) → Tells (data_if none gate sender rcpts) (to_data_if none sender rcpts)
  data_if_tells true sender rcpts = ((refl, refl), λ done. refl)
  data_if_tells false sender rcpts = ((refl, refl, refl, refl), λ answer. deposited_tells (length rcpts) answer.0)

  data_tells : (place : Place) → Tells (data_row gate place) (to_data place)
  data_tells Waiting = ((refl, refl), λ done. refl)
  data_tells (Mailing sender rcpts) = data_if_tells (length rcpts == 0) sender rcpts

  verb_tells : (place : Place) (verb : Verb) → Tells (bare_row gate place verb) (to_verb place verb)
  verb_tells place verbs.Data = data_tells place
  verb_tells place verbs.Rset = ((refl, refl), λ done. refl)
  verb_tells place verbs.Noop = ((refl, refl), λ done. refl)
  verb_tells place verbs.Quit = ((refl, refl), λ done. (refl, refl))
  verb_tells place verbs.Help = ((refl, refl), λ done. refl)
  verb_tells place verbs.NotImplemented = ((refl, refl), λ done. refl)
  verb_tells place verbs.Unknown = ((refl, refl), λ done. refl)
  verb_tells place verbs.Helo = ((refl, refl), λ done. refl)
  verb_tells place verbs.Mail = ((refl, refl), λ done. refl)
  verb_tells place verbs.Rcpt = ((refl, refl), λ done. refl)

  command_tells : (place : Place) (command : Command) → Tells (command_row gate place command) (to_command gate place command)
  command_tells place (helo rest) = helo_tells (length rest == 0) place
  command_tells place (mail path_text) = mail_tells place path_text
  command_tells place (rcpt path_text) = rcpt_tells place path_text
  command_tells place (bare verb) = verb_tells place verb

  heard_tells : (place : Place) (heard : Heard) → Tells (heard_row gate place heard) (to_heard gate place heard)
  heard_tells place (Line line) = command_tells place (mail_command_of line.items)
  heard_tells place TooLong = ((refl, refl), λ done. refl)
  heard_tells place (Stopped stop) = (refl, refl)

  pub rows_tell : Keeps own_rows (watch Origin gate)
  rows_tell place owing stands =
      subst (λ (o : Reply). Leaves (watch Origin gate) (Do (own_rows.act place) (own_rows.go place)) o) (sym stands) ((refl, refl, refl), λ heard. heard_tells place heard)

  pub first_tells : Tells smap_row (says texts.ready Waiting)
  first_tells = ((refl, refl), λ done. refl)

-- ---- what is told

said_then : (text owing words_left told_left end : List ℕ) → text ≡ owing → words_left ≡ told_left ++ end → owing ++ words_left ≡ (text ++ told_left) ++ end
said_then text owing words_left told_left end is later =
    ap (λ (z : List ℕ). z ++ words_left) (sym is) ∙ ap (λ (z : List ℕ). text ++ z) later ∙ sym (append_assoc text told_left end)

quiet_then : (owing words_left told_left end : List ℕ) → owing ≡ [] → words_left ≡ told_left ++ end → owing ++ words_left ≡ told_left ++ end
quiet_then owing words_left told_left end none later = ap (λ (z : List ℕ). z ++ words_left) none ∙ later

-- the words are told, and then what is owed at the end of the data
sent_then : (owing go_ahead words end_of words_left told_left end : List ℕ) → owing ≡ [] → go_ahead ≡ words → end_of ++ words_left ≡ told_left ++ end → owing ++ ((go_ahead ++ end_of) ++ words_left) ≡ (words ++ told_left) ++ end
sent_then owing go_ahead words end_of words_left told_left end none same later =
    ap (λ (z : List ℕ). z ++ ((go_ahead ++ end_of) ++ words_left)) none
    ∙ append_assoc go_ahead end_of words_left
    ∙ ap (λ (z : List ℕ). go_ahead ++ z) later
    ∙ ap (λ (z : List ℕ). z ++ (told_left ++ end)) same
    ∙ sym (append_assoc words told_left end)

-- one act more
step_tells : (gate : Gate) (owing : Reply) (act : Act) (answer : Answer act) (words_left told_left end : List ℕ) → IsWanted gate owing act → (owing_behind gate owing act answer).text ++ words_left ≡ told_left ++ end
    → owing.text ++ (due gate owing.place act (Ok answer) ++ words_left) ≡ (told act (Ok answer) ++ told_left) ++ end
step_tells gate owing (Say text) answer words_left told_left end may later = said_then text owing.text words_left told_left end may.1 later
step_tells gate owing (Hear form) answer words_left told_left end may later = quiet_then owing.text ((to_heard gate owing.place answer).text ++ words_left) told_left end may.1 later
step_tells gate owing (Log text) answer words_left told_left end may later = later
step_tells gate owing Allot answer words_left told_left end may later = later
step_tells gate owing (TakeReply how) answer words_left told_left end may later = absurd may
step_tells gate owing OpenDoor answer words_left told_left end may later = absurd may
step_tells gate owing (Join dest target) answer words_left told_left end may later = absurd may
step_tells gate owing (Copy toward) answer words_left told_left end may later = absurd may
step_tells gate owing Part answer words_left told_left end may later = absurd may
step_tells gate owing (Deposit sender rcpts words most) answer words_left told_left end may later =
    sent_then owing.text (words_if answer.0 texts.go_ahead) (words_if answer.0 words) (end_text answer.0) words_left told_left end may.1 (ap (λ (w : List ℕ). words_if answer.0 w) (sym may.2)) later
step_tells gate owing (Try text) answer words_left told_left end may later = absurd may
step_tells gate owing (Note text) answer words_left told_left end may later = absurd may
step_tells gate owing (Ask request) answer words_left told_left end may later = absurd may
step_tells gate owing (Renew name hash) answer words_left told_left end may later = absurd may
step_tells gate owing (Dial dest) answer words_left told_left end may later = absurd may
step_tells gate owing (Reach dest) answer words_left told_left end may later = absurd may
step_tells gate owing Take answer words_left told_left end may later = absurd may
step_tells gate owing (Pass text) answer words_left told_left end may later = absurd may
step_tells gate owing HangUp answer words_left told_left end may later = absurd may
step_tells gate owing Relay answer words_left told_left end may later = absurd may

-- the place behind an act is that of what is owing_behind
pub step_place : (gate : Gate) (owing : Reply) (act : Act) (answer : Answer act) → place_then gate owing.place act (Ok answer) ≡ (owing_behind gate owing act answer).place
step_place gate owing (Say text) answer = refl
step_place gate owing (Hear form) answer = refl
step_place gate owing (Log text) answer = refl
step_place gate owing Allot answer = refl
step_place gate owing (TakeReply how) answer = refl
step_place gate owing OpenDoor answer = refl
step_place gate owing (Join dest target) answer = refl
step_place gate owing (Copy toward) answer = refl
step_place gate owing Part answer = refl
step_place gate owing (Deposit sender rcpts words most) answer = refl
step_place gate owing (Try text) answer = refl
step_place gate owing (Note text) answer = refl
step_place gate owing (Ask request) answer = refl
step_place gate owing (Renew name hash) answer = refl
step_place gate owing (Dial dest) answer = refl
step_place gate owing (Reach dest) answer = refl
step_place gate owing Take answer = refl
step_place gate owing (Pass text) answer = refl
step_place gate owing HangUp answer = refl
step_place gate owing Relay answer = refl

module _ {Origin : Type 0} (gate : Gate) where
  -- these acts, and what the client is to be told at their end
  steps_tell : (owing : Reply) (steps : List (Step (acts Origin))) → AllMay (watch Origin gate) owing steps
      → owing.text ++ all_due gate owing.place (map done steps) ≡ gives told (map done steps) ++ (history (watch Origin gate) owing steps).text
  steps_tell owing [] all = append-nil owing.text
  steps_tell owing (step ∷ steps) all =
      let next = owing_behind gate owing step.act step.answer in
      let here = due gate owing.place step.act (Ok step.answer) in
      ap (λ (p : Place). owing.text ++ (here ++ all_due gate p (map done steps))) (step_place gate owing step.act step.answer)
      ∙ step_tells gate owing step.act step.answer (all_due gate next.place (map done steps)) (gives told (map done steps)) (history (watch Origin gate) next steps).text all.0 (steps_tell next steps all.1)

  words_both : (owing : Reply) (steps : List (Step (acts Origin))) (more : List Deed)
      → all_due gate owing.place (map done steps ++ more) ≡ all_due gate owing.place (map done steps) ++ all_due gate (history (watch Origin gate) owing steps).place more
  words_both owing [] more = refl
  words_both owing (step ∷ steps) more =
      let next = owing_behind gate owing step.act step.answer in
      let here = due gate owing.place step.act (Ok step.answer) in
      let place = step_place gate owing step.act step.answer in
      ap (λ (p : Place). here ++ all_due gate p (map done steps ++ more)) place
      ∙ ap (λ (z : List ℕ). here ++ z) (words_both next steps more)
      ∙ sym (append_assoc here (all_due gate next.place (map done steps)) (all_due gate (history (watch Origin gate) next steps).place more))
      ∙ ap (λ (p : Place). (here ++ all_due gate p (map done steps)) ++ all_due gate (history (watch Origin gate) next steps).place more) (sym place)

told_both : (first more : List Deed) → gives told (first ++ more) ≡ gives told first ++ gives told more
told_both first more = flat_map-append (λ (deed : Deed). told deed.act deed.outcome) first more

-- what is owed tells nothing
freeing_tells : (link : Option Speaker) (deeds : List Deed) → gives told (freeing link ++ deeds) ≡ gives told deeds
freeing_tells None deeds = refl
freeing_tells (Some link) deeds = refl

closing_tells : (opened : Option ℕ) (answer : Result answers.Reply PortFault) → gives told (closing opened answer) ≡ []
closing_tells None answer = refl
closing_tells (Some sid) answer = refl

-- ---- the act at which it stopped

-- what was told of what was owed, and the rest of it
record Breaks (owing due_now told_now : List ℕ) : Type 0 where
  rest : List ℕ
  is : owing ++ (due_now ++ []) ≡ (told_now ++ []) ++ rest

all_left : (owing due_now : List ℕ) → Breaks owing due_now []
all_left owing due_now = record { rest = owing ++ (due_now ++ []); is = refl }

message_breaks : {words : List ℕ} (halt : Undeposited words) → words ≡ texts.go_ahead → Breaks [] texts.go_ahead (words_told {words = words} (Err halt))
message_breaks Lacks is = all_left [] texts.go_ahead
message_breaks (Unsaid front) is = record { rest = front.rest; is = append-nil texts.go_ahead ∙ sym is ∙ front.cut ∙ ap (λ (z : List ℕ). z ++ front.rest) (sym (append-nil front.part)) }
message_breaks {words} (Unheard silence data_heard) is =
    record { rest = []; is = ap (λ (z : List ℕ). z ++ []) (sym is) ∙ sym (append-nil (words ++ [])) }

stop_breaks : (gate : Gate) (owing : Reply) (act : Act) (halt : Halt act) → IsWanted gate owing act → Breaks owing.text (due gate owing.place act (Err halt)) (told act (Err halt))
stop_breaks gate owing (Say text) halt may = record {
  rest = halt.rest;
  is = append-nil owing.text ∙ sym may.1 ∙ halt.cut ∙ ap (λ (z : List ℕ). z ++ halt.rest) (sym (append-nil halt.part));
}
stop_breaks gate owing (Hear form) halt may = all_left owing.text []
stop_breaks gate owing (Log text) halt may = all_left owing.text []
stop_breaks gate owing Allot halt may = all_left owing.text []
stop_breaks gate owing (TakeReply how) halt may = absurd may
stop_breaks gate owing OpenDoor halt may = absurd may
stop_breaks gate owing (Join dest target) halt may = absurd may
stop_breaks gate owing (Copy toward) halt may = absurd may
stop_breaks gate owing Part halt may = absurd may
stop_breaks gate owing (Deposit sender rcpts words most) halt may =
    subst (λ (z : List ℕ). Breaks z texts.go_ahead (words_told {words = words} (Err halt))) (sym may.1) (message_breaks {words = words} halt may.2)
stop_breaks gate owing (Try text) halt may = absurd may
stop_breaks gate owing (Note text) halt may = absurd may
stop_breaks gate owing (Ask request) halt may = absurd may
stop_breaks gate owing (Renew name hash) halt may = absurd may
stop_breaks gate owing (Dial dest) halt may = absurd may
stop_breaks gate owing (Reach dest) halt may = absurd may
stop_breaks gate owing Take halt may = absurd may
stop_breaks gate owing (Pass text) halt may = absurd may
stop_breaks gate owing HangUp halt may = absurd may
stop_breaks gate owing Relay halt may = absurd may

-- ---- the session

-- after the acts that were done, what was told and what was still to be told
record Ends (gate : Gate) (owing : Reply) (dialogue : Result (Unit {0}) Cause) (last : List Deed) : Type 0 where
  rest : List ℕ
  is : owing.text ++ all_due gate owing.place last ≡ gives told last ++ rest
  whole : dialogue ≡ Ok tt → rest ≡ []

stopped_ends : (gate : Gate) (owing : Reply) (cause : Cause) (act : Act) (halt : Halt act) → IsWanted gate owing act → Ends gate owing (Err cause) (record { act = act; outcome = Err halt } ∷ [])
stopped_ends gate owing cause act halt may =
    let broken = stop_breaks gate owing act halt may in
    record { rest = broken.rest; is = broken.is; whole = λ clash. absurd (cc) }

module _ {Origin : Type 0} (gate : Gate) where
  last_ends : (owing : Reply) (dialogue : Result (Unit {0}) Cause) (new mid : World Origin) (left : Row (acts Origin) Place) (comes : Comes (smap_rows gate) (λ (over : Unit {0}). Over) dialogue new left mid) → Leaves (watch Origin gate) left owing
      → Ends gate owing dialogue (deed_last (smap_rows gate) (λ (over : Unit {0}). Over) dialogue new left mid comes)
  last_ends owing (Ok over) new mid left comes leaves =
      let settled : (owing.want ≡ Nothing) × (owing.text ≡ []) = subst (λ (row : Row (acts Origin) Place). Leaves (watch Origin gate) row owing) comes.0 leaves in
      record { rest = []; is = ap (λ (z : List ℕ). z ++ []) settled.1; whole = λ is. refl }
  last_ends owing (Err cause) new mid (Do act go) comes leaves = stopped_ends gate owing cause act comes.halt leaves.0
  last_ends owing (Err cause) new mid (At place) comes leaves = stopped_ends gate owing cause ((own_rows Origin gate).act place) comes.halt (rows_tell Origin gate place owing leaves).0
  last_ends owing (Err cause) new mid Over comes leaves = absurd comes

  pub told_in_order : (old new : World Origin) (ending : Ending) (held : Held (smap_rows gate) smap_row old new ending) → ToldInOrder gate held
  told_in_order old new ending held =
      let ran = held.ran in
      let start = says texts.ready Waiting in
      let leaves = run_leaves (own_rows Origin gate) (watch Origin gate) (rows_tell Origin gate) smap_row ran.left start ran.steps (first_tells Origin gate) ran.run in
      let all = run_may (own_rows Origin gate) (watch Origin gate) (rows_tell Origin gate) smap_row ran.left start ran.steps (first_tells Origin gate) ran.run in
      let here = history (watch Origin gate) start ran.steps in
      let last = deed_last (smap_rows gate) (λ (over : Unit {0}). Over) held.dialogue held.mid ran.left ran.mid ran.comes in
      let ends = last_ends here held.dialogue held.mid ran.mid ran.left ran.comes leaves in
      let steps = map done ran.steps in
      let before : texts.ready ++ all_due gate Waiting steps ≡ gives told steps ++ here.text = steps_tell gate start ran.steps all in
      let silent : gives told (owed held.mid held.answer) ≡ [] = freeing_tells held.mid.server.link (closing held.mid.office.opened held.answer) ∙ closing_tells held.mid.office.opened held.answer in
      let all_told : gives told (deeds_of held) ≡ gives told steps ++ gives told last =
      told_both (steps ++ last) (owed held.mid held.answer) ∙ ap (λ (z : List ℕ). gives told (steps ++ last) ++ z) silent ∙ append-nil (gives told (steps ++ last)) ∙ told_both steps last in
      record {
        rest = ends.rest;
        is =
            ap (λ (z : List ℕ). texts.ready ++ z) (words_both gate start ran.steps last)
            ∙ sym (append_assoc texts.ready (all_due gate Waiting steps) (all_due gate here.place last))
            ∙ ap (λ (z : List ℕ). z ++ all_due gate here.place last) before ∙ append_assoc (gives told steps) here.text (all_due gate here.place last) ∙ ap (λ (z : List ℕ). gives told steps ++ z) ends.is
            ∙ sym (append_assoc (gives told steps) (gives told last) ends.rest) ∙ ap (λ (z : List ℕ). z ++ ends.rest) (sym all_told);
        whole = ends.whole;
      }
