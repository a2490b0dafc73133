-- Each reply is told once, before anything else is done.
use Rattle.std.proofs.Common.{◌≡◌, refl, sym, ap, subst, ◌∙◌, ℕ, Bool, true, false, List, [], ◌∷◌, ◌++◌, map, Option, Some, None, Result, Ok, Err, append_assoc, append-nil, codes, if◌then◌else◌}
use Rattle.std.proofs.lemmas.List.Concat.{flat_map-append}
use Rattle.auth_events.specs.declared.port.PortFault.{PortFault}
use Rattle.auth_events.specs.declared.reply.Reply.{Reply}
use Rattle.auth_events.specs.declared.reply.Reply.TheVariants as replies
use Rattle.fw_acts.specs.Acts.{Row, Step, PlaceTable}
use Rattle.fw_acts.specs.Acts.Row.{Do, At, Over}
use Rattle.fw_acts.specs.Histories.{AllMay, Keeps, Leaves, Watch, history}
use Rattle.fw_acts.specs.Ran.{Comes}
use Rattle.fw_acts.proofs.HistoryLemmas.{run_leaves, run_may}
use Rattle.fw_outside.specs.declared.heard.Heard.{Heard}
use Rattle.fw_outside.specs.declared.heard.Heard.TheVariants.{Line, TooLong, Stopped}
use Rattle.fw_types.specs.declared.ending.Ending.{Ending}
use Rattle.authsrv_gate.specs.Dialogue.{heard_row, is_no_such, line_row, listed_row, opened_row, rows, say, session_row}
use Rattle.authsrv_gate.specs.Telling.{Hearer, ToldInOrder, due, hearer_after, unheard, unless_ended, words}
use Rattle.authsrv_gate.specs.Telling as telling
use Rattle.authsrv_gate.specs.declared.place.Place.{Place}
use Rattle.authsrv_gate.specs.declared.place.Place.TheVariants.{Waiting, Listing}
use Rattle.authsrv_lines.specs.Reply.{reply_line}
use Rattle.authsrv_lines.specs.Request.{request_of}
use Rattle.authsrv_lines.specs.declared.wire.Wire.{Wire}
use Rattle.authsrv_lines.specs.declared.wire.Wire.TheVariants as wires
use Rattle.authsrv_lines.specs.declared.wire.WireFault.{WireFault}
use Rattle.session_acts.specs.Acts.{Act, Answer, Halt}
use Rattle.session_acts.specs.Acts.Act.{Hear, Say, Try, Log, Note, Ask, Renew, Dial, Reach, Take, Pass, HangUp, Relay, Deposit, Allot, TakeReply, OpenDoor, Join, Copy, Part}
use Rattle.session_acts.specs.Deeds.{Deed, deed_last, done, gives}
use Rattle.session_acts.specs.Laws.{told}
use Rattle.session_acts.specs.Met.{acts}
use Rattle.session_acts.specs.Session.{Held, closing, deeds_of, freeing, owed}
use Rattle.session_acts.specs.World.{Speaker, World}
use Rattle.session_acts.specs.declared.cause.Cause.{Cause}

-- how far the client has come, and what it is to be told before anything else is done
record Owing : Type 0 where
  hearer : Hearer
  text : List ℕ

abbrev ready : Bool → Owing
ready listing = record { hearer = record { ended = false; listing = listing }; text = [] }

abbrev MayTell : Owing → Act → Type 0
MayTell owing (Say text) = text ≡ owing.text
MayTell owing (Try text) = ⊥
MayTell owing Relay = ⊥
MayTell owing (TakeReply how) = ⊥
MayTell owing (Deposit sender rcpts words most) = ⊥
MayTell owing act = owing.text ≡ []

abbrev Stands : Owing → Place → Type 0
Stands owing Waiting = owing ≡ ready owing.hearer.listing
Stands owing (Listing after) = owing ≡ ready true

abbrev noted : Owing → (act : Act) → Answer act → Owing
noted owing act answer = record { hearer = hearer_after owing.hearer act (Ok answer); text = due owing.hearer act (Ok answer) }

abbrev watch : (Origin : Type 0) → Watch (acts Origin) Place
watch Origin = record { Noted = Owing; note = noted; may = MayTell; holds = Stands; over = λ owing. owing.text ≡ [] }

-- ---- the rows

module _ (Origin : Type 0) where
  abbrev own_rows : PlaceTable (acts Origin) Place
  own_rows = rows

  line_tells : (wire : Result Wire WireFault) → Leaves (watch Origin) (line_row wire) (record { hearer = record { ended = false; listing = telling.asks_list wire }; text = telling.line_words wire })
  line_tells (Err fault) = (refl, λ done. refl)
  line_tells (Ok (wires.Ask request)) = (refl, λ reply. (refl, λ done. refl))
  line_tells (Ok (wires.Password name hash)) = (refl, λ salted. (refl, λ done. refl))
  line_tells (Ok wires.List) = refl
  line_tells (Ok wires.Quit) = (refl, λ reply. (refl, λ done. refl))

  heard_tells : (heard : Heard) → Leaves (watch Origin) (heard_row heard) (record { hearer = telling.heard_so heard; text = telling.heard_words heard })
  heard_tells (Line line) = line_tells (request_of line.items)
  heard_tells TooLong = (refl, λ done. refl)
  heard_tells (Stopped stop) = (refl, λ reply. refl)

  end_tells : (none : Bool) (reply : Reply) → Leaves (watch Origin) (if none then say (codes "ok") (At Waiting) else say (reply_line reply) (At Waiting)) (record { hearer = record { ended = false; listing = true }; text = if none then codes "ok" ++ 10 ∷ [] else reply_line reply ++ 10 ∷ [] })
  end_tells true reply = (refl, λ done. refl)
  end_tells false reply = (refl, λ done. refl)

  listed_tells : (reply : Reply) → Leaves (watch Origin) (listed_row reply) (record { hearer = record { ended = false; listing = true }; text = telling.reply_words true reply })
  listed_tells (replies.Opened sid) = (refl, λ done. refl)
  listed_tells replies.Password = (refl, λ done. refl)
  listed_tells (replies.Challenge number word_seed) = (refl, λ done. refl)
  listed_tells replies.Ok = (refl, λ done. refl)
  listed_tells (replies.Shown summary) = (refl, λ done. refl)
  listed_tells (replies.Denied denial) = end_tells (is_no_such (replies.Denied denial)) (replies.Denied denial)

  place_tells : (place : Place) (owing : Owing) → Stands owing place → Leaves (watch Origin) (Do (own_rows.act place) (own_rows.go place)) owing
  place_tells Waiting owing stands =
      subst (λ (o : Owing). Leaves (watch Origin) (Do (own_rows.act Waiting) (own_rows.go Waiting)) o) (sym stands) (refl, λ heard. heard_tells heard)
  place_tells (Listing after) owing stands =
      subst (λ (o : Owing). Leaves (watch Origin) (Do (own_rows.act (Listing after)) (own_rows.go (Listing after))) o) (sym stands) (refl, λ reply. listed_tells reply)

  rows_tell : Keeps own_rows (watch Origin)
  rows_tell = place_tells

  opened_tells : (reply : Reply) → Leaves (watch Origin) (opened_row reply) (record { hearer = unheard; text = telling.reply_words false reply })
  opened_tells (replies.Opened sid) = (refl, λ done. refl)
  opened_tells replies.Password = (refl, λ done. refl)
  opened_tells (replies.Challenge number word_seed) = (refl, λ done. refl)
  opened_tells replies.Ok = (refl, λ done. refl)
  opened_tells (replies.Shown summary) = (refl, λ done. refl)
  opened_tells (replies.Denied denial) = (refl, λ done. refl)

  first_tells : (console : Bool) → Leaves (watch Origin) (session_row console) (ready false)
  first_tells console = (refl, opened_tells)

-- ---- what is told

-- what is owed is told, or nothing is
said_then : (text owing rest words_left told_left end : List ℕ) → text ≡ owing → words_left ≡ told_left ++ end → owing ++ words_left ≡ (text ++ told_left) ++ end
said_then text owing rest words_left told_left end is later =
    ap (λ (z : List ℕ). z ++ words_left) (sym is) ∙ ap (λ (z : List ℕ). text ++ z) later ∙ sym (append_assoc text told_left end)

quiet_then : (owing words_left told_left end : List ℕ) → owing ≡ [] → words_left ≡ told_left ++ end → owing ++ words_left ≡ told_left ++ end
quiet_then owing words_left told_left end none later = ap (λ (z : List ℕ). z ++ words_left) none ∙ later

-- one act more
step_tells : (owing : Owing) (act : Act) (answer : Answer act) (words_left told_left end : List ℕ) → MayTell owing act → due owing.hearer act (Ok answer) ++ words_left ≡ told_left ++ end → owing.text ++ (due owing.hearer act (Ok answer) ++ words_left) ≡ (told act (Ok answer) ++ told_left) ++ end
step_tells owing (Say text) answer words_left told_left end may later = said_then text owing.text [] words_left told_left end may later
step_tells owing (Try text) answer words_left told_left end may later = absurd may
step_tells owing Relay answer words_left told_left end may later = absurd may
step_tells owing (Deposit sender rcpts words most) answer words_left told_left end may later = absurd may
step_tells owing (Hear form) answer words_left told_left end may later = quiet_then owing.text (due owing.hearer (Hear form) (Ok answer) ++ words_left) told_left end may later
step_tells owing (Log text) answer words_left told_left end may later = quiet_then owing.text words_left told_left end may later
step_tells owing (Note text) answer words_left told_left end may later = quiet_then owing.text words_left told_left end may later
step_tells owing (Ask request) answer words_left told_left end may later = quiet_then owing.text (due owing.hearer (Ask request) (Ok answer) ++ words_left) told_left end may later
step_tells owing (Renew name hash) answer words_left told_left end may later = quiet_then owing.text (due owing.hearer (Renew name hash) (Ok answer) ++ words_left) told_left end may later
step_tells owing (Dial dest) answer words_left told_left end may later = quiet_then owing.text words_left told_left end may later
step_tells owing (Reach dest) answer words_left told_left end may later = quiet_then owing.text words_left told_left end may later
step_tells owing Take answer words_left told_left end may later = quiet_then owing.text words_left told_left end may later
step_tells owing (Pass text) answer words_left told_left end may later = quiet_then owing.text words_left told_left end may later
step_tells owing HangUp answer words_left told_left end may later = quiet_then owing.text words_left told_left end may later
step_tells owing Allot answer words_left told_left end may later = quiet_then owing.text words_left told_left end may later
step_tells owing (TakeReply how) answer words_left told_left end may later = absurd may
step_tells owing OpenDoor answer words_left told_left end may later = quiet_then owing.text words_left told_left end may later
step_tells owing (Join dest target) answer words_left told_left end may later = quiet_then owing.text words_left told_left end may later
step_tells owing (Copy toward) answer words_left told_left end may later = quiet_then owing.text words_left told_left end may later
step_tells owing Part answer words_left told_left end may later = quiet_then owing.text words_left told_left end may later

module _ {Origin : Type 0} where
  -- these acts, and what the client is to be told at their end
  steps_tell : (owing : Owing) (steps : List (Step (acts Origin))) → AllMay (watch Origin) owing steps
      → owing.text ++ words owing.hearer (map done steps) ≡ gives told (map done steps) ++ (history (watch Origin) owing steps).text
  steps_tell owing [] all = append-nil owing.text
  steps_tell owing (step ∷ steps) all =
      let next = noted owing step.act step.answer in
      step_tells owing step.act step.answer (words next.hearer (map done steps)) (gives told (map done steps)) (history (watch Origin) next steps).text all.0 (steps_tell next steps all.1)

  words_both : (owing : Owing) (steps : List (Step (acts Origin))) (more : List Deed) → words owing.hearer (map done steps ++ more) ≡ words owing.hearer (map done steps) ++ words (history (watch Origin) owing steps).hearer more
  words_both owing [] more = refl
  words_both owing (step ∷ steps) more =
      let next = noted owing step.act step.answer in
      let here = due owing.hearer step.act (Ok step.answer) in
      ap (λ (z : List ℕ). here ++ z) (words_both next steps more) ∙ sym (append_assoc here (words next.hearer (map done steps)) (words (history (watch Origin) next steps).hearer more))

told_both : (first more : List Deed) → gives told (first ++ more) ≡ gives told first ++ gives told more
told_both first more = flat_map-append (λ (deed : Deed). told deed.act deed.outcome) first more

-- what is owed tells nothing
freeing_tells : (link : Option Speaker) (deeds : List Deed) → gives told (freeing link ++ deeds) ≡ gives told deeds
freeing_tells None deeds = refl
freeing_tells (Some link) deeds = refl

closing_tells : (opened : Option ℕ) (answer : Result Reply PortFault) → gives told (closing opened answer) ≡ []
closing_tells None answer = refl
closing_tells (Some sid) answer = refl

-- ---- the act at which it stopped

-- what was told of what was owed, and the rest of it
record Breaks (owing : List ℕ) (due_now told_now : List ℕ) : Type 0 where
  rest : List ℕ
  is : owing ++ (due_now ++ []) ≡ (told_now ++ []) ++ rest

nothing_broken : (owing due_now : List ℕ) → owing ≡ [] → due_now ≡ [] → Breaks owing due_now []
nothing_broken owing due_now none nothing = record { rest = []; is = ap (λ (z : List ℕ). z ++ (due_now ++ [])) none ∙ append-nil due_now ∙ nothing }

unless_nothing : (ended : Bool) → unless_ended ended [] ≡ []
unless_nothing true = refl
unless_nothing false = refl

stop_breaks : (owing : Owing) (act : Act) (halt : Halt act) → MayTell owing act → Breaks owing.text (due owing.hearer act (Err halt)) (told act (Err halt))
stop_breaks owing (Say text) halt may = record {
  rest = halt.rest;
  is = append-nil owing.text ∙ sym may ∙ halt.cut ∙ ap (λ (z : List ℕ). z ++ halt.rest) (sym (append-nil halt.part));
}
stop_breaks owing (Try text) halt may = absurd may
stop_breaks owing Relay halt may = absurd may
stop_breaks owing (Deposit sender rcpts words most) halt may = absurd may
stop_breaks owing (Hear form) halt may = nothing_broken owing.text [] may refl
stop_breaks owing (Log text) halt may = nothing_broken owing.text [] may refl
stop_breaks owing (Note text) halt may = absurd halt
stop_breaks owing (Ask request) halt may = nothing_broken owing.text (unless_ended owing.hearer.ended []) may (unless_nothing owing.hearer.ended)
stop_breaks owing (Renew name hash) halt may = nothing_broken owing.text (unless_ended owing.hearer.ended []) may (unless_nothing owing.hearer.ended)
stop_breaks owing (Dial dest) halt may = absurd halt
stop_breaks owing (Reach dest) halt may = nothing_broken owing.text [] may refl
stop_breaks owing Take halt may = nothing_broken owing.text [] may refl
stop_breaks owing (Pass text) halt may = nothing_broken owing.text [] may refl
stop_breaks owing Allot halt may = nothing_broken owing.text [] may refl
stop_breaks owing (TakeReply how) halt may = absurd may
stop_breaks owing OpenDoor halt may = absurd halt
stop_breaks owing (Join dest target) halt may = absurd halt
stop_breaks owing (Copy toward) halt may = absurd halt
stop_breaks owing Part halt may = absurd halt
stop_breaks owing HangUp halt may = absurd halt

-- ---- the session

-- after the acts that were done, what was told and what was still to be told
record Ends (owing : Owing) (dialogue : Result (Unit {0}) Cause) (last : List Deed) : Type 0 where
  rest : List ℕ
  is : owing.text ++ words owing.hearer last ≡ gives told last ++ rest
  whole : dialogue ≡ Ok tt → rest ≡ []

stopped_ends : (owing : Owing) (cause : Cause) (act : Act) (halt : Halt act) → MayTell owing act → Ends owing (Err cause) (record { act = act; outcome = Err halt } ∷ [])
stopped_ends owing cause act halt may =
    let broken = stop_breaks owing act halt may in
    record { rest = broken.rest; is = broken.is; whole = λ clash. absurd (cc) }

module _ {Origin : Type 0} where
  last_ends : (owing : Owing) (dialogue : Result (Unit {0}) Cause) (new mid : World Origin) (left : Row (acts Origin) Place) (comes : Comes rows (λ (over : Unit {0}). Over) dialogue new left mid) → Leaves (watch Origin) left owing
      → Ends owing dialogue (deed_last rows (λ (over : Unit {0}). Over) dialogue new left mid comes)
  last_ends owing (Ok over) new mid left comes leaves =
      let none : owing.text ≡ [] = subst (λ (row : Row (acts Origin) Place). Leaves (watch Origin) row owing) comes.0 leaves in
      record { rest = []; is = ap (λ (z : List ℕ). z ++ []) none; whole = λ is. refl }
  last_ends owing (Err cause) new mid (Do act go) comes leaves = stopped_ends owing cause act comes.halt leaves.0
  last_ends owing (Err cause) new mid (At place) comes leaves = stopped_ends owing cause ((own_rows Origin).act place) comes.halt (rows_tell Origin place owing leaves).0
  last_ends owing (Err cause) new mid Over comes leaves = absurd comes

  pub told_in_order : (console : Bool) (old new : World Origin) (ending : Ending) (held : Held rows (session_row console) old new ending) → ToldInOrder held
  told_in_order console old new ending held =
      let ran = held.ran in
      let start = ready false in
      let leaves = run_leaves (own_rows Origin) (watch Origin) (rows_tell Origin) (session_row console) ran.left start ran.steps (first_tells Origin console) ran.run in
      let all = run_may (own_rows Origin) (watch Origin) (rows_tell Origin) (session_row console) ran.left start ran.steps (first_tells Origin console) ran.run in
      let here = history (watch Origin) start ran.steps in
      let last = deed_last rows (λ (over : Unit {0}). Over) held.dialogue held.mid ran.left ran.mid ran.comes in
      let ends = last_ends here held.dialogue held.mid ran.mid ran.left ran.comes leaves in
      let steps = map done ran.steps in
      let before : words unheard steps ≡ gives told steps ++ here.text = steps_tell start ran.steps all in
      let silent : gives told (owed held.mid held.answer) ≡ [] = freeing_tells held.mid.server.link (closing held.mid.office.opened held.answer) ∙ closing_tells held.mid.office.opened held.answer in
      let all_told : gives told (deeds_of held) ≡ gives told steps ++ gives told last =
      told_both (steps ++ last) (owed held.mid held.answer) ∙ ap (λ (z : List ℕ). gives told (steps ++ last) ++ z) silent ∙ append-nil (gives told (steps ++ last)) ∙ told_both steps last in
      record {
        rest = ends.rest;
        is =
            words_both start ran.steps last ∙ ap (λ (z : List ℕ). z ++ words here.hearer last) before ∙ append_assoc (gives told steps) here.text (words here.hearer last) ∙ ap (λ (z : List ℕ). gives told steps ++ z) ends.is
            ∙ sym (append_assoc (gives told steps) (gives told last) ends.rest) ∙ ap (λ (z : List ℕ). z ++ ends.rest) (sym all_told);
        whole = ends.whole;
      }
