-- The rows of a session of the authentication server log nothing, so it leaves the log as it was.
use Rattle.std.proofs.Common.{◌≡◌, refl, sym, ap, ◌∙◌, ℕ, Bool, true, false, List, [], ◌∷◌, codes, if◌then◌else◌}
use Rattle.std.specs.Prelude.{Option, Some, None, Result, Ok, Err}
use Rattle.auth_events.specs.declared.port.PortFault.{PortFault}
use Rattle.auth_events.specs.declared.reply.Reply.{Reply}
use Rattle.authsrv_gate.specs.Dialogue.{heard_row, is_no_such, line_row, listed_by, opened_place, rows, say, session_row, shown_name}
use Rattle.authsrv_gate.specs.declared.place.Place.{Place}
use Rattle.authsrv_gate.specs.declared.place.Place.TheVariants.{Waiting, Listing}
use Rattle.authsrv_lines.specs.Reply.{reply_line}
use Rattle.authsrv_lines.specs.Request.{request_of}
use Rattle.authsrv_lines.specs.declared.wire.Wire.{Wire}
use Rattle.authsrv_lines.specs.declared.wire.Wire.TheVariants as wires
use Rattle.authsrv_lines.specs.declared.wire.WireFault.{WireFault}
use Rattle.fw_acts.specs.Acts.{Row, Step, PlaceTable}
use Rattle.fw_acts.specs.Acts.Row.{Do, At, Over}
use Rattle.fw_acts.specs.Histories.{AllMay, Keeps, Leaves, Watch}
use Rattle.fw_acts.specs.Ran.{Comes}
use Rattle.fw_acts.specs.Runs.{DoesAll}
use Rattle.fw_acts.proofs.HistoryLemmas.{run_leaves, run_may}
use Rattle.fw_outside.specs.declared.heard.Heard.{Heard}
use Rattle.fw_outside.specs.declared.heard.Heard.TheVariants.{Line, TooLong, Stopped}
use Rattle.fw_types.specs.declared.ending.Ending.{Ending}
use Rattle.session_acts.specs.Acts.{Act, Outcome}
use Rattle.session_acts.specs.Acts.Act.{Hear, Say, Try, Log, Note, Ask, Renew, Dial, Reach, Take, Pass, HangUp, Relay, Deposit, Allot, TakeReply, OpenDoor, Join, Copy, Part}
use Rattle.session_acts.specs.Deeds.{DeedsAll}
use Rattle.session_acts.specs.Met.{Met, acts}
use Rattle.session_acts.specs.Session.{Session, closing, freeing, leads}
use Rattle.session_acts.specs.World.{Devices, Speaker, World, at_first}
use Rattle.session_acts.specs.declared.cause.Cause.{Cause}
use Rattle.session_acts.proofs.DeedLemmas.{deeds_parted}

abbrev is_logless : Act → Bool
is_logless (Log text) = false
is_logless (Note text) = false
is_logless act = true

-- only acts that log nothing may come
abbrev logless_watch : (Origin P : Type 0) → Watch (acts Origin) P
logless_watch Origin P = record {
  Noted = Unit {0};
  note = λ noted act answer. tt;
  may = λ noted act. is_logless act ≡ true;
  holds = λ noted place. Unit {0};
  over = λ noted. Unit {0};
}

module _ {Origin : Type 0} where
  met_logless : (act : Act) (outcome : Outcome act) (old new : World Origin) → is_logless act ≡ true → Met act outcome old new → new.logs ≡ old.logs
  met_logless (Log text) outcome old new is met = absurd (cc)
  met_logless (Note text) outcome old new is met = absurd (cc)
  met_logless (Hear form) outcome old new is met = met.logs
  met_logless (Say text) outcome old new is met = met.logs
  met_logless (Try text) outcome old new is met = met.logs
  met_logless (Ask request) outcome old new is met = met.logs
  met_logless (Renew name hash) outcome old new is met = met.logs
  met_logless (Dial dest) outcome old new is met = met.logs
  met_logless (Reach dest) outcome old new is met = met.logs
  met_logless Take outcome old new is met = met.logs
  met_logless (Pass text) outcome old new is met = met.logs
  met_logless HangUp outcome old new is met = met.logs
  met_logless Relay outcome old new is met = met.logs
  met_logless (Deposit sender rcpts words most) outcome old new is met = met.logs
  met_logless Allot outcome old new is met = met.logs
  met_logless (TakeReply how) outcome old new is met = met.logs
  met_logless OpenDoor outcome old new is met = met.logs
  met_logless (Join dest target) outcome old new is met = met.logs
  met_logless (Copy toward) outcome old new is met = met.logs
  met_logless Part outcome old new is met = met.logs

  steps_logless : (P : Type 0) (steps : List (Step (acts Origin))) (old new : World Origin) → AllMay (logless_watch Origin P) tt steps → DoesAll steps old new → new.logs ≡ old.logs
  steps_logless P [] old new may does = ap (λ (w : World Origin). w.logs) (sym does)
  steps_logless P (step ∷ steps) old new may does =
      steps_logless P steps does.0 new may.1 does.2 ∙ met_logless step.act (Ok step.answer) old does.0 may.0 does.1

  last_logless : {P : Type 0} (table : PlaceTable (acts Origin) P) (dialogue : Result (Unit {0}) Cause) (left : Row (acts Origin) P) (mid new : World Origin) → Keeps table (logless_watch Origin P)
      → Leaves (logless_watch Origin P) left tt → Comes table (λ (done : Unit {0}). Over) dialogue new left mid → new.logs ≡ mid.logs
  last_logless table (Ok done) left mid new keeps leaves comes = ap (λ (w : World Origin). w.logs) (sym comes.1)
  last_logless table (Err cause) (Do act go) mid new keeps leaves comes = met_logless act (Err comes.halt) mid new leaves.0 comes.met
  last_logless table (Err cause) (At place) mid new keeps leaves comes = met_logless (table.act place) (Err comes.halt) mid new (keeps place tt tt).0 comes.met
  last_logless table (Err cause) Over mid new keeps leaves comes = absurd comes

  -- what is owed is no line
  free_logless : (link : Option Speaker) (old new : World Origin) → DeedsAll (freeing link) old new → new.logs ≡ old.logs
  free_logless None old new all = ap (λ (w : World Origin). w.logs) (sym all)
  free_logless (Some link) old new all = ap (λ (w : World Origin). w.logs) (sym all.2) ∙ all.1.logs

  close_logless : (opened : Option ℕ) (answer : Result Reply PortFault) (old new : World Origin) → DeedsAll (closing opened answer) old new → new.logs ≡ old.logs
  close_logless None answer old new all = ap (λ (w : World Origin). w.logs) (sym all)
  close_logless (Some sid) answer old new all = ap (λ (w : World Origin). w.logs) (sym all.2) ∙ all.1.logs

  session_logless : {P : Type 0} (table : PlaceTable (acts Origin) P) (first : Row (acts Origin) P) (old new : Devices Origin) (ending : Ending) → Session table first old new ending → Leaves (logless_watch Origin P) first tt
      → Keeps table (logless_watch Origin P) → new.logs ≡ old.logs
  session_logless {P} table first old new ending session begins keeps =
      let held = session.held in
      let ran = held.ran in
      let start : World Origin = at_first old session.names in
      let leaves = run_leaves table (logless_watch Origin P) keeps first ran.left tt ran.steps begins ran.run in
      let may = run_may table (logless_watch Origin P) keeps first ran.left tt ran.steps begins ran.run in
      let did : ran.mid.logs ≡ start.logs = steps_logless P ran.steps start ran.mid may ran.does in
      let said : held.mid.logs ≡ start.logs = last_logless table held.dialogue ran.left ran.mid held.mid keeps leaves ran.comes ∙ did in
      let parted = deeds_parted (freeing held.mid.server.link) (closing held.mid.office.opened held.answer) held.mid session.last held.after in
      let free : parted.mid.logs ≡ held.mid.logs = free_logless held.mid.server.link held.mid parted.mid parted.before in
      let last : session.last.logs ≡ parted.mid.logs = close_logless held.mid.office.opened held.answer parted.mid session.last parted.after in
      ap (λ (d : Devices Origin). d.logs) (sym session.leaves) ∙ last ∙ free ∙ said

-- ---- the rows of the authentication server

module _ (Origin : Type 0) where
  abbrev watch : Watch (acts Origin) Place
  watch = logless_watch Origin Place

  line_logless : (wire : Result Wire WireFault) → Leaves watch (line_row wire) tt
  line_logless (Err fault) = (refl, λ done. tt)
  line_logless (Ok (wires.Ask request)) = (refl, λ reply. (refl, λ done. tt))
  line_logless (Ok (wires.Password name hash)) = (refl, λ salted. (refl, λ done. tt))
  line_logless (Ok wires.List) = tt
  line_logless (Ok wires.Quit) = (refl, λ reply. (refl, λ done. tt))

  heard_logless : (heard : Heard) → Leaves watch (heard_row heard) tt
  heard_logless (Line line) = line_logless (request_of line.items)
  heard_logless TooLong = (refl, λ done. tt)
  heard_logless (Stopped stop) = (refl, λ reply. tt)

  end_logless : (none : Bool) (reply : Reply) → Leaves watch (if none then say (codes "ok") (At Waiting) else say (reply_line reply) (At Waiting)) tt
  end_logless true reply = (refl, λ done. tt)
  end_logless false reply = (refl, λ done. tt)

  listed_logless : (name : Option (List ℕ)) (reply : Reply) → Leaves watch (listed_by name reply) tt
  listed_logless (Some name) reply = (refl, λ done. tt)
  listed_logless None reply = end_logless (is_no_such reply) reply

  rows_logless : Keeps rows watch
  rows_logless Waiting noted holds = (refl, λ heard. heard_logless heard)
  rows_logless (Listing after) noted holds = (refl, λ reply. listed_logless (shown_name reply) reply)

  leads_logless : (place : Option Place) → Leaves watch (leads place) tt
  leads_logless None = tt
  leads_logless (Some place) = tt

  begins_logless : (console : Bool) → Leaves watch (session_row console) tt
  begins_logless console = (refl, λ reply. (refl, λ done. leads_logless (opened_place reply)))

-- a session of the authentication server leaves the log as it was
pub server_logless : {Origin : Type 0} (console : Bool) (old new : Devices Origin) (ending : Ending) → Session rows (session_row console) old new ending → new.logs ≡ old.logs
server_logless {Origin} console old new ending session =
    session_logless rows (session_row console) old new ending session (begins_logless Origin console) (rows_logless Origin)
