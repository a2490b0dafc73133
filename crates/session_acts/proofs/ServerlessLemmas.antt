-- A session whose rows speak with no server leaves the dialer as it was.
use Rattle.std.proofs.Common.{◌≡◌, refl, sym, ap, subst, ◌∙◌, ℕ, true, List, [], ◌∷◌, Option, None, Result, Ok, Err}
use Rattle.fw_acts.specs.Acts.{Row, Step, PlaceTable}
use Rattle.fw_acts.specs.Acts.Row.{Do, At, Over}
use Rattle.fw_acts.specs.Histories.{AllMay, Leaves}
use Rattle.fw_acts.specs.Ran.{Comes}
use Rattle.fw_acts.specs.Runs.{DoesAll}
use Rattle.fw_acts.proofs.HistoryLemmas.{run_leaves, run_may}
use Rattle.fw_types.specs.declared.ending.Ending.{Ending}
use Rattle.session_acts.specs.Acts.{Act, Outcome}
use Rattle.session_acts.specs.Acts.Act.{Hear, Say, Try, Log, Note, Ask, Renew, Dial, Reach, Take, Pass, HangUp, Relay, Deposit, Allot, TakeReply, OpenDoor, Join, Copy, Part}
use Rattle.session_acts.specs.Deeds.{DeedsAll}
use Rattle.session_acts.specs.Met.{Met, acts}
use Rattle.session_acts.specs.Serverless.{KeepsServerless, is_serverless, serverless_watch}
use Rattle.session_acts.specs.Session.{Held, Session, closing, freeing}
use Rattle.session_acts.specs.World.{Devices, Server, Speaker, World, at_first}
use Rattle.session_acts.specs.declared.cause.Cause.{Cause}
use Rattle.session_acts.proofs.DeedLemmas.{deeds_parted}
use Rattle.session_acts.proofs.OwedLemmas.{closing_server}

module _ {Origin : Type 0} where
  met_serverless : (act : Act) (outcome : Outcome act) (old new : World Origin) → is_serverless act ≡ true → Met act outcome old new → new.server ≡ old.server
  met_serverless (Hear form) outcome old new is met = met.server
  met_serverless (Say text) outcome old new is met = met.server
  met_serverless (Try text) outcome old new is met = met.server
  met_serverless (Log text) outcome old new is met = met.server
  met_serverless (Deposit sender rcpts words most) outcome old new is met = met.server
  met_serverless Allot outcome old new is met = met.server
  met_serverless (TakeReply how) outcome old new is met = absurd (cc)
  met_serverless OpenDoor outcome old new is met = absurd (cc)
  met_serverless (Join dest target) outcome old new is met = absurd (cc)
  met_serverless (Copy toward) outcome old new is met = absurd (cc)
  met_serverless Part outcome old new is met = absurd (cc)
  met_serverless (Note text) outcome old new is met = met.server
  met_serverless (Ask request) outcome old new is met = met.server
  met_serverless (Renew name hash) outcome old new is met = met.server
  met_serverless (Dial dest) outcome old new is met = absurd (cc)
  met_serverless (Reach dest) outcome old new is met = absurd (cc)
  met_serverless Take outcome old new is met = absurd (cc)
  met_serverless (Pass text) outcome old new is met = absurd (cc)
  met_serverless HangUp outcome old new is met = absurd (cc)
  met_serverless Relay outcome old new is met = absurd (cc)

  steps_serverless : (P : Type 0) (steps : List (Step (acts Origin))) (old new : World Origin) → AllMay (serverless_watch Origin P) tt steps → DoesAll steps old new → new.server ≡ old.server
  steps_serverless P [] old new may does = ap (λ (w : World Origin). w.server) (sym does)
  steps_serverless P (step ∷ steps) old new may does =
      steps_serverless P steps does.0 new may.1 does.2 ∙ met_serverless step.act (Ok step.answer) old does.0 may.0 does.1

  last_serverless : {P : Type 0} (rows : PlaceTable (acts Origin) P) (first : Row (acts Origin) P) (dialogue : Result (Unit {0}) Cause) (left : Row (acts Origin) P) (mid new : World Origin) → KeepsServerless rows first
      → Leaves (serverless_watch Origin P) left tt → Comes rows (λ (done : Unit {0}). Over) dialogue new left mid → new.server ≡ mid.server
  last_serverless rows first (Ok done) left mid new keeps leaves comes = ap (λ (w : World Origin). w.server) (sym comes.1)
  last_serverless rows first (Err cause) (Do act go) mid new keeps leaves comes = met_serverless act (Err comes.halt) mid new leaves.0 comes.met
  last_serverless rows first (Err cause) (At place) mid new keeps leaves comes =
      met_serverless (rows.act place) (Err comes.halt) mid new (keeps.goes_on place tt tt).0 comes.met
  last_serverless rows first (Err cause) Over mid new keeps leaves comes = absurd comes

  -- no link is up, so none is hung up
  free_serverless : (link : Option Speaker) (old new : World Origin) → link ≡ None → DeedsAll (freeing link) old new → new.server ≡ old.server
  free_serverless link old new none freed =
      ap (λ (w : World Origin). w.server) (sym (subst (λ (l : Option Speaker). DeedsAll (freeing l) old new) none freed))

  pub held_serverless : {P : Type 0} (rows : PlaceTable (acts Origin) P) (first : Row (acts Origin) P) (old new : World Origin) (ending : Ending) → Held rows first old new ending → KeepsServerless rows first
      → old.server.link ≡ None → new.server ≡ old.server
  held_serverless {P} rows first old new ending held keeps none =
      let ran = held.ran in
      let leaves = run_leaves rows (serverless_watch Origin P) keeps.goes_on first ran.left tt ran.steps keeps.begins ran.run in
      let may = run_may rows (serverless_watch Origin P) keeps.goes_on first ran.left tt ran.steps keeps.begins ran.run in
      let did = steps_serverless P ran.steps old ran.mid may ran.does in
      let said = last_serverless rows first held.dialogue ran.left ran.mid held.mid keeps leaves ran.comes ∙ did in
      let parted = deeds_parted (freeing held.mid.server.link) (closing held.mid.office.opened held.answer) held.mid new held.after in
      let free = free_serverless held.mid.server.link held.mid parted.mid (ap (λ (s : Server). s.link) said ∙ none) parted.before in
      closing_server held.mid.office.opened held.answer parted.mid new parted.after ∙ free ∙ said

  -- and so does a session over its devices
  pub session_serverless : {P : Type 0} (rows : PlaceTable (acts Origin) P) (first : Row (acts Origin) P) (old new : Devices Origin) (ending : Ending) → Session rows first old new ending → KeepsServerless rows first
      → new.dialer ≡ old.dialer
  session_serverless rows first old new ending session keeps =
      ap (λ (d : Devices Origin). d.dialer) (sym session.leaves) ∙ ap (λ (s : Server). s.dialer) (held_serverless rows first (at_first old session.names) session.last ending session.held keeps refl)

-- a line that is logged before is no server's matter
pub logged_serverless : {Origin P : Type 0} {rows : PlaceTable (acts Origin) P} {first : Row (acts Origin) P} (line : List ℕ) → KeepsServerless rows first → KeepsServerless rows (Do (Log line) (λ done. first))
logged_serverless line keeps = record { begins = (refl, λ done. keeps.begins); goes_on = keeps.goes_on }
