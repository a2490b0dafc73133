-- A session whose rows speak with no server ends by the client, the log or the port.
use Rattle.std.proofs.Common.{arith, ◌≡◌, ◌≢◌, refl, sym, ap, subst, ℕ, ◌≤◌, Bool, true, false, ◌⊎◌, inl, inr, length, List, Option, Some, None, Result, Ok, Err, map}
use Rattle.std.specs.Prelude.{◌==◌}
use Rattle.std.proofs.lemmas.Bool.{eqb-true}
use Rattle.std.proofs.lemmas.Bool.Decides.{eqb_tells}
use Rattle.auth_events.specs.declared.port.PortFault.{PortFault}
use Rattle.auth_events.specs.declared.port.PortFault.TheVariants as faults
use Rattle.auth_events.specs.declared.reply.Reply.{Reply}
use Rattle.fw_acts.specs.Acts.{Row, PlaceTable}
use Rattle.fw_acts.specs.Histories.{Leaves}
use Rattle.fw_acts.specs.Ran.{Comes}
use Rattle.fw_acts.specs.Acts.Row.{Over}
use Rattle.fw_acts.proofs.HistoryLemmas.{next_may, run_leaves}
use Rattle.fw_acts.proofs.RanLemmas.{stopped}
use Rattle.fw_outside.specs.Counts.{Rose}
use Rattle.fw_outside.specs.SourceView.{SourceView}
use Rattle.fw_types.specs.declared.ending.Ending.{Ending}
use Rattle.fw_types.specs.declared.ending.Ending.TheVariants as endings
use Rattle.session_acts.specs.Acts.{Act, Halt, cause_by, fault_cause, silence_cause}
use Rattle.session_acts.specs.Acts.Act.{Hear, Say, Try, Log, Note, Ask, Renew, Dial, Reach, Take, Pass, HangUp, Relay, Deposit, Allot, TakeReply, OpenDoor, Join, Copy, Part}
use Rattle.session_acts.specs.Causes.{Caused, TookMost, is_spent_ending}
use Rattle.session_acts.specs.Deeds.{done}
use Rattle.session_acts.specs.Met.{Hears, Met, acts}
use Rattle.session_acts.specs.Serverless.{CausedAlone, KeepsServerless, TakesExactly, is_serverless, serverless_watch}
use Rattle.session_acts.specs.Session.{Session, ending_by, ending_of}
use Rattle.session_acts.specs.World.{Devices, Speaker, World, at_first, most_taken}
use Rattle.session_acts.specs.declared.cause.Cause.{Cause}
use Rattle.session_acts.specs.declared.cause.Cause.TheVariants as causes
use Rattle.session_acts.specs.declared.form.Form.{Form}
use Rattle.session_acts.specs.declared.silence.Silence.{Silence}
use Rattle.session_acts.specs.declared.silence.Silence.TheVariants.{Quiet, Broken, Limit}
use Rattle.session_acts.proofs.CauseLemmas.{idled, session_caused, session_stays, used_up}
use Rattle.session_acts.proofs.DeedLemmas.{all_last, deeds_done}
use Rattle.session_acts.proofs.DeviceLemmas.{rose_within}
use Rattle.session_acts.proofs.SpentLemmas.{all_spent, owed_client}
use Rattle.session_acts.proofs.StaysLemmas.{stays_last}
use Rattle.session_acts.specs.Acts.{Undeposited}
use Rattle.session_acts.specs.Acts.Undeposited.{Lacks, Unsaid, Unheard}
use Rattle.session_acts.specs.Acts.{deposit_cause}
use Rattle.session_acts.specs.Met.{AtClientDeposit, DrawsAfter, stop_of}
use Rattle.session_acts.proofs.CauseLemmas.{draws_rose, drawn_up}

-- how a stop ended the session: not by a server, and as idle or spent only by the client
abbrev EndsAlone : Ending → Speaker → Speaker → Type 0
EndsAlone endings.ServerFault old new = ⊥
EndsAlone endings.NoRoute old new = ⊥
EndsAlone endings.Idle old new = Rose old.inlet.idles new.inlet.idles
EndsAlone endings.Spent old new = new.reader.room ≡ 0
EndsAlone ending old new = Unit {0}

hear_alone : (form : Form) (silence : Silence) (old new : Speaker) → Hears form (Err silence) old new → EndsAlone (ending_by (silence_cause causes.ClientFault silence)) old new
hear_alone form Quiet old new h = idled form old new h
hear_alone form Broken old new h = tt
hear_alone form Limit old new h = used_up form old new h

fault_alone : (fault : PortFault) (old new : Speaker) → EndsAlone (ending_by (fault_cause fault)) old new
fault_alone faults.NoMemory old new = tt
fault_alone faults.Link old new = tt
fault_alone faults.Strange old new = tt

data_alone : (silence : Silence) (words data_heard : List ℕ) (old new : Speaker) → DrawsAfter words (Some (stop_of silence)) data_heard old new → EndsAlone (ending_by (silence_cause causes.ClientFault silence)) old new
data_alone Quiet words data_heard old new h = draws_rose words data_heard old new h
data_alone Broken words data_heard old new h = tt
data_alone Limit words data_heard old new h = drawn_up data_heard h.middle new h.draws

deposit_alone : (words : List ℕ) (halt : Undeposited words) (old new : Speaker) → AtClientDeposit words (Err halt) old new → EndsAlone (ending_by (deposit_cause halt)) old new
deposit_alone words Lacks old new h = tt
deposit_alone words (Unsaid front) old new h = tt
deposit_alone words (Unheard silence data_heard) old new h = data_alone silence words data_heard old new h

stop_alone : {Origin : Type 0} (act : Act) (halt : Halt act) (old new : World Origin) → is_serverless act ≡ true → Met act (Err halt) old new → EndsAlone (ending_by (cause_by act halt)) old.client new.client
stop_alone (Hear form) halt old new is met = hear_alone form halt old.client new.client met.client
stop_alone (Say text) halt old new is met = tt
stop_alone (Try text) halt old new is met = absurd halt
stop_alone (Log text) halt old new is met = tt
stop_alone (Note text) halt old new is met = absurd halt
stop_alone (Ask request) halt old new is met = fault_alone halt old.client new.client
stop_alone (Renew name hash) halt old new is met = fault_alone halt.1 old.client new.client
stop_alone (Dial dest) halt old new is met = absurd (cc)
stop_alone (Reach dest) halt old new is met = absurd (cc)
stop_alone Take halt old new is met = absurd (cc)
stop_alone (Pass text) halt old new is met = absurd (cc)
stop_alone HangUp halt old new is met = absurd (cc)
stop_alone Relay halt old new is met = absurd (cc)
stop_alone (Deposit sender rcpts words most) halt old new is met = deposit_alone words halt old.client new.client met.client
stop_alone Allot halt old new is met = tt
stop_alone (TakeReply how) halt old new is met = absurd (cc)
stop_alone OpenDoor halt old new is met = absurd halt
stop_alone (Join dest target) halt old new is met = absurd halt
stop_alone (Copy toward) halt old new is met = absurd halt
stop_alone Part halt old new is met = absurd halt

spent_room : (ending : Ending) (old new : Speaker) → EndsAlone ending old new → is_spent_ending ending ≡ true → new.reader.room ≡ 0
spent_room endings.Done old new h is = absurd (cc)
spent_room (endings.Denied line) old new h is = absurd (cc)
spent_room endings.ClientFault old new h is = absurd (cc)
spent_room endings.ServerFault old new h is = absurd h
spent_room endings.LogFault old new h is = absurd (cc)
spent_room endings.AuthFault old new h is = absurd (cc)
spent_room endings.Idle old new h is = absurd (cc)
spent_room endings.NoRoute old new h is = absurd h
spent_room endings.Spent old new h is = h
spent_room endings.NoMemory old new h is = absurd (cc)

same_tells : (a b : ℕ) → a ≡ b → (a == b) ≡ true
same_tells a b is = choose (eqb_tells a b)
  where
    choose : (((a == b) ≡ true) × (a ≡ b)) ⊎ (((a == b) ≡ false) × (a ≢ b)) → (a == b) ≡ true
    choose (inl same) = same.0
    choose (inr other) = absurd (other.1 is)

both_ways : (a b : Bool) → (a ≡ true → b ≡ true) → (b ≡ true → a ≡ true) → a ≡ b
both_ways true true there back = refl
both_ways true false there back = absurd (let is = there refl in cc)
both_ways false true there back = absurd (let is = back refl in cc)
both_ways false false there back = refl

-- what that comes to over the devices
alone_by : {Origin : Type 0} (ending : Ending) (old new : Devices Origin) (before last : Speaker) → EndsAlone ending before last → Caused ending old new → old.inlet.idles ≤ before.inlet.idles → last.inlet ≡ new.inlet → (last.reader.room ≡ 0 → TookMost old.inlet new.inlet)
    → CausedAlone ending old new
alone_by endings.Done old new before last h caused least same all = tt
alone_by (endings.Denied line) old new before last h caused least same all = absurd caused
alone_by endings.ClientFault old new before last h caused least same all = caused
alone_by endings.ServerFault old new before last h caused least same all = absurd h
alone_by endings.LogFault old new before last h caused least same all = caused
alone_by endings.AuthFault old new before last h caused least same all = caused
alone_by endings.Idle old new before last h caused least same all =
    subst (λ (s : SourceView). Rose old.inlet.idles s.idles) same (rose_within old.inlet.idles before.inlet.idles last.inlet.idles last.inlet.idles least h (omega (arith)))
alone_by endings.NoRoute old new before last h caused least same all = absurd h
alone_by endings.Spent old new before last h caused least same all = all h
alone_by endings.NoMemory old new before last h caused least same all = tt

module _ {Origin P : Type 0} where
  dialogue_alone : (rows : PlaceTable (acts Origin) P) (first left : Row (acts Origin) P) (dialogue : Result (Unit {0}) Cause) (before mid : World Origin) (opened : Option ℕ) (answer : Result Reply PortFault) → KeepsServerless rows first
      → Leaves (serverless_watch Origin P) left tt → Comes rows (λ (done : Unit {0}). Over) dialogue mid left before → EndsAlone (ending_of dialogue opened answer) before.client mid.client
  dialogue_alone rows first left (Ok done) before mid None answer keeps leaves comes = tt
  dialogue_alone rows first left (Ok done) before mid (Some sid) (Ok reply) keeps leaves comes = tt
  dialogue_alone rows first left (Ok done) before mid (Some sid) (Err fault) keeps leaves comes = fault_alone fault before.client mid.client
  dialogue_alone rows first left (Err cause) before mid opened answer keeps leaves comes =
      let here = stopped rows left cause before mid comes in
      let may : is_serverless here.act ≡ true = next_may rows (serverless_watch Origin P) keeps.goes_on left tt here.act leaves here.next in
      subst (λ (c : Cause). EndsAlone (ending_by c) before.client mid.client) (sym here.why.is_cause) (stop_alone here.act here.why.halt before mid may here.why.met)

  -- how the session ended, from where its last act began
  held_alone : (rows : PlaceTable (acts Origin) P) (first : Row (acts Origin) P) (old new : Devices Origin) (ending : Ending) (session : Session rows first old new ending) → KeepsServerless rows first
      → EndsAlone ending session.held.ran.mid.client session.last.client
  held_alone rows first old new ending session keeps =
      let held = session.held in
      let ran = held.ran in
      let leaves = run_leaves rows (serverless_watch Origin P) keeps.goes_on first ran.left tt ran.steps keeps.begins ran.run in
      let alone = dialogue_alone rows first ran.left held.dialogue ran.mid held.mid held.mid.office.opened held.answer keeps leaves ran.comes in
      let same : session.last.client ≡ held.mid.client = owed_client held.mid session.last held.answer held.after in
      subst (λ (e : Ending). EndsAlone e ran.mid.client session.last.client) (sym held.ends) (subst (λ (s : Speaker). EndsAlone (ending_of held.dialogue held.mid.office.opened held.answer) ran.mid.client s) (sym same) alone)

  -- all that may be was taken of the client
  took_most : {rows : PlaceTable (acts Origin) P} {first : Row (acts Origin) P} {old new : Devices Origin} {ending : Ending} (session : Session rows first old new ending) → session.last.client.reader.room ≡ 0 → TookMost old.inlet session.last.client.inlet
  took_most session none =
      let source = (session_stays session).client.source in
      let room = source.room in
      record { took = record { bytes = source.bytes; most = omega (arith, room); grew = source.grew; is = source.took }; all = omega (arith, none, room) }

  pub session_alone : (rows : PlaceTable (acts Origin) P) (first : Row (acts Origin) P) (old new : Devices Origin) (ending : Ending) → Session rows first old new ending → KeepsServerless rows first → CausedAlone ending old new
  session_alone rows first old new ending session keeps =
      let ran = session.held.ran in
      let start = at_first old session.names in
      let before = all_last stays_last (map done ran.steps) start ran.mid (deeds_done ran.steps start ran.mid ran.does) in
      let same : session.last.client.inlet ≡ new.inlet = ap (λ (d : Devices Origin). d.inlet) session.leaves in
      alone_by ending old new ran.mid.client session.last.client (held_alone rows first old new ending session keeps) (session_caused session) before.client.source.idles same
      (λ none. subst (λ (s : SourceView). TookMost old.inlet s) same (took_most session none))

  -- where it ends as spent, none is left, and where none is left, it does
  spent_exactly : (rows : PlaceTable (acts Origin) P) (first : Row (acts Origin) P) (old new : Devices Origin) (ending : Ending) (session : Session rows first old new ending) → KeepsServerless rows first
      → is_spent_ending ending ≡ (length (session_stays session).client.source.bytes == most_taken)
  spent_exactly rows first old new ending session keeps =
      let source = (session_stays session).client.source in
      let room = source.room in
      let alone = held_alone rows first old new ending session keeps in
      both_ways (is_spent_ending ending) (length source.bytes == most_taken)
      (λ spent. let none = spent_room ending session.held.ran.mid.client session.last.client alone spent in same_tells (length source.bytes) most_taken (omega (arith, none, room)))
      (λ whole. all_spent session (eqb-true (length source.bytes) most_taken whole))

  pub session_exact : (rows : PlaceTable (acts Origin) P) (first : Row (acts Origin) P) (old new : Devices Origin) (ending : Ending) → Session rows first old new ending → KeepsServerless rows first → TakesExactly ending old new
  session_exact rows first old new ending session keeps =
      let source = (session_stays session).client.source in
      let room = source.room in
      subst (λ (d : Devices Origin). TakesExactly ending old d) session.leaves (record {
        took = record { bytes = source.bytes; most = omega (arith, room); grew = source.grew; is = source.took };
        all = spent_exactly rows first old new ending session keeps;
      })
