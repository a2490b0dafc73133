-- A session that speaks with no server is idle only since its client was, which waited then as long as it was to.
use Rattle.std.proofs.Common.{arith, ◌≡◌, ◌≤◌, ◌∙◌, sym, ap, subst, ℕ, List, true, map}
use Rattle.std.specs.Prelude.{Option, Some, None, Result, Ok, Err}
use Rattle.auth_events.specs.declared.port.PortFault.{PortFault}
use Rattle.auth_events.specs.declared.port.PortFault.TheVariants as faults
use Rattle.auth_events.specs.declared.reply.Reply.{Reply}
use Rattle.fw_acts.specs.Acts.{Row, PlaceTable}
use Rattle.fw_acts.specs.Acts.Row.{Over}
use Rattle.fw_acts.specs.Histories.{Leaves}
use Rattle.fw_acts.specs.Ran.{Comes}
use Rattle.fw_acts.proofs.HistoryLemmas.{next_may, run_leaves}
use Rattle.fw_acts.proofs.RanLemmas.{stopped}
use Rattle.fw_outside.specs.SourceView.{SourceView}
use Rattle.fw_outside.specs.declared.heard.Heard.TheVariants.{Stopped}
use Rattle.fw_outside.specs.declared.heard.Stop.TheVariants as stops
use Rattle.fw_types.specs.declared.ending.Ending.{Ending}
use Rattle.fw_types.specs.declared.ending.Ending.TheVariants as endings
use Rattle.session_acts.specs.Acts.{Act, Halt, Undeposited, cause_by, deposit_cause, fault_cause, silence_cause}
use Rattle.session_acts.specs.Acts.Act.{Hear, Say, Try, Log, Note, Ask, Renew, Dial, Reach, Take, Pass, HangUp, Relay, Deposit, Allot, TakeReply, OpenDoor, Join, Copy, Part}
use Rattle.session_acts.specs.Acts.Undeposited.{Lacks, Unsaid, Unheard}
use Rattle.session_acts.specs.Deeds.{done}
use Rattle.session_acts.specs.Met.{AtClientDeposit, DrawsAfter, Hears, Heeds, Met, acts, stop_of}
use Rattle.session_acts.specs.Serverless.{KeepsServerless, is_serverless, serverless_watch}
use Rattle.session_acts.specs.Session.{Session, ending_by, ending_of}
use Rattle.session_acts.specs.World.{Devices, Speaker, World, at_first}
use Rattle.session_acts.specs.declared.cause.Cause.{Cause}
use Rattle.session_acts.specs.declared.cause.Cause.TheVariants as causes
use Rattle.session_acts.specs.declared.form.Form.{Form}
use Rattle.session_acts.specs.declared.silence.Silence.{Silence}
use Rattle.session_acts.specs.declared.silence.Silence.TheVariants.{Quiet, Broken, Limit}
use Rattle.session_acts.proofs.CauseLemmas.{WasIdle, idled, session_stays}
use Rattle.session_acts.proofs.DeedLemmas.{all_last, deeds_done}
use Rattle.session_acts.proofs.DeviceLemmas.{halted_idles, halted_waited, rose_within}
use Rattle.session_acts.proofs.SpentLemmas.{owed_client}
use Rattle.session_acts.proofs.StaysLemmas.{stays_last}
use Rattle.client_service.specs.Conn.{WaitsAlone}

-- what a stop says of the client, by how the session ends
abbrev QuietBy : Ending → Speaker → Speaker → Type 0
QuietBy endings.Idle old new = WasIdle old.inlet new.inlet
QuietBy ending old new = Unit {0}

waited_so : (form : Form) (old new : Speaker) → Heeds form (Stopped stops.Idle) old new → new.inlet.waited ≡ new.inlet.waits
waited_so form old new h = subst (λ (s : Speaker). s.inlet.waited ≡ s.inlet.waits) (sym h.is) (halted_waited h.listens.middle h.inlet h.listens.closes.1)

hear_quiet : (form : Form) (silence : Silence) (old new : Speaker) → Hears form (Err silence) old new → QuietBy (ending_by (silence_cause causes.ClientFault silence)) old new
hear_quiet form Quiet old new h = record { rose = idled form old new h; waited = waited_so form old new h }
hear_quiet form Broken old new h = tt
hear_quiet form Limit old new h = tt

-- a client that was idle within the data of a mail
drew_idle : (words data_heard : List ℕ) (old new : Speaker) → DrawsAfter words (Some stops.Idle) data_heard old new → WasIdle old.inlet new.inlet
drew_idle words data_heard old new h =
    let draws = h.draws in
    let same : h.middle.inlet ≡ old.inlet = ap (λ (s : Speaker). s.inlet) h.told.is in
    let was : WasIdle h.middle.inlet new.inlet =
    subst (λ (s : Speaker). WasIdle h.middle.inlet s.inlet) (sym draws.is)
    (record { rose = halted_idles draws.reads.taken_now h.middle.inlet draws.middle draws.inlet draws.reads.takes draws.closes.1; waited = halted_waited draws.middle draws.inlet draws.closes.1 }) in
    subst (λ (s : SourceView). WasIdle s new.inlet) same was

data_quiet : (words data_heard : List ℕ) (silence : Silence) (old new : Speaker) → DrawsAfter words (Some (stop_of silence)) data_heard old new → QuietBy (ending_by (silence_cause causes.ClientFault silence)) old new
data_quiet words data_heard Quiet old new h = drew_idle words data_heard old new h
data_quiet words data_heard Broken old new h = tt
data_quiet words data_heard Limit old new h = tt

deposit_quiet : (words : List ℕ) (halt : Undeposited words) (old new : Speaker) → AtClientDeposit words (Err halt) old new → QuietBy (ending_by (deposit_cause halt)) old new
deposit_quiet words Lacks old new h = tt
deposit_quiet words (Unsaid front) old new h = tt
deposit_quiet words (Unheard silence data_heard) old new h = data_quiet words data_heard silence old new h

fault_quiet : (fault : PortFault) (old new : Speaker) → QuietBy (ending_by (fault_cause fault)) old new
fault_quiet faults.NoMemory old new = tt
fault_quiet faults.Link old new = tt
fault_quiet faults.Strange old new = tt

stop_quiet : {Origin : Type 0} (act : Act) (halt : Halt act) (old new : World Origin) → is_serverless act ≡ true → Met act (Err halt) old new → QuietBy (ending_by (cause_by act halt)) old.client new.client
stop_quiet (Hear form) halt old new is met = hear_quiet form halt old.client new.client met.client
stop_quiet (Say text) halt old new is met = tt
stop_quiet (Try text) halt old new is met = absurd halt
stop_quiet (Log text) halt old new is met = tt
stop_quiet (Note text) halt old new is met = absurd halt
stop_quiet (Ask request) halt old new is met = fault_quiet halt old.client new.client
stop_quiet (Renew name hash) halt old new is met = fault_quiet halt.1 old.client new.client
stop_quiet (Dial dest) halt old new is met = absurd (cc)
stop_quiet (Reach dest) halt old new is met = absurd (cc)
stop_quiet Take halt old new is met = absurd (cc)
stop_quiet (Pass text) halt old new is met = absurd (cc)
stop_quiet HangUp halt old new is met = absurd (cc)
stop_quiet Relay halt old new is met = absurd (cc)
stop_quiet (Deposit sender rcpts words most) halt old new is met = deposit_quiet words halt old.client new.client met.client
stop_quiet Allot halt old new is met = tt
stop_quiet (TakeReply how) halt old new is met = absurd (cc)
stop_quiet OpenDoor halt old new is met = absurd halt
stop_quiet (Join dest target) halt old new is met = absurd halt
stop_quiet (Copy toward) halt old new is met = absurd halt
stop_quiet Part halt old new is met = absurd halt

waits_by : (ending : Ending) (old new : SourceView) (before last : Speaker) → QuietBy ending before last → old.idles ≤ before.inlet.idles → last.inlet.waits ≡ old.waits → last.inlet ≡ new → WaitsAlone ending old new
waits_by endings.Idle old new before last h least waits same =
    subst (λ (s : SourceView). WaitsAlone endings.Idle old s) same (record {
      rose = rose_within old.idles before.inlet.idles last.inlet.idles last.inlet.idles least h.rose (omega (arith));
      waited = h.waited ∙ waits;
    })
waits_by endings.Done old new before last h least waits same = tt
waits_by (endings.Denied line) old new before last h least waits same = tt
waits_by endings.ClientFault old new before last h least waits same = tt
waits_by endings.ServerFault old new before last h least waits same = tt
waits_by endings.LogFault old new before last h least waits same = tt
waits_by endings.AuthFault old new before last h least waits same = tt
waits_by endings.NoRoute old new before last h least waits same = tt
waits_by endings.Spent old new before last h least waits same = tt
waits_by endings.NoMemory old new before last h least waits same = tt

module _ {Origin P : Type 0} where
  dialogue_quiet : (rows : PlaceTable (acts Origin) P) (first left : Row (acts Origin) P) (dialogue : Result (Unit {0}) Cause) (before mid : World Origin) (opened : Option ℕ) (answer : Result Reply PortFault) → KeepsServerless rows first
      → Leaves (serverless_watch Origin P) left tt → Comes rows (λ (done : Unit {0}). Over) dialogue mid left before → QuietBy (ending_of dialogue opened answer) before.client mid.client
  dialogue_quiet rows first left (Ok done) before mid None answer keeps leaves comes = tt
  dialogue_quiet rows first left (Ok done) before mid (Some sid) (Ok reply) keeps leaves comes = tt
  dialogue_quiet rows first left (Ok done) before mid (Some sid) (Err fault) keeps leaves comes = fault_quiet fault before.client mid.client
  dialogue_quiet rows first left (Err cause) before mid opened answer keeps leaves comes =
      let here = stopped rows left cause before mid comes in
      let may : is_serverless here.act ≡ true = next_may rows (serverless_watch Origin P) keeps.goes_on left tt here.act leaves here.next in
      subst (λ (c : Cause). QuietBy (ending_by c) before.client mid.client) (sym here.why.is_cause) (stop_quiet here.act here.why.halt before mid may here.why.met)

  held_quiet : (rows : PlaceTable (acts Origin) P) (first : Row (acts Origin) P) (old new : Devices Origin) (ending : Ending) (session : Session rows first old new ending) → KeepsServerless rows first
      → QuietBy ending session.held.ran.mid.client session.last.client
  held_quiet rows first old new ending session keeps =
      let held = session.held in
      let ran = held.ran in
      let leaves = run_leaves rows (serverless_watch Origin P) keeps.goes_on first ran.left tt ran.steps keeps.begins ran.run in
      let quiet = dialogue_quiet rows first ran.left held.dialogue ran.mid held.mid held.mid.office.opened held.answer keeps leaves ran.comes in
      let same : session.last.client ≡ held.mid.client = owed_client held.mid session.last held.answer held.after in
      subst (λ (e : Ending). QuietBy e ran.mid.client session.last.client) (sym held.ends) (subst (λ (s : Speaker). QuietBy (ending_of held.dialogue held.mid.office.opened held.answer) ran.mid.client s) (sym same) quiet)

  pub session_waits : (rows : PlaceTable (acts Origin) P) (first : Row (acts Origin) P) (old new : Devices Origin) (ending : Ending) → Session rows first old new ending → KeepsServerless rows first → WaitsAlone ending old.inlet new.inlet
  session_waits rows first old new ending session keeps =
      let ran = session.held.ran in
      let start = at_first old session.names in
      let before = all_last stays_last (map done ran.steps) start ran.mid (deeds_done ran.steps start ran.mid ran.does) in
      let all = session_stays session in
      waits_by ending old.inlet new.inlet ran.mid.client session.last.client (held_quiet rows first old new ending session keeps) before.client.source.idles all.client.source.waits
      (ap (λ (d : Devices Origin). d.inlet) session.leaves)
