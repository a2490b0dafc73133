-- Over no link anything is given or taken where the rows keep quiet.
use Rattle.std.proofs.Common.{◌≡◌, refl, sym, ap, subst, ◌∙◌, ℕ, Bool, true, false, List, [], ◌∷◌, ◌++◌, map, Option, Some, None, Result, Ok, Err}
use Rattle.std.specs.List.{AllByRecursion}
use Rattle.std.specs.Prelude.{is_none}
use Rattle.auth_events.specs.declared.port.PortFault.{PortFault}
use Rattle.auth_events.specs.declared.reply.Reply.{Reply}
use Rattle.fw_acts.specs.Acts.{Row, Step, PlaceTable}
use Rattle.fw_acts.specs.Acts.Row.{Do, At, Over}
use Rattle.fw_acts.specs.Histories.{AllMay, Leaves}
use Rattle.fw_acts.specs.Ran.{Comes, Ran}
use Rattle.fw_acts.proofs.HistoryLemmas.{run_leaves, run_may}
use Rattle.fw_outside.specs.DialerView.{ComesUp, DialerView, LinkView}
use Rattle.fw_outside.specs.SinkView.{SinkView}
use Rattle.fw_outside.specs.SourceView.{SourceView}
use Rattle.fw_outside.specs.ToldList.{IsOver}
use Rattle.fw_outside.specs.declared.ask.Ask as asks
use Rattle.session_acts.specs.Acts.{Act, Outcome}
use Rattle.session_acts.specs.Acts.Act.{Hear, Say, Try, Log, Note, Ask, Renew, Dial, Reach, Take, Pass, HangUp, Relay, Deposit, Allot, TakeReply, OpenDoor, Join, Copy, Part}
use Rattle.session_acts.specs.Deeds.{Deed, DeedsAll, deed_last, deeds_ran, done}
use Rattle.session_acts.specs.Met.{Met, ServerRelays, acts}
use Rattle.session_acts.specs.Passing.{AreOver, hung_by, over_each, over_last, paired_after, paired_last, up_if_dialed, up_if_reached}
use Rattle.session_acts.specs.RelayFronts.{KeepsQuiet, OverLink, before_relay, flow_by, flow_in, is_quiet, quiet_watch, unless_relay}
use Rattle.session_acts.specs.Relaying.{Flow, flow_of}
use Rattle.session_acts.specs.Session.{closing, freeing, owed}
use Rattle.session_acts.specs.World.{Pair, Server, Speaker, World, unheard}
use Rattle.session_acts.specs.declared.cause.Cause.{Cause}
use Rattle.session_acts.proofs.OverLinksLemmas.{Holds, Known_of, PairHolds, Step as LinkStep, Tale, dial_step, hang_step, same_step, steps_both}
use Rattle.session_acts.proofs.PassingLemmas.{new_given}
use Rattle.session_acts.proofs.ServersHeardLemmas.{none_taken}

-- ---- quiet deeds

abbrev pub AllQuiet : List Deed → Type 0
AllQuiet deeds = AllByRecursion (λ (deed : Deed). is_quiet deed.act ≡ true) deeds

pub quiet_both : (first more : List Deed) → AllQuiet first → AllQuiet more → AllQuiet (first ++ more)
quiet_both [] more a b = b
quiet_both (deed ∷ first) more a b = (a.0, quiet_both first more a.1 b)

quiet_closing : (opened : Option ℕ) (answer : Result Reply PortFault) → AllQuiet (closing opened answer)
quiet_closing None answer = tt
quiet_closing (Some sid) answer = (refl, tt)

quiet_freeing : (link : Option Speaker) → AllQuiet (freeing link)
quiet_freeing None = tt
quiet_freeing (Some link) = (refl, tt)

-- what is owed keeps quiet
pub quiet_owed : {Origin : Type 0} (world : World Origin) (answer : Result Reply PortFault) → AllQuiet (owed world answer)
quiet_owed world answer =
    quiet_both (freeing world.server.link) (closing world.office.opened answer) (quiet_freeing world.server.link) (quiet_closing world.office.opened answer)

module _ {Origin : Type 0} where
  quiet_done : (P : Type 0) (steps : List (Step (acts Origin))) → AllMay (quiet_watch Origin P) tt steps → AllQuiet (map done steps)
  quiet_done P [] may = tt
  quiet_done P (step ∷ steps) may = (may.0, quiet_done P steps may.1)

  quiet_last : {P : Type 0} (rows : PlaceTable (acts Origin) P) (first : Row (acts Origin) P) (dialogue : Result (Unit {0}) Cause) (left : Row (acts Origin) P) (mid new : World Origin) → KeepsQuiet rows first
      → Leaves (quiet_watch Origin P) left tt → (comes : Comes rows (λ (over : Unit {0}). Over) dialogue new left mid) → AllQuiet (deed_last rows (λ (over : Unit {0}). Over) dialogue new left mid comes)
  quiet_last rows first (Ok over) left mid new keeps leaves comes = tt
  quiet_last rows first (Err cause) (Do act go) mid new keeps leaves comes = (leaves.0, tt)
  quiet_last rows first (Err cause) (At place) mid new keeps leaves comes = ((keeps.goes_on place tt tt).0, tt)
  quiet_last rows first (Err cause) Over mid new keeps leaves comes = tt

  -- a run of such rows does nothing else
  pub ran_quiet : {P : Type 0} (rows : PlaceTable (acts Origin) P) (first : Row (acts Origin) P) (old new : World Origin) (dialogue : Result (Unit {0}) Cause) → KeepsQuiet rows first → (ran : Ran rows first (λ (over : Unit {0}). Over) old new dialogue) → AllQuiet (deeds_ran ran)
  ran_quiet {P} rows first old new dialogue keeps ran =
      let leaves = run_leaves rows (quiet_watch Origin P) keeps.goes_on first ran.left tt ran.steps keeps.begins ran.run in
      let may = run_may rows (quiet_watch Origin P) keeps.goes_on first ran.left tt ran.steps keeps.begins ran.run in
      quiet_both (map done ran.steps) (deed_last rows (λ (over : Unit {0}). Over) dialogue new ran.left ran.mid ran.comes) (quiet_done P ran.steps may) (quiet_last rows first dialogue ran.left ran.mid new keeps leaves ran.comes)

-- ---- before a relay

flow_on : (act : Act) (outcome : Outcome act) (later : Option Flow) → is_quiet act ≡ true → flow_by act outcome later ≡ later
flow_on (Hear form) outcome later is = refl
flow_on (Say text) outcome later is = refl
flow_on (Try text) outcome later is = refl
flow_on (Log text) outcome later is = refl
flow_on (Deposit sender rcpts words most) outcome later is = refl
flow_on Allot outcome later is = refl
flow_on (TakeReply how) outcome later is = absurd (cc)
flow_on OpenDoor outcome later is = absurd (cc)
flow_on (Join dest target) outcome later is = absurd (cc)
flow_on (Copy toward) outcome later is = absurd (cc)
flow_on Part outcome later is = absurd (cc)
flow_on (Note text) outcome later is = refl
flow_on (Ask request) outcome later is = refl
flow_on (Renew name hash) outcome later is = refl
flow_on (Dial dest) outcome later is = refl
flow_on (Reach dest) outcome later is = refl
flow_on Take outcome later is = absurd (cc)
flow_on (Pass text) outcome later is = absurd (cc)
flow_on HangUp outcome later is = refl
flow_on Relay outcome later is = absurd (cc)

-- behind deeds that keep quiet
pub flow_behind : (talk more : List Deed) → AllQuiet talk → flow_in (talk ++ more) ≡ flow_in more
flow_behind [] more quiet = refl
flow_behind (deed ∷ talk) more quiet = flow_on deed.act deed.outcome (flow_in (talk ++ more)) quiet.0 ∙ flow_behind talk more quiet.1

pub flow_none : (deeds : List Deed) → AllQuiet deeds → flow_in deeds ≡ None
flow_none [] quiet = refl
flow_none (deed ∷ deeds) quiet = flow_on deed.act deed.outcome (flow_in deeds) quiet.0 ∙ flow_none deeds quiet.1

talk_on : (act : Act) (deeds : List Deed) → is_quiet act ≡ true → unless_relay act deeds ≡ deeds
talk_on (Hear form) deeds is = refl
talk_on (Say text) deeds is = refl
talk_on (Try text) deeds is = refl
talk_on (Log text) deeds is = refl
talk_on (Deposit sender rcpts words most) deeds is = refl
talk_on Allot deeds is = refl
talk_on (TakeReply how) deeds is = absurd (cc)
talk_on OpenDoor deeds is = absurd (cc)
talk_on (Join dest target) deeds is = absurd (cc)
talk_on (Copy toward) deeds is = absurd (cc)
talk_on Part deeds is = absurd (cc)
talk_on (Note text) deeds is = refl
talk_on (Ask request) deeds is = refl
talk_on (Renew name hash) deeds is = refl
talk_on (Dial dest) deeds is = refl
talk_on (Reach dest) deeds is = refl
talk_on Take deeds is = absurd (cc)
talk_on (Pass text) deeds is = absurd (cc)
talk_on HangUp deeds is = refl
talk_on Relay deeds is = absurd (cc)

pub talk_before : (talk : List Deed) (outcome : Outcome Relay) (more : List Deed) → AllQuiet talk → before_relay (talk ++ record { act = Relay; outcome = outcome } ∷ more) ≡ talk
talk_before [] outcome more quiet = refl
talk_before (deed ∷ talk) outcome more quiet =
    talk_on deed.act (deed ∷ before_relay (talk ++ record { act = Relay; outcome = outcome } ∷ more)) quiet.0 ∙ ap (λ (z : List Deed). deed ∷ z) (talk_before talk outcome more quiet.1)

-- ---- deeds that use no link

abbrev pub is_idle : (act : Act) → Outcome act → Bool
is_idle Take outcome = false
is_idle (Pass text) outcome = false
is_idle Relay outcome = is_none (flow_of outcome)
is_idle (TakeReply how) outcome = false
is_idle OpenDoor outcome = false
is_idle (Join dest target) outcome = false
is_idle (Copy toward) outcome = false
is_idle Part outcome = false
is_idle act outcome = true

abbrev pub AllIdle : List Deed → Type 0
AllIdle deeds = AllByRecursion (λ (deed : Deed). is_idle deed.act deed.outcome ≡ true) deeds

idle_by : (act : Act) (outcome : Outcome act) → is_quiet act ≡ true → is_idle act outcome ≡ true
idle_by (Hear form) outcome is = refl
idle_by (Say text) outcome is = refl
idle_by (Try text) outcome is = refl
idle_by (Log text) outcome is = refl
idle_by (Deposit sender rcpts words most) outcome is = refl
idle_by Allot outcome is = refl
idle_by (TakeReply how) outcome is = absurd (cc)
idle_by OpenDoor outcome is = absurd (cc)
idle_by (Join dest target) outcome is = absurd (cc)
idle_by (Copy toward) outcome is = absurd (cc)
idle_by Part outcome is = absurd (cc)
idle_by (Note text) outcome is = refl
idle_by (Ask request) outcome is = refl
idle_by (Renew name hash) outcome is = refl
idle_by (Dial dest) outcome is = refl
idle_by (Reach dest) outcome is = refl
idle_by Take outcome is = absurd (cc)
idle_by (Pass text) outcome is = absurd (cc)
idle_by HangUp outcome is = refl
idle_by Relay outcome is = absurd (cc)

pub quiet_idle : (deeds : List Deed) → AllQuiet deeds → AllIdle deeds
quiet_idle [] quiet = tt
quiet_idle (deed ∷ deeds) quiet = (idle_by deed.act deed.outcome quiet.0, quiet_idle deeds quiet.1)

pub idle_both : (first more : List Deed) → AllIdle first → AllIdle more → AllIdle (first ++ more)
idle_both [] more a b = b
idle_both (deed ∷ first) more a b = (a.0, idle_both first more a.1 b)

-- they bring no data links up
stays_unpaired : (act : Act) (outcome : Outcome act) → is_idle act outcome ≡ true → paired_after act outcome false ≡ false
stays_unpaired (Hear form) outcome is = refl
stays_unpaired (Say text) outcome is = refl
stays_unpaired (Try text) outcome is = refl
stays_unpaired (Log text) outcome is = refl
stays_unpaired (Deposit sender rcpts words most) outcome is = refl
stays_unpaired Allot outcome is = refl
stays_unpaired (Note text) outcome is = refl
stays_unpaired (Ask request) outcome is = refl
stays_unpaired (Renew name hash) outcome is = refl
stays_unpaired (Dial dest) outcome is = refl
stays_unpaired (Reach dest) outcome is = refl
stays_unpaired HangUp outcome is = refl
stays_unpaired Relay outcome is = refl
stays_unpaired Take outcome is = absurd (cc)
stays_unpaired (Pass text) outcome is = absurd (cc)
stays_unpaired (TakeReply how) outcome is = absurd (cc)
stays_unpaired OpenDoor outcome is = absurd (cc)
stays_unpaired (Join dest target) outcome is = absurd (cc)
stays_unpaired (Copy toward) outcome is = absurd (cc)
stays_unpaired Part outcome is = absurd (cc)

pub idle_unpaired : (deeds : List Deed) → AllIdle deeds → paired_last false deeds ≡ false
idle_unpaired [] idle = refl
idle_unpaired (deed ∷ deeds) idle = ap (λ (b : Bool). paired_last b deeds) (stays_unpaired deed.act deed.outcome idle.0) ∙ idle_unpaired deeds idle.1

pub unpaired : (pair : Option Pair) → PairHolds false pair → pair ≡ None
unpaired None holds = refl
unpaired (Some pair) holds = absurd holds

-- ---- links over which nothing is given or taken

pub record IsUnused (link : Speaker) : Type 0 where
  pub given : IsOver link.outlet.given
  pub taken : IsOver link.inlet.taken
  pub pending : link.reader.pending ≡ []

pub came_unused : (ask : asks.Ask) (inlet : SourceView) (outlet : SinkView) (old new : DialerView) → ComesUp ask inlet outlet old new → IsUnused (record { inlet = inlet; reader = unheard; outlet = outlet })
came_unused ask inlet outlet old new up = record {
  given = up.new_sink.given;
  taken = subst (λ (s : SourceView). IsOver s.taken) (sym up.new_source) (none_taken up.left);
  pending = refl;
}

abbrev pub unused : Tale (Unit {0})
unused = record {
  IsUp = λ known link. IsUnused link;
  WasUp = λ known link. OverLink [] [] link;
  begins = came_unused;
  ends = λ known link is. (new_given link.outlet.given is.given, new_given link.inlet.taken is.taken);
  beside = λ toward way. ([], []);
  unused = λ link is. (new_given link.to.given is.given, new_given link.from.taken is.taken);
}

pub all_unused : (knowns : List (List (Unit {0}))) (links : List LinkView) → AreOver unused.WasUp knowns links → AllByRecursion (OverLink [] []) links
all_unused [] [] over = tt
all_unused [] (link ∷ links) over = absurd over
all_unused (known ∷ knowns) [] over = absurd over
all_unused (known ∷ knowns) (link ∷ links) over = (over.0, all_unused knowns links over.1)

pub still_unused : (up : Option (List (Unit {0}))) (link : Speaker) → Holds unused up (Some link) → IsUnused link
still_unused None link holds = absurd holds
still_unused (Some known) link holds = holds

-- a link that is up after an act
abbrev pub up_then : (act : Act) → Outcome act → Option (List (Unit {0})) → Option (List (Unit {0}))
up_then (Dial dest) outcome up = up_if_dialed outcome
up_then (Reach dest) outcome up = up_if_reached outcome
up_then HangUp outcome up = None
up_then act outcome up = up

abbrev UnusedStep : List (List (Unit {0})) → Option (List (Unit {0})) → Bool → Server → Server → Type 0
UnusedStep knowns up paired old new = LinkStep unused knowns up paired old new

relay_unused : (up : Option (List (Unit {0}))) (paired : Bool) (flow : Option Flow) (link : Option Speaker) (old new : Server) → is_none flow ≡ true → Holds unused up old.link → PairHolds paired old.pair → ServerRelays flow link old new → UnusedStep [] up paired old new
relay_unused up paired (Some flow) link old new is holds pairs h = absurd (cc)
relay_unused up paired None None old new is holds pairs h = same_step unused up paired old new holds pairs h
relay_unused up paired None (Some link) old new is holds pairs h = absurd h

module _ {Origin : Type 0} where
  idle_step : (act : Act) (outcome : Outcome act) (up : Option (List (Unit {0}))) (paired : Bool) (old new : World Origin) → is_idle act outcome ≡ true → Met act outcome old new → Holds unused up old.server.link → PairHolds paired old.server.pair
      → UnusedStep (hung_by unused.beside act outcome up paired) (up_then act outcome up) (paired_after act outcome paired) old.server new.server
  idle_step (Dial dest) (Ok true) up paired old new is met holds pairs = dial_step unused up paired true dest old.server new.server holds pairs met.server
  idle_step (Dial dest) (Ok false) up paired old new is met holds pairs = dial_step unused up paired false dest old.server new.server holds pairs met.server
  idle_step (Dial dest) (Err never) up paired old new is met holds pairs = absurd never
  idle_step (Reach dest) (Ok reached) up paired old new is met holds pairs = dial_step unused up paired true dest old.server new.server holds pairs met.server
  idle_step (Reach dest) (Err halt) up paired old new is met holds pairs = dial_step unused up paired false dest old.server new.server holds pairs met.server
  idle_step Take outcome up paired old new is met holds pairs = absurd (cc)
  idle_step (Pass text) outcome up paired old new is met holds pairs = absurd (cc)
  idle_step HangUp (Ok hung) up paired old new is met holds pairs = hang_step unused up paired old.server new.server holds pairs met.server
  idle_step HangUp (Err never) up paired old new is met holds pairs = absurd never
  idle_step Relay outcome up paired old new is met holds pairs = relay_unused up paired (flow_of outcome) old.server.link old.server new.server is holds pairs met.server
  idle_step (Hear form) outcome up paired old new is met holds pairs = same_step unused up paired old.server new.server holds pairs met.server
  idle_step (Say text) outcome up paired old new is met holds pairs = same_step unused up paired old.server new.server holds pairs met.server
  idle_step (Try text) outcome up paired old new is met holds pairs = same_step unused up paired old.server new.server holds pairs met.server
  idle_step (Log text) outcome up paired old new is met holds pairs = same_step unused up paired old.server new.server holds pairs met.server
  idle_step (Deposit sender rcpts words most) outcome up paired old new is met holds pairs = same_step unused up paired old.server new.server holds pairs met.server
  idle_step Allot outcome up paired old new is met holds pairs = same_step unused up paired old.server new.server holds pairs met.server
  idle_step (TakeReply how) outcome up paired old new is met holds pairs = absurd (cc)
  idle_step OpenDoor outcome up paired old new is met holds pairs = absurd (cc)
  idle_step (Join dest target) outcome up paired old new is met holds pairs = absurd (cc)
  idle_step (Copy toward) outcome up paired old new is met holds pairs = absurd (cc)
  idle_step Part outcome up paired old new is met holds pairs = absurd (cc)
  idle_step (Note text) outcome up paired old new is met holds pairs = same_step unused up paired old.server new.server holds pairs met.server
  idle_step (Ask request) outcome up paired old new is met holds pairs = same_step unused up paired old.server new.server holds pairs met.server
  idle_step (Renew name hash) outcome up paired old new is met holds pairs = same_step unused up paired old.server new.server holds pairs met.server

  pub idle_steps : (deeds : List Deed) (up : Option (List (Unit {0}))) (paired : Bool) (old new : World Origin) → AllIdle deeds → DeedsAll deeds old new → Holds unused up old.server.link → PairHolds paired old.server.pair
      → UnusedStep (over_each (Known_of unused up_then) up paired deeds) (over_last up_then up deeds) (paired_last paired deeds) old.server new.server
  idle_steps [] up paired old new idle all holds pairs = same_step unused up paired old.server new.server holds pairs (sym (ap (λ (w : World Origin). w.server) all))
  idle_steps (deed ∷ deeds) up paired old new idle all holds pairs =
      let step = idle_step deed.act deed.outcome up paired old all.0 idle.0 all.1 holds pairs in
      let later = up_then deed.act deed.outcome up in
      let left = paired_after deed.act deed.outcome paired in
      let rest = idle_steps deeds later left all.0 new idle.1 all.2 step.holds step.pairs in
      steps_both unused (hung_by unused.beside deed.act deed.outcome up paired) (over_each (Known_of unused up_then) later left deeds) later (over_last up_then later deeds) left (paired_last left deeds) old.server all.0.server new.server step rest

-- ---- what is logged before

-- a line that is logged before keeps quiet
pub logged_quiet : {Origin P : Type 0} {rows : PlaceTable (acts Origin) P} {first : Row (acts Origin) P} (line : List ℕ) → KeepsQuiet rows first → KeepsQuiet rows (Do (Log line) (λ done. first))
logged_quiet line keeps = record { begins = (refl, λ done. keeps.begins); goes_on = keeps.goes_on }
