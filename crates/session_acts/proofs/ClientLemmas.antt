-- A session before which a line is logged: the log fails, and nothing else is done, or the session goes on.
use Rattle.std.proofs.Common.{◌≡◌, refl, sym, ap, subst, ◌∙◌, ℕ, Bool, List, [], ◌∷◌, ◌++◌, map, ◌⊎◌, inl, inr, Option, None, Result, Ok, Err}
use Rattle.auth_events.specs.declared.port.PortFault.{PortFault}
use Rattle.auth_events.specs.declared.reply.Reply.{Reply}
use Rattle.fw_acts.specs.Acts.{Row, Step, PlaceTable}
use Rattle.fw_acts.specs.Acts.Row.{Do, Over}
use Rattle.fw_acts.specs.Ran.{Comes, Ran, StopsAt}
use Rattle.fw_acts.specs.Runs.{DoesAll, Run}
use Rattle.fw_outside.specs.SinkView.{SinkView}
use Rattle.fw_types.specs.declared.ending.Ending.{Ending}
use Rattle.fw_types.specs.declared.ending.Ending.TheVariants as endings
use Rattle.session_acts.specs.Acts.{Act, Front}
use Rattle.session_acts.specs.Acts.Act.{Log, Try}
use Rattle.session_acts.specs.Client.{Denies, GoesOn, LogFails, LogsFirst, line_logged, with_line}
use Rattle.session_acts.specs.Deeds.{Deed, DeedsAll, deed_last, deeds_ran, done, gives}
use Rattle.session_acts.specs.Denying.{denying_row, no_rows}
use Rattle.session_acts.specs.Laws.{logged}
use Rattle.session_acts.specs.Met.{Does, Gets, IsTold, Met, Stops, acts}
use Rattle.session_acts.specs.Session.{Held, Session, SessionAs, closing, deeds_of, ending_by, ending_of, freeing, owed}
use Rattle.session_acts.specs.World.{Devices, Names, Office, Server, Speaker, World, at_first, devices_of}
use Rattle.session_acts.specs.declared.cause.Cause.{Cause}
use Rattle.session_acts.proofs.DeedLemmas.{all_gain, held_deeds}
use Rattle.session_acts.proofs.ToldLemmas.{by_both, logged_gains}
use Rattle.spool_rack.specs.Store.{StoreView}

-- ---- one act first

-- a dialogue stopped at this act
pub record HaltsHere {Origin : Type 0} (act : Act) (old mid : World Origin) (dialogue : Result (Unit {0}) Cause) : Type 0 where
  pub cause : Cause
  pub is : dialogue ≡ Err cause
  pub stops : Stops act cause old mid

module _ {Origin P : Type 0} where
  -- or did it, and went on
  pub record PassesOn (rows : PlaceTable (acts Origin) P) (act : Act) (go : (acts Origin).Answer act → Row (acts Origin) P) (old mid : World Origin) (dialogue : Result (Unit {0}) Cause) (deeds : List Deed) : Type 0 where
    pub answer : (acts Origin).Answer act
    pub next : World Origin
    pub met : Met act (Ok answer) old next
    pub rest : Ran rows (go answer) (λ (done : Unit {0}). Over) next mid dialogue
    pub same : deeds ≡ record { act = act; outcome = Ok answer } ∷ deeds_ran rest

  stops_here : (rows : PlaceTable (acts Origin) P) (act : Act) (go : (acts Origin).Answer act → Row (acts Origin) P) (left : Row (acts Origin) P) (old before mid : World Origin) (dialogue : Result (Unit {0}) Cause)
      → Do act go ≡ left → old ≡ before → Comes rows (λ (done : Unit {0}). Over) dialogue mid left before → HaltsHere act old mid dialogue
  stops_here rows act go left old before mid (Ok over) is same comes = let clash : Do act go ≡ Over = is ∙ comes.0 in absurd (cc)
  stops_here rows act go left old before mid (Err cause) is same comes = record {
    cause = cause;
    is = refl;
    stops = subst (λ (w : World Origin). Stops act cause w mid) (sym same) (subst (λ (r : Row (acts Origin) P). StopsAt rows r cause before mid) (sym is) comes);
  }

  first_act : (rows : PlaceTable (acts Origin) P) (act : Act) (go : (acts Origin).Answer act → Row (acts Origin) P) (steps : List (Step (acts Origin))) (left : Row (acts Origin) P) (old before mid : World Origin) (dialogue : Result (Unit {0}) Cause)
      → Run rows (Do act go) steps left → DoesAll steps old before → (comes : Comes rows (λ (done : Unit {0}). Over) dialogue mid left before)
      → HaltsHere act old mid dialogue ⊎ PassesOn rows act go old mid dialogue (map done steps ++ deed_last rows (λ (done : Unit {0}). Over) dialogue mid left before comes)
  first_act rows act go [] left old before mid dialogue run does comes = inl (stops_here rows act go left old before mid dialogue run does comes)
  first_act rows act go (step ∷ steps) left old before mid dialogue run does comes = inr (record {
    answer = run.0;
    next = does.0;
    met = subst (λ (s : Step (acts Origin)). Does s.act s.answer old does.0) run.1 does.1;
    rest = record { steps = steps; left = left; mid = before; run = run.2; does = does.2; comes = comes };
    same = ap (λ (s : Step (acts Origin)). done s ∷ (map done steps ++ deed_last rows (λ (done : Unit {0}). Over) dialogue mid left before comes)) run.1;
  })

  pub ran_first : (rows : PlaceTable (acts Origin) P) (act : Act) (go : (acts Origin).Answer act → Row (acts Origin) P) (old mid : World Origin) (dialogue : Result (Unit {0}) Cause)
      (ran : Ran rows (Do act go) (λ (done : Unit {0}). Over) old mid dialogue) → HaltsHere act old mid dialogue ⊎ PassesOn rows act go old mid dialogue (deeds_ran ran)
  ran_first rows act go old mid dialogue ran = first_act rows act go ran.steps ran.left old ran.mid mid dialogue ran.run ran.does ran.comes

-- ---- worlds

-- a world by its parts
pub world_by : {Origin : Type 0} (w : World Origin) (client : Speaker) (logs : SinkView) (office : Office Origin) (server : Server) (store : StoreView) (names : Names)
    → w.client ≡ client → w.logs ≡ logs → w.office ≡ office → w.server ≡ server → w.store ≡ store → w.names ≡ names
    → w ≡ record { client = client; logs = logs; office = office; server = server; store = store; names = names }
world_by {Origin} w client logs office server store names c l o s m n =
    ap (λ (x : Speaker). record { client = x; logs = w.logs; office = w.office; server = w.server; store = w.store; names = w.names }) c
    ∙ ap (λ (x : SinkView). record { client = client; logs = x; office = w.office; server = w.server; store = w.store; names = w.names }) l
    ∙ ap (λ (x : Office Origin). record { client = client; logs = logs; office = x; server = w.server; store = w.store; names = w.names }) o
    ∙ ap (λ (x : Server). record { client = client; logs = logs; office = office; server = x; store = w.store; names = w.names }) s
    ∙ ap (λ (x : StoreView). record { client = client; logs = logs; office = office; server = server; store = x; names = w.names }) m
    ∙ ap (λ (x : Names). record { client = client; logs = logs; office = office; server = server; store = store; names = x }) n

-- where no session is open and no link is up, nothing is owed
pub nothing_owed : {Origin : Type 0} (mid new : World Origin) (answer : Result Reply PortFault) → mid.server.link ≡ None → mid.office.opened ≡ None → DeedsAll (owed mid answer) mid new → mid ≡ new
nothing_owed mid new answer unlinked closed all =
    subst (λ (o : Option ℕ). DeedsAll (closing o answer) mid new) closed (subst (λ (l : Option Speaker). DeedsAll (freeing l ++ closing mid.office.opened answer) mid new) unlinked all)

-- ---- the session

module _ {Origin P : Type 0} where
  log_failed : {relays : Bool} (line : List ℕ) (rows : PlaceTable (acts Origin) P) (go : Unit {0} → Row (acts Origin) P) (old new : Devices Origin) (ending : Ending) (session : SessionAs relays rows (Do (Log line) go) old new ending)
      → HaltsHere (Log line) (at_first old session.names) session.held.mid session.held.dialogue → LogFails line old new ending
  log_failed line rows go old new ending session h =
      let held = session.held in
      let met = h.stops.met in
      let start = at_first old session.names in
      let is = world_by held.mid start.client held.mid.logs start.office start.server start.store start.names met.client refl met.office met.server met.store met.names in
      let last = nothing_owed held.mid session.last held.answer (ap (λ (s : Server). s.link) met.server) (ap (λ (o : Office Origin). o.opened) met.office) held.after in
      let leaves : new ≡ record old { logs = held.mid.logs } = sym session.leaves ∙ ap devices_of (sym last) ∙ ap devices_of is in
      let logs : held.mid.logs ≡ new.logs = sym (ap (λ (d : Devices Origin). d.logs) leaves) in
      record {
        front = h.stops.halt;
        cut = record { count = met.logs.count; rose = met.logs.rose; is = sym logs ∙ met.logs.is };
        same = leaves ∙ ap (λ (l : SinkView). record old { logs = l }) logs;
        ends = held.ends ∙ ap (λ (d : Result (Unit {0}) Cause). ending_of d held.mid.office.opened held.answer) h.is ∙ ap ending_by h.stops.is_cause;
      }

  -- a session from another world which is the same
  record HeldFrom (rows : PlaceTable (acts Origin) P) (first : Row (acts Origin) P) (last : World Origin) (ending : Ending) (deeds : List Deed) (world : World Origin) : Type 0 where
    held : Held rows first world last ending
    same : deeds ≡ deeds_of held

  went_on : {relays : Bool} (line : List ℕ) (rows : PlaceTable (acts Origin) P) (first : Row (acts Origin) P) (old new : Devices Origin) (ending : Ending) (session : SessionAs relays rows (Do (Log line) (λ done. first)) old new ending)
      → PassesOn rows (Log line) (λ done. first) (at_first old session.names) session.held.mid session.held.dialogue (deeds_ran session.held.ran) → GoesOn line rows first old new ending session
  went_on line rows first old new ending session p =
      let held = session.held in
      let start = at_first (with_line line old) session.names in
      let is = world_by p.next start.client start.logs start.office start.server start.store start.names p.met.client p.met.logs p.met.office p.met.server p.met.store p.met.names in
      let rest : Held rows first p.next session.last ending = record { dialogue = held.dialogue; mid = held.mid; ran = p.rest; answer = held.answer; after = held.after; ends = held.ends } in
      let from : HeldFrom rows first session.last ending (deeds_of rest) start = subst (λ (w : World Origin). HeldFrom rows first session.last ending (deeds_of rest) w) is (record { held = rest; same = refl }) in
      let log = all_gain logged_gains (deeds_of from.held) start session.last (held_deeds from.held) in
      record {
        rest = record { names = session.names; lent = session.lent; last = session.last; held = from.held; leaves = session.leaves };
        deeds = ap (λ (l : List Deed). l ++ owed held.mid held.answer) p.same ∙ ap (λ (l : List Deed). line_logged line ∷ l) from.same;
        more = gives logged (deeds_of from.held);
        log = sym (ap (λ (d : Devices Origin). d.logs.given) session.leaves) ∙ log ∙ by_both old.logs.given line (gives logged (deeds_of from.held));
      }

  logs_first_by : {relays : Bool} (line : List ℕ) (rows : PlaceTable (acts Origin) P) (first : Row (acts Origin) P) (old new : Devices Origin) (ending : Ending) (session : SessionAs relays rows (Do (Log line) (λ done. first)) old new ending)
      → HaltsHere (Log line) (at_first old session.names) session.held.mid session.held.dialogue ⊎ PassesOn rows (Log line) (λ done. first) (at_first old session.names) session.held.mid session.held.dialogue (deeds_ran session.held.ran)
      → LogsFirst line rows first old new ending session
  logs_first_by line rows first old new ending session (inl h) = inl (log_failed line rows (λ done. first) old new ending session h)
  logs_first_by line rows first old new ending session (inr p) = inr (went_on line rows first old new ending session p)

  pub logs_first : {relays : Bool} (line : List ℕ) (rows : PlaceTable (acts Origin) P) (first : Row (acts Origin) P) (old new : Devices Origin) (ending : Ending) (session : SessionAs relays rows (Do (Log line) (λ done. first)) old new ending)
      → LogsFirst line rows first old new ending session
  logs_first line rows first old new ending session =
      logs_first_by line rows first old new ending session (ran_first rows (Log line) (λ done. first) (at_first old session.names) session.held.mid session.held.dialogue session.held.ran)

-- ---- a denied client

-- nothing was left to do
pub record IsOver {Origin : Type 0} (old mid : World Origin) (dialogue : Result (Unit {0}) Cause) : Type 0 where
  pub same : old ≡ mid
  pub is : dialogue ≡ Ok tt

-- the words were tried, and nothing else was done
record IsTried {Origin : Type 0} (words : List ℕ) (old new : Devices Origin) (ending : Ending) : Type 0 where
  tried : Result (Unit {0}) (Front words)
  gets : Gets words tried old.outlet new.outlet
  same : new ≡ record old { outlet = new.outlet }
  ends : ending ≡ endings.Done

module _ {Origin : Type 0} where
  over_comes : {P : Type 0} (rows : PlaceTable (acts Origin) P) (left : Row (acts Origin) P) (old before mid : World Origin) (dialogue : Result (Unit {0}) Cause)
      → Over ≡ left → old ≡ before → Comes rows (λ (done : Unit {0}). Over) dialogue mid left before → IsOver old mid dialogue
  over_comes rows left old before mid (Ok over) is same comes = record { same = same ∙ comes.1; is = refl }
  over_comes {P} rows left old before mid (Err cause) is same comes = absurd (subst (λ (r : Row (acts Origin) P). StopsAt rows r cause before mid) (sym is) comes)

  over_runs : {P : Type 0} (rows : PlaceTable (acts Origin) P) (steps : List (Step (acts Origin))) (left : Row (acts Origin) P) (old before mid : World Origin) (dialogue : Result (Unit {0}) Cause)
      → Run rows Over steps left → DoesAll steps old before → Comes rows (λ (done : Unit {0}). Over) dialogue mid left before → IsOver old mid dialogue
  over_runs rows [] left old before mid dialogue run does comes = over_comes rows left old before mid dialogue run does comes
  over_runs rows (step ∷ steps) left old before mid dialogue run does comes = absurd run

  pub over_ran : {P : Type 0} (rows : PlaceTable (acts Origin) P) (old mid : World Origin) (dialogue : Result (Unit {0}) Cause) → Ran rows Over (λ (done : Unit {0}). Over) old mid dialogue → IsOver old mid dialogue
  over_ran rows old mid dialogue ran = over_runs rows ran.steps ran.left old ran.mid mid dialogue ran.run ran.does ran.comes

  tried_by : (words : List ℕ) (old new : Devices Origin) (ending : Ending) (session : Session no_rows (Do (Try words) (λ tried. Over)) old new ending)
      → HaltsHere (Try words) (at_first old session.names) session.held.mid session.held.dialogue ⊎ PassesOn no_rows (Try words) (λ tried. Over) (at_first old session.names) session.held.mid session.held.dialogue (deeds_ran session.held.ran)
      → IsTried words old new ending
  tried_by words old new ending session (inl h) = absurd h.stops.halt
  tried_by words old new ending session (inr p) =
      let held = session.held in
      let start = at_first old session.names in
      let told : IsTold words p.answer start.client p.next.client = p.met.client in
      let is = world_by p.next (record (start.client) { outlet = told.outlet }) start.logs start.office start.server start.store start.names told.is p.met.logs p.met.office p.met.server p.met.store p.met.names in
      let over = over_ran no_rows p.next held.mid held.dialogue p.rest in
      let closed : held.mid.office.opened ≡ None = ap (λ (w : World Origin). w.office.opened) (sym over.same ∙ is) in
      let last = nothing_owed held.mid session.last held.answer (ap (λ (w : World Origin). w.server.link) (sym over.same ∙ is)) closed held.after in
      let leaves : new ≡ record old { outlet = told.outlet } = sym session.leaves ∙ ap devices_of (sym last ∙ sym over.same ∙ is) in
      let outlet : told.outlet ≡ new.outlet = sym (ap (λ (d : Devices Origin). d.outlet) leaves) in
      record {
        tried = p.answer;
        gets = subst (λ (s : SinkView). Gets words p.answer old.outlet s) outlet told.gets;
        same = leaves ∙ ap (λ (s : SinkView). record old { outlet = s }) outlet;
        ends = held.ends ∙ ap (λ (d : Result (Unit {0}) Cause). ending_of d held.mid.office.opened held.answer) over.is ∙ ap (λ (o : Option ℕ). ending_of (Ok tt) o held.answer) closed;
      }

  tries : (words : List ℕ) (old new : Devices Origin) (ending : Ending) → Session no_rows (Do (Try words) (λ tried. Over)) old new ending → IsTried words old new ending
  tries words old new ending session =
      tried_by words old new ending session (ran_first no_rows (Try words) (λ tried. Over) (at_first old session.names) session.held.mid session.held.dialogue session.held.ran)

  denied_by : (line words : List ℕ) (old new : Devices Origin) (ending : Ending) (session : Session no_rows (denying_row line words) old new ending)
      → LogsFirst line no_rows (Do (Try words) (λ tried. Over)) old new ending session → Denies line words old new ending
  denied_by line words old new ending session (inl fails) = inl fails
  denied_by line words old new ending session (inr on) =
      let t = tries words (with_line line old) new ending on.rest in
      inr (record { tried = t.tried; gets = t.gets; same = t.same; ends = t.ends })

  pub denies : (line words : List ℕ) (old new : Devices Origin) (ending : Ending) → Session no_rows (denying_row line words) old new ending → Denies line words old new ending
  denies line words old new ending session =
      denied_by line words old new ending session (logs_first line no_rows (Do (Try words) (λ tried. Over)) old new ending session)
