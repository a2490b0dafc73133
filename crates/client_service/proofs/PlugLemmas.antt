-- What a client of the plug comes to.
use Rattle.std.proofs.Common.{arith, ◌≡◌, ◌≢◌, ◌∙◌, refl, sym, ap, subst, append_assoc, ℕ, List, [], ◌∷◌, ◌++◌, inl, inr, ◌⊎◌}
use Rattle.std.specs.Prelude.{Option, Some, None, Result, Ok, Err}
use Rattle.std.proofs.lemmas.List.{append-nil}
use Rattle.fw_acts.specs.Acts.{Row, Step}
use Rattle.fw_acts.specs.Acts.Row.{Do, Over}
use Rattle.fw_acts.specs.Ran.{Comes, StopsAt}
use Rattle.fw_acts.specs.Runs.{DoesAll, Run}
use Rattle.fw_outside.specs.Counts.{Rose}
use Rattle.fw_outside.specs.DialerView.{DialerView}
use Rattle.fw_outside.specs.SinkView.{Gives, SinkView}
use Rattle.fw_outside.specs.ToldList.{grown}
use Rattle.fw_outside.specs.declared.failed.Failed.{Failed}
use Rattle.fw_outside.specs.declared.ask.Ask.TheVariants.{Main}
use Rattle.fw_types.specs.declared.dest.Dest.{Dest}
use Rattle.fw_types.specs.declared.ending.Ending.{Ending}
use Rattle.fw_types.specs.declared.ending.Ending.TheVariants as endings
use Rattle.fw_types.specs.declared.peer.Peer.{Peer}
use Rattle.gate_rules.specs.Reading.{RuleBook}
use Rattle.gate_rules.specs.declared.service.Service.TheVariants.{PlugGw}
use Rattle.gate_rules.specs.declared.verdict.Verdict.TheVariants.{Permit}
use Rattle.plug_gate.specs.Dialogue.{connect_text, plug_row}
use Rattle.plug_gate.specs.Laws.{Links}
use Rattle.plug_gate.proofs.PlugLemmas.{held_links}
use Rattle.session_acts.specs.Acts.{Front}
use Rattle.session_acts.specs.Acts.Act.{Log}
use Rattle.session_acts.specs.Causes.{Caused, LinkTookMost, TookMost}
use Rattle.session_acts.specs.Client.{LogFails, LogsFirst, with_line}
use Rattle.session_acts.specs.Deeds.{DeedsAll}
use Rattle.session_acts.specs.Denying.{no_rows}
use Rattle.session_acts.specs.Laws.{Adds}
use Rattle.session_acts.specs.Met.{acts}
use Rattle.session_acts.specs.Relayed.{relayed}
use Rattle.session_acts.specs.Session.{RelaySession, Session, ending_of, owed}
use Rattle.session_acts.specs.World.{Devices, World, at_first, devices_of}
use Rattle.session_acts.specs.declared.cause.Cause.{Cause}
use Rattle.session_acts.specs.declared.denying.NoPlace.{NoPlace}
use Rattle.session_acts.proofs.CauseLemmas.{session_caused}
use Rattle.session_acts.proofs.ClientLemmas.{logs_first}
use Rattle.session_acts.proofs.ToldLemmas.{by_both, by_nothing}
use Rattle.client_service.specs.Endings.{Noted, NotedIf}
use Rattle.client_service.specs.Decision.{decision_text}
use Rattle.client_service.specs.Meeting.{patient, silent_row, timeout_of}
use Rattle.client_service.specs.PlugService.{AsksLogged, CausedLinked, IsAsked, IsUnasked, LinksTo, plug_devices}
use Rattle.client_service.proofs.NoMemoryLemmas.{plug_remembers}

-- ---- a denial

-- nothing was left to do
record IsEnded {Origin : Type 0} (old mid : World Origin) (dialogue : Result (Unit {0}) Cause) : Type 0 where
  same : old ≡ mid
  is : dialogue ≡ Ok tt

-- the log was given the line, and nothing else was done
pub record IsLoggedAlone {Origin : Type 0} (line : List ℕ) (old new : Devices Origin) (ending : Ending) : Type 0 where
  pub same : new ≡ with_line line old
  pub ends : ending ≡ endings.Done

-- the log failed within the line, or has it; and that is all
abbrev pub LogsOnly : {Origin : Type 0} → List ℕ → Devices Origin → Devices Origin → Ending → Type 0
LogsOnly line old new ending = LogFails line old new ending ⊎ IsLoggedAlone line old new ending

module _ {Origin : Type 0} where
  abbrev ended : Unit {0} → Row (acts Origin) NoPlace
  ended done = Over

  over_ended : (steps : List (Step (acts Origin))) (left : Row (acts Origin) NoPlace) (old before mid : World Origin) (dialogue : Result (Unit {0}) Cause) → Run no_rows Over steps left → DoesAll steps old before → Comes no_rows ended dialogue mid left before
      → IsEnded old mid dialogue
  over_ended [] left old before mid (Ok end) run does comes = record { same = does ∙ comes.1; is = refl }
  over_ended [] left old before mid (Err cause) run does comes = absurd (subst (λ (r : Row (acts Origin) NoPlace). StopsAt no_rows r cause before mid) (sym run) comes)
  over_ended (step ∷ steps) left old before mid dialogue run does comes = absurd run

  nothing_done : (line : List ℕ) (old new : Devices Origin) (ending : Ending) → Session no_rows Over (with_line line old) new ending → IsLoggedAlone line old new ending
  nothing_done line old new ending session =
      let held = session.held in
      let start : World Origin = at_first (with_line line old) session.names in
      let e = over_ended held.ran.steps held.ran.left start held.ran.mid held.mid held.dialogue held.ran.run held.ran.does held.ran.comes in
      let after : start ≡ session.last = subst (λ (w : World Origin). DeedsAll (owed w held.answer) w session.last) (sym e.same) held.after in
      record {
        same = sym session.leaves ∙ ap devices_of (sym after);
        ends =
            held.ends ∙ ap (λ (d : Result (Unit {0}) Cause). ending_of d held.mid.office.opened held.answer) e.is
            ∙ ap (λ (w : World Origin). ending_of (Ok tt) w.office.opened held.answer) (sym e.same);
      }

  denied_so : (line : List ℕ) (old new : Devices Origin) (ending : Ending) (session : Session no_rows (silent_row line) old new ending) → LogsFirst line no_rows Over old new ending session → LogsOnly line old new ending
  denied_so line old new ending session (inl fails) = inl fails
  denied_so line old new ending session (inr on) = inr (nothing_done line old new ending on.rest)

  -- a client that is told nothing
  pub silent_denial : (line : List ℕ) (old new : Devices Origin) (ending : Ending) → Session no_rows (silent_row line) old new ending → LogsOnly line old new ending
  silent_denial line old new ending session = denied_so line old new ending session (logs_first line no_rows Over old new ending session)

-- ---- the two lines

-- what the log fails in is a front of both lines
connect_some : (at : ℕ) (peer : Peer) (dest : Dest) (line : ℕ) → connect_text at peer dest line ≢ []
connect_some at peer dest line is = absurd (cc)

none_behind : (first more : List ℕ) → first ++ more ≡ [] → more ≡ []
none_behind [] more is = is
none_behind (byte ∷ first) more is = absurd (cc)

-- a front of the first line is one of both
front_first : {first : List ℕ} (second : List ℕ) → second ≢ [] → Front first → Front (first ++ second)
front_first {first} second some front = record {
  part = front.part;
  rest = front.rest ++ second;
  cut = ap (λ (b : List ℕ). b ++ second) front.cut ∙ append_assoc front.part front.rest second;
  short = λ any none. some (none_behind front.rest second none);
}

-- and so is the first line with a front of the second
front_second : {second : List ℕ} (first : List ℕ) → second ≢ [] → Front second → Front (first ++ second)
front_second {second} first some front = record {
  part = first ++ front.part;
  rest = front.rest;
  cut = ap (λ (b : List ℕ). first ++ b) front.cut ∙ sym (append_assoc first front.part front.rest);
  short = λ any. front.short some;
}

pub adds_none : {A : Type 0} (told : Option (List A)) → Adds [] told told
adds_none None = tt
adds_none (Some all) = ap (λ (l : List _). Some l) (append-nil all)

module _ {Origin : Type 0} where
  -- what the log and the dialer were given behind both lines, or within them
  abbrev AsksBy : List ℕ → Dest → Ending → Devices Origin → Devices Origin → Type 0
  AsksBy lines dest ending old new = IsUnasked lines ending old new ⊎ IsAsked lines dest old new

  fails_unasked : (first second : List ℕ) (old new : Devices Origin) (ending : Ending) → second ≢ [] → LogFails first old new ending → IsUnasked (first ++ second) ending old new
  unfolding front_first
  fails_unasked first second old new ending some fails =
      let dialer : new.dialer ≡ old.dialer = ap (λ (d : Devices Origin). d.dialer) fails.same in
      record {
        ends = fails.ends;
        front = front_first second some fails.front;
        logs = ap (λ (s : SinkView). s.given) fails.cut.is;
        asked = subst (λ (d : DialerView). Adds [] old.dialer.asked d.asked) (sym dialer) (adds_none old.dialer.asked);
      }

  asked_by : (first second : List ℕ) (dest : Dest) (old new : Devices Origin) (last : World Origin) (ending : Ending) → second ≢ [] → devices_of last ≡ new → last.logs.given ≡ grown (grown old.logs.given first) second
      → Adds (Main dest ∷ []) old.dialer.asked last.server.dialer.asked → IsAsked (first ++ second) dest old new
  asked_by first second dest old new last ending some leaves logs asked = record {
    more = [];
    logs =
        sym (ap (λ (d : Devices Origin). d.logs.given) leaves) ∙ logs ∙ by_both old.logs.given first second
        ∙ ap (λ (b : List ℕ). grown old.logs.given b) (sym (append-nil (first ++ second)));
    asked = subst (λ (d : Devices Origin). Adds (Main dest ∷ []) old.dialer.asked d.dialer.asked) leaves asked;
  }

  links_asked : (first second : List ℕ) (dest : Dest) (old new : Devices Origin) (ending : Ending) → second ≢ [] → (rest : RelaySession (relayed no_rows) (plug_row second dest) (with_line first old) new ending)
      → Links second dest (at_first (with_line first old) rest.names) rest.last ending → AsksBy (first ++ second) dest ending old new
  unfolding front_second
  links_asked first second dest old new ending some rest (inl un) = inl (record {
    ends = un.ends;
    front = front_second first some un.front;
    logs = sym (ap (λ (d : Devices Origin). d.logs.given) rest.leaves) ∙ un.logs ∙ by_both old.logs.given first un.front.part;
    asked = subst (λ (d : Devices Origin). Adds [] old.dialer.asked d.dialer.asked) rest.leaves un.asked;
  })
  links_asked first second dest old new ending some rest (inr (inl r)) = inr (asked_by first second dest old new rest.last ending some rest.leaves r.logs r.asked)
  links_asked first second dest old new ending some rest (inr (inr l)) = inr (asked_by first second dest old new rest.last ending some rest.leaves l.1.logs l.1.asked)

  asks_first : (first second : List ℕ) (dest : Dest) (old new : Devices Origin) (ending : Ending) → second ≢ [] → (session : RelaySession (relayed no_rows) (Do (Log first) (λ done. plug_row second dest)) old new ending)
      → LogsFirst first (relayed no_rows) (plug_row second dest) old new ending session → AsksBy (first ++ second) dest ending old new
  asks_first first second dest old new ending some session (inl fails) = inl (fails_unasked first second old new ending some fails)
  asks_first first second dest old new ending some session (inr on) =
      links_asked first second dest old new ending some on.rest (held_links second dest (at_first (with_line first old) on.rest.names) on.rest.last ending on.rest.held)

  -- a session of the plug behind another line
  pub asks_lines : (first second : List ℕ) (dest : Dest) (old new : Devices Origin) (ending : Ending) → second ≢ [] → RelaySession (relayed no_rows) (Do (Log first) (λ done. plug_row second dest)) old new ending → AsksBy (first ++ second) dest ending old new
  asks_lines first second dest old new ending some session = asks_first first second dest old new ending some session (logs_first first (relayed no_rows) (plug_row second dest) old new ending session)

-- ---- as a client of `conn` meets it

-- what was given behind a line that may be there
record GaveMore (old new : SinkView) : Type 0 where
  more : List ℕ
  is : new.given ≡ grown old.given more

noted_more : (line : Option (List ℕ)) (old new : SinkView) → NotedIf line old new → GaveMore old new
noted_more None old new is = record { more = []; is = ap (λ (s : SinkView). s.given) is ∙ by_nothing old.given }
noted_more (Some line) old new noted = gave_more line old new noted
  where
    by : (text : List ℕ) (before after : SinkView) (told : Result (Unit {0}) Failed) → Gives told text before after → GaveMore before after
    by text before after (Ok done) gives = record { more = text; is = ap (λ (s : SinkView). s.given) gives }
    by text before after (Err failed) gives = record { more = gives.part; is = ap (λ (s : SinkView). s.given) gives.is }

    gave_more : (text : List ℕ) (before after : SinkView) → Noted text before after → GaveMore before after
    gave_more text before after h = by text before after h.told h.gives

-- an ending's line comes only where the log didn't fail within the lines before it
asks_noted : {Origin : Type 0} (lines : List ℕ) (dest : Dest) (ending : Ending) (old : Devices Origin) (new : Devices Origin) (logs : SinkView) (line : Option (List ℕ)) → (ending ≡ endings.LogFault → line ≡ None)
    → AsksBy lines dest ending old (record new { logs = logs }) → NotedIf line logs new.logs → AsksBy lines dest ending old new
asks_noted lines dest ending old new logs line silent (inl un) noted =
    let same : new.logs ≡ logs = subst (λ (l : Option (List ℕ)). NotedIf l logs new.logs) (silent un.ends) noted in
    inl (record { ends = un.ends; front = un.front; logs = ap (λ (s : SinkView). s.given) same ∙ un.logs; asked = un.asked })
asks_noted lines dest ending old new logs line silent (inr was) noted =
    let more = noted_more line logs new.logs noted in
    inr (record {
      more = was.more ++ more.more;
      logs =
          more.is ∙ ap (λ (b : Option (List ℕ)). grown b more.more) was.logs ∙ by_both old.logs.given (lines ++ was.more) more.more
          ∙ ap (λ (b : List ℕ). grown old.logs.given b) (append_assoc lines was.more more.more);
      asked = was.asked;
    })

-- what the dialer waited for has no part in what it is asked
asks_patient : {Origin : Type 0} (seconds : ℕ) (lines : List ℕ) (dest : Dest) (ending : Ending) (old new : Devices Origin) → AsksBy lines dest ending (patient seconds old) new → AsksBy lines dest ending old new
asks_patient seconds lines dest ending old new (inl un) = inl (record { ends = un.ends; front = un.front; logs = un.logs; asked = un.asked })
asks_patient seconds lines dest ending old new (inr was) = inr (record { more = was.more; logs = was.logs; asked = was.asked })

module _ {Origin : Type 0} where
  asks_with : (lines : List ℕ) (dest : Dest) (ending : Ending) (old new : Devices Origin) → AsksBy lines dest ending (plug_devices old) (plug_devices new) → AsksBy lines dest ending old new
  asks_with lines dest ending old new (inl un) = inl (record { ends = un.ends; front = un.front; logs = un.logs; asked = un.asked })
  asks_with lines dest ending old new (inr was) = inr (record { more = was.more; logs = was.logs; asked = was.asked })

  -- a destination is asked for exactly where both lines stand
  pub plug_dials : (at line : ℕ) (rules : RuleBook) (peer : Peer) (ending : Ending) (old new : Devices Origin) (logs : SinkView) (end : Option (List ℕ)) → (ending ≡ endings.LogFault → end ≡ None)
      → LinksTo at line rules peer ending old (record new { logs = logs }) → NotedIf end logs new.logs → AsksLogged at line rules peer ending old new
  plug_dials at line rules peer ending old new logs end silent h noted =
      let first : List ℕ = decision_text (Permit line) (PlugGw at) peer in
      let second : List ℕ = connect_text at peer h.over.dest line in
      let lent = plug_devices old in
      let left = plug_devices (record new { logs = logs }) in
      let asks = asks_lines first second h.over.dest (patient (timeout_of rules) lent) left ending (connect_some at peer h.over.dest line) h.over.session in
      record {
        dest = h.over.dest;
        target = h.over.target;
        so = asks_noted (first ++ second) h.over.dest ending old new logs end silent
            (asks_with (first ++ second) h.over.dest ending old (record new { logs = logs }) (asks_patient (timeout_of rules) (first ++ second) h.over.dest ending lent left asks)) noted;
      }

-- ---- causes

unmoved : (n : ℕ) → n ≡ 0 → Rose n n → ⊥
unmoved n none rose = let low = rose.1 in absurd (omega (arith, low, none))

no_port_failed : Rose 0 0 ⊎ Rose 0 0 → ⊥
no_port_failed (inl rose) = unmoved 0 refl rose
no_port_failed (inr rose) = unmoved 0 refl rose

spent_with : {Origin : Type 0} (seconds : ℕ) (old new : Devices Origin) → TookMost (patient seconds (plug_devices old)).inlet new.inlet ⊎ LinkTookMost (plug_devices new) → TookMost old.inlet new.inlet ⊎ LinkTookMost new
spent_with seconds old new (inl h) = inl (record { took = record { bytes = h.took.bytes; most = h.took.most; grew = h.took.grew; is = h.took.is }; all = h.all })
spent_with seconds old new (inr h) = inr (record { link = h.link; last = h.last; all = h.all })

linked_by : {Origin : Type 0} (seconds : ℕ) (ending : Ending) (old new : Devices Origin) → ending ≢ endings.NoMemory → Caused ending (patient seconds (plug_devices old)) (plug_devices new) → CausedLinked ending old new
linked_by seconds endings.Done old new some h = tt
linked_by seconds (endings.Denied line) old new some h = absurd h
linked_by seconds endings.ClientFault old new some h = h
linked_by seconds endings.ServerFault old new some h = h
linked_by seconds endings.LogFault old new some h = h
linked_by seconds endings.AuthFault old new some h = no_port_failed h
linked_by seconds endings.Idle old new some h = h
linked_by seconds endings.NoRoute old new some h = h
linked_by seconds endings.Spent old new some h = spent_with seconds old new h
linked_by seconds endings.NoMemory old new some h = absurd (some refl)

-- a session of the plug behind a line wants no memory
remembers_by : {Origin : Type 0} (first second : List ℕ) (dest : Dest) (old new : Devices Origin) (ending : Ending) (session : RelaySession (relayed no_rows) (Do (Log first) (λ done. plug_row second dest)) old new ending)
    → LogsFirst first (relayed no_rows) (plug_row second dest) old new ending session → ending ≢ endings.NoMemory
remembers_by first second dest old new ending session (inl fails) is = let clash : endings.LogFault ≡ endings.NoMemory = sym fails.ends ∙ is in absurd (cc)
remembers_by first second dest old new ending session (inr on) is = plug_remembers second dest (with_line first old) new ending on.rest is

-- each ending of a client that is linked has its cause
pub plug_caused : {Origin : Type 0} (at line : ℕ) (rules : RuleBook) (peer : Peer) (ending : Ending) (old new : Devices Origin) → LinksTo at line rules peer ending old new → CausedLinked ending old new
plug_caused at line rules peer ending old new h =
    let first : List ℕ = decision_text (Permit line) (PlugGw at) peer in
    let second : List ℕ = connect_text at peer h.over.dest line in
    let lent = patient (timeout_of rules) (plug_devices old) in
    let session = h.over.session in
    linked_by (timeout_of rules) ending old new
    (remembers_by first second h.over.dest lent (plug_devices new) ending session (logs_first first (relayed no_rows) (plug_row second h.over.dest) lent (plug_devices new) ending session))
    (session_caused session)
