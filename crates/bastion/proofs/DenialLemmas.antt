-- What becomes of a client whom the rules deny, over a port: the line of the denial is logged, and then it is tried to tell the
-- client.
use Rattle.std.proofs.Common.{◌≡◌, ◌≢◌, ◌≤◌, ℕ, List, [], ◌∷◌, ◌++◌, map, refl, sym, ◌∙◌, ap, subst, inl, inr, ◌⊎◌, Bool, false}
use Rattle.std.specs.Prelude.{Option, Some, Result, Ok, Err}
use Rattle.auth_events.specs.declared.port.PortFault.{PortFault}
use Rattle.auth_events.specs.declared.reply.Reply.{Reply}
use Rattle.client_service.proofs.SinkLemmas.{same_low}
use Rattle.client_service.specs.Conn.{NotedIf}
use Rattle.client_service.specs.Decision.{decision_text}
use Rattle.client_service.specs.Endings.{ending_line}
use Rattle.client_service.specs.Meeting.{denied_by}
use Rattle.fw_acts.specs.Acts.{PlaceTable, Row, Step}
use Rattle.fw_acts.specs.Acts.Row.{Over}
use Rattle.fw_acts.specs.Ran.{Comes, Ran}
use Rattle.fw_acts.specs.Runs as runs
use Rattle.fw_outside.specs.Counts.{Rose}
use Rattle.fw_outside.specs.DialerView.{DialerView}
use Rattle.fw_outside.specs.SinkView.{SinkView}
use Rattle.fw_outside.specs.ToldList.{grown}
use Rattle.fw_types.specs.declared.ending.Ending.{Ending}
use Rattle.fw_types.specs.declared.ending.Ending.TheVariants as endings
use Rattle.fw_types.specs.declared.peer.Peer.{Peer}
use Rattle.gate_rules.specs.declared.service.Service.{Service}
use Rattle.gate_rules.specs.declared.verdict.Verdict.{Verdict}
use Rattle.gate_rules.specs.declared.verdict.Verdict.TheVariants.{Permit, Deny}
use Rattle.session_acts.proofs.ClientLemmas.{denies}
use Rattle.session_acts.proofs.DeedLemmas.{all_gain, held_deeds}
use Rattle.session_acts.proofs.ToldLemmas.{told_gains}
use Rattle.session_acts.specs.Acts.{Front}
use Rattle.session_acts.specs.Acts.Act.{Try}
use Rattle.session_acts.specs.Client.{Denies, LogFails, line_logged}
use Rattle.session_acts.specs.Deeds.{Deed, deed_last, deeds_ran, done, gives}
use Rattle.session_acts.specs.Denying.{denying_row, no_rows}
use Rattle.session_acts.specs.Laws.{told}
use Rattle.session_acts.specs.Met.{Gets, acts}
use Rattle.session_acts.specs.Session.{Session, SessionAs, deeds_of, ending_of}
use Rattle.session_acts.specs.World.{Devices, World, at_first}
use Rattle.session_acts.specs.declared.cause.Cause.{Cause}
use Rattle.session_acts.specs.declared.cause.Cause.TheVariants as causes
use Rattle.session_acts.specs.declared.denying.NoPlace.{NoPlace}
use Rattle.bastion.specs.Answering.{Answerer, GivenBack, OriginOf, PortView, answerer_in, port_at_first, port_of}
use Rattle.bastion.specs.Asking.{FailsWithin}
use Rattle.bastion.specs.Complete.{IsWhole}
use Rattle.bastion.specs.Headline.{IsDenied}
use Rattle.bastion.specs.Inputs.{Inputs}
use Rattle.bastion.specs.Outcome.{fault_line_of, status_of}
use Rattle.bastion.specs.Run.{TellsIf, is_at_console, verdict_for}
use Rattle.bastion.specs.Serving.{met_at}
use Rattle.bastion.specs.Talk.{IsToldOff}
use Rattle.bastion.specs.Works.{with_given}
use Rattle.bastion.specs.WorldView.{WorldView}
use Rattle.bastion.specs.declared.outcome.Outcome.{Outcome}
use Rattle.bastion.specs.declared.outcome.Outcome.TheVariants.{Ended}
use Rattle.bastion.specs.declared.words.Authorities.{Authorities}
use Rattle.bastion.specs.declared.words.Command.{Command}
use Rattle.bastion.proofs.QuietLemmas.{Quiet, same_from}

-- ---- the two deeds of a denial

abbrev over : {Origin : Type 0} → Unit {0} → Row (acts Origin) NoPlace
over done = Over

record TwoDeeds (line words : List ℕ) (deeds : List Deed) : Type 0 where
  tried : Result (Unit {0}) (Front words)
  are : deeds ≡ line_logged line ∷ record { act = Try words; outcome = Ok tried } ∷ []

two_deeds : {Origin : Type 0} (line words : List ℕ) (steps : List (Step (acts Origin))) (left : Row (acts Origin) NoPlace) (mid new : World Origin) → runs.Run no_rows (denying_row line words) steps left → (comes : Comes no_rows over (Ok tt) new left mid)
    → TwoDeeds line words (map done steps ++ deed_last no_rows over (Ok tt) new left mid comes)
two_deeds {Origin} line words [] left mid new run comes = absurd (cc (run ∙ comes.0))
two_deeds {Origin} line words (a ∷ []) left mid new run comes = absurd (cc (run.2 ∙ comes.0))
two_deeds {Origin} line words (a ∷ b ∷ []) left mid new run comes = record {
  tried = run.2.0;
  are = ap (λ (s : Step (acts Origin)). done s ∷ done b ∷ []) run.1 ∙ ap (λ (s : Step (acts Origin)). line_logged line ∷ done s ∷ []) run.2.1;
}
two_deeds {Origin} line words (a ∷ b ∷ d ∷ steps) left mid new run comes = absurd run.2.2

-- a dialogue that stopped doesn't end as done
pub done_only : (dialogue : Result (Unit {0}) Cause) (opened : Option ℕ) (answer : Result Reply PortFault) → endings.Done ≡ ending_of dialogue opened answer → dialogue ≡ Ok tt
done_only (Ok done) opened answer is = refl
done_only (Err causes.ClientFault) opened answer is = absurd (cc)
done_only (Err causes.ServerFault) opened answer is = absurd (cc)
done_only (Err causes.LogFault) opened answer is = absurd (cc)
done_only (Err causes.AuthFault) opened answer is = absurd (cc)
done_only (Err causes.Idle) opened answer is = absurd (cc)
done_only (Err causes.NoRoute) opened answer is = absurd (cc)
done_only (Err causes.Spent) opened answer is = absurd (cc)
done_only (Err causes.NoMemory) opened answer is = absurd (cc)

ran_deeds_by : {Origin : Type 0} (line words : List ℕ) (old mid : World Origin) (dialogue : Result (Unit {0}) Cause) → dialogue ≡ Ok tt → (ran : Ran no_rows (denying_row line words) over old mid dialogue) → TwoDeeds line words (deeds_ran ran)
ran_deeds_by line words old mid (Ok done) is ran = two_deeds line words ran.steps ran.left ran.mid mid ran.run ran.comes
ran_deeds_by line words old mid (Err cause) is ran = absurd (cc)

denying_deeds : {Origin : Type 0} (line words : List ℕ) (old new : Devices Origin) (session : Session no_rows (denying_row line words) old new endings.Done) → TwoDeeds line words (deeds_ran session.held.ran)
denying_deeds line words old new session =
    let held = session.held in
    ran_deeds_by line words (at_first old session.names) held.mid held.dialogue (done_only held.dialogue held.mid.office.opened held.answer held.ends) held.ran

-- ---- a denial

-- a client was denied
pub record OfDenial {Origin : Type 0} (service : Service) (words : ℕ → List ℕ) (console : Bool) (verdict : Verdict) (peer : Peer) (old new : Devices Origin) (ending : Ending) : Type 0 where
  pub outside : console ≡ false
  pub line : ℕ
  pub denied : verdict ≡ Deny line
  pub logs : SinkView
  pub told : Ending
  pub session : Session no_rows (denying_row (decision_text (Deny line) service peer) (words line)) old (record new { logs = logs }) told
  pub ends : ending ≡ denied_by line told
  pub noted : NotedIf (ending_line service peer ending) logs new.logs

-- the log has the line whole, and the client was given the words, or a front of them
pub record DeniesWhole {Origin : Type 0} (service : Service) (words : ℕ → List ℕ) (line : ℕ) (peer : Peer) (old new : Devices Origin) (ending : Ending) : Type 0 where
  pub logs : new.logs ≡ with_given old.logs (decision_text (Deny line) service peer)
  pub session : Session no_rows (denying_row (decision_text (Deny line) service peer) (words line)) old new endings.Done
  pub tried : Result (Unit {0}) (Front (words line))
  pub gets : Gets (words line) tried old.outlet new.outlet
  pub dialer : new.dialer ≡ old.dialer
  pub ends : ending ≡ endings.Denied line

-- behind a denial, or a log that failed, the log has no ending's line
unnoted : (service : Service) (line : ℕ) (peer : Peer) (ending : Ending) (logs new : SinkView) → ending ≡ endings.Denied line → NotedIf (ending_line service peer ending) logs new → new ≡ logs
unnoted service line peer ending logs new is h = let P : Ending → Type 0 = λ e. NotedIf (ending_line service peer e) logs new in subst P is h

pub failed_unnoted : (service : Service) (peer : Peer) (ending : Ending) (logs new : SinkView) → ending ≡ endings.LogFault → NotedIf (ending_line service peer ending) logs new → new ≡ logs
failed_unnoted service peer ending logs new is h = let P : Ending → Type 0 = λ e. NotedIf (ending_line service peer e) logs new in subst P is h

-- the log failed within a line before it was told of the ending
pub fails_last : {Origin : Type 0} (service : Service) (peer : Peer) (text : List ℕ) (old new : Devices Origin) (logs : SinkView) (told ending : Ending) → ending ≡ endings.LogFault → NotedIf (ending_line service peer ending) logs new.logs
    → LogFails text old (record new { logs = logs }) told → LogFails text old new ending
fails_last {Origin} service peer text old new logs told ending is noted fails =
    let Fails : SinkView → Type 0 = λ s. LogFails text old (record new { logs = s }) told in
    let last : LogFails text old new told = subst Fails (sym (failed_unnoted service peer ending logs new.logs is noted)) fails in
    record { front = last.front; cut = last.cut; same = last.same; ends = is }

denial_by : {Origin : Type 0} (service : Service) (words : ℕ → List ℕ) (line : ℕ) (peer : Peer) (old new : Devices Origin) (logs : SinkView) (told ending : Ending) → ending ≡ denied_by line told → NotedIf (ending_line service peer ending) logs new.logs
    → Session no_rows (denying_row (decision_text (Deny line) service peer) (words line)) old (record new { logs = logs }) told
    → Denies (decision_text (Deny line) service peer) (words line) old (record new { logs = logs }) told → LogFails (decision_text (Deny line) service peer) old new ending ⊎ DeniesWhole service words line peer old new ending
denial_by {Origin} service words line peer old new logs told ending ends noted session (inl fails) =
    inl (fails_last service peer (decision_text (Deny line) service peer) old new logs told ending (ends ∙ ap (denied_by line) fails.ends) noted fails)
denial_by {Origin} service words line peer old new logs told ending ends noted session (inr away) =
    let denied : ending ≡ endings.Denied line = ends ∙ ap (denied_by line) away.ends in
    let same : new.logs ≡ logs = unnoted service line peer ending logs new.logs denied noted in
    let Ends : Ending → Type 0 = λ e. Session no_rows (denying_row (decision_text (Deny line) service peer) (words line)) old (record new { logs = logs }) e in
    let Logs : SinkView → Type 0 = λ s. Session no_rows (denying_row (decision_text (Deny line) service peer) (words line)) old (record new { logs = s }) endings.Done in
    inr (record {
      logs = same ∙ ap (λ (d : Devices Origin). d.logs) away.same;
      session = subst Logs (sym same) (subst Ends away.ends session);
      tried = away.tried;
      gets = away.gets;
      dialer = ap (λ (d : Devices Origin). d.dialer) away.same;
      ends = denied;
    })

pub denial_so : {Origin : Type 0} (service : Service) (words : ℕ → List ℕ) (console : Bool) (verdict : Verdict) (peer : Peer) (old new : Devices Origin) (ending : Ending) → (h : OfDenial service words console verdict peer old new ending)
    → LogFails (decision_text (Deny h.line) service peer) old new ending ⊎ DeniesWhole service words h.line peer old new ending
denial_so service words console verdict peer old new ending h =
    denial_by service words h.line peer old new h.logs h.told ending h.ends h.noted h.session (denies (decision_text (Deny h.line) service peer) (words h.line) old (record new { logs = h.logs }) h.told h.session)

-- no request is refused in it
pub denial_refuses : {Origin : Type 0} (service : Service) (words : ℕ → List ℕ) (console : Bool) (verdict : Verdict) (peer : Peer) (old new : Devices Origin) (ending : Ending) → (h : OfDenial service words console verdict peer old new ending) → new.port.refused ≡ old.port.refused
denial_refuses {Origin} service words console verdict peer old new ending h =
    by (denies (decision_text (Deny h.line) service peer) (words h.line) old (record new { logs = h.logs }) h.told h.session)
  where
    by : Denies (decision_text (Deny h.line) service peer) (words h.line) old (record new { logs = h.logs }) h.told → new.port.refused ≡ old.port.refused
    by (inl fails) = ap (λ (d : Devices Origin). d.port.refused) fails.same
    by (inr away) = ap (λ (d : Devices Origin). d.port.refused) away.same

-- ---- what a run comes to

pub decision_some : (verdict : Verdict) (service : Service) (peer : Peer) → decision_text verdict service peer ≢ []
decision_some (Permit line) service peer is = absurd (cc)
decision_some (Deny line) service peer is = absurd (cc)

-- the log of a run failed within a line
pub fails_within : {Origin : Type 0} (text : List ℕ) (first left : Devices Origin) (ending : Ending) (old new : WorldView) → text ≢ [] → first.logs ≡ old.logs → left.logs ≡ new.logs → LogFails text first left ending → FailsWithin text old new
fails_within text first left ending old new some starts leaves h = record {
  part = h.front.part;
  rest = h.front.rest;
  cut = h.front.cut;
  short = h.front.short some;
  logs = ap (λ (s : SinkView). s.given) (sym leaves) ∙ ap (λ (s : SinkView). s.given) h.cut.is ∙ ap (λ (s : SinkView). grown s.given h.front.part) starts;
  rose = subst (λ (s : SinkView). Rose s.faults new.logs.faults) starts (subst (λ (s : SinkView). Rose first.logs.faults s.faults) (sym h.cut.is ∙ leaves) h.cut.rose);
}

-- what a session told its client
pub session_gave : {P : Type 0} {relays : Bool} {Origin : Type 0} {table : PlaceTable (acts Origin) P} {first : Row (acts Origin) P} {old new : Devices Origin} {ending : Ending} (session : SessionAs relays table first old new ending)
    → new.outlet.given ≡ grown old.outlet.given (gives told (deeds_of session.held))
session_gave {P} {relays} {Origin} {table} {first} {old} {new} {ending} session =
    ap (λ (d : Devices Origin). d.outlet.given) (sym session.leaves) ∙ all_gain told_gains (deeds_of session.held) (at_first old session.names) session.last (held_deeds session.held)

untold : (out : Outcome) (line : ℕ) (refused : Bool) (mid new : WorldView) → out ≡ Ended (endings.Denied line) refused → TellsIf (fault_line_of out) mid new → new ≡ mid
untold out line refused mid new is h = let P : Outcome → Type 0 = λ o. TellsIf (fault_line_of o) mid new in subst P is h

module _ (authorities : Authorities) (command : Command) (service : Service) (words : ℕ → List ℕ) (peer : Peer) (inputs : Inputs) (dialer left : DialerView) (before : Answerer authorities) (view : PortView authorities) (ending : Ending) (out : Outcome) (old mid new : WorldView)
    (comes : out ≡ Ended ending (port_of authorities view).refused) (tells : TellsIf (fault_line_of out) mid new) (line : ℕ) (denied : verdict_for command inputs ≡ Deny line) where
  abbrev first : Devices (OriginOf authorities)
  first = met_at old (port_at_first authorities inputs before) dialer

  abbrev refused : Bool
  refused = (port_of authorities view).refused

  abbrev text : List ℕ
  text = decision_text (Deny line) service peer

  module _ (whole : DeniesWhole service words line peer first (met_at mid (port_of authorities view) left) ending) where
    comes_denied : out ≡ Ended (endings.Denied line) refused
    comes_denied = comes ∙ ap (λ (e : Ending). Ended e refused) whole.ends

    -- nothing was told the log then
    pub denial_same : new ≡ mid
    denial_same = untold out line refused mid new comes_denied tells

    -- told off, where what answers is as it was
    pub told_off : is_at_console command ≡ false → answerer_in authorities old.inputs ≡ Some before → GivenBack authorities before old.inputs mid.inputs → IsToldOff authorities command service peer words dialer inputs old new
    told_off outside there kept =
        let Left : WorldView → Type 0 = λ w. Session no_rows (denying_row text (words line)) first (met_at w (port_of authorities view) left) endings.Done in
        let session : Session no_rows (denying_row text (words line)) first (met_at new (port_of authorities view) left) endings.Done = subst Left (sym denial_same) whole.session in
        let two = denying_deeds text (words line) first (met_at new (port_of authorities view) left) session in
        record {
          outside = outside;
          line = line;
          denied = denied;
          before = before;
          there = there;
          view = view;
          left = left;
          session = session;
          tried = two.tried;
          deeds = two.are;
          told = session_gave session;
          kept = subst (λ (w : WorldView). GivenBack authorities before old.inputs w.inputs) (sym denial_same) kept;
        }

    -- and the log has the line
    pub told_denied : IsDenied command service peer inputs (status_of out) old new
    told_denied = record { line = line; denied = denied; logged = ap (λ (w : WorldView). w.logs) denial_same ∙ whole.logs; status_is = ap status_of comes_denied }

-- ---- a run in which no count rose

pub got_whole : (words : List ℕ) (tried : Result (Unit {0}) (Front words)) (old new : SinkView) → (Rose old.faults new.faults → ⊥) → Gets words tried old new → new.given ≡ grown old.given words
got_whole words (Ok done) old new never gets = ap (λ (s : SinkView). s.given) gets
got_whole words (Err front) old new never gets = absurd (never (subst (λ (s : SinkView). Rose old.faults s.faults) (sym gets.is) gets.rose))

module _ (authorities : Authorities) (command : Command) (service : Service) (words : ℕ → List ℕ) (peer : Peer) (inputs : Inputs) (dialer left : DialerView) (before : Answerer authorities) (view : PortView authorities) (ending : Ending) (out : Outcome) (old middle mid new : WorldView)
    (comes : out ≡ Ended ending (port_of authorities view).refused) (tells : TellsIf (fault_line_of out) mid new) (line : ℕ) (denied : verdict_for command inputs ≡ Deny line) (q : Quiet old new) (logs : middle.logs ≡ old.logs) (output : middle.output ≡ old.output) (later : mid.logs.faults ≤ new.logs.faults) where
  abbrev begun : Devices (OriginOf authorities)
  begun = met_at middle (port_at_first authorities inputs before) dialer

  abbrev ended : Devices (OriginOf authorities)
  ended = met_at mid (port_of authorities view) left

  -- the log and the client were given all of it
  pub denial_whole : LogFails (decision_text (Deny line) service peer) begun ended ending ⊎ DeniesWhole service words line peer begun ended ending → IsWhole (decision_text (Deny line) service peer) (words line) 1 (status_of out) old new
  denial_whole (inl fails) =
      absurd (q.logs middle.logs.faults mid.logs.faults (same_from old.logs middle.logs logs) later (subst (λ (s : SinkView). Rose middle.logs.faults s.faults) (sym fails.cut.is) fails.cut.rose))
  denial_whole (inr whole) =
      let same : new ≡ mid = denial_same authorities command service words peer inputs dialer left before view ending out middle mid new comes tells line denied whole in
      let behind : mid.output.faults ≤ new.output.faults = same_low mid.output.faults new.output.faults (ap (λ (w : WorldView). w.output.faults) same) in
      let given : mid.output.given ≡ grown middle.output.given (words line) =
      got_whole (words line) whole.tried middle.output mid.output (q.output middle.output.faults mid.output.faults (same_from old.output middle.output output) behind) whole.gets in
      record {
        logs = ap (λ (w : WorldView). w.logs.given) same ∙ ap (λ (l : SinkView). l.given) whole.logs ∙ ap (λ (l : SinkView). grown l.given (decision_text (Deny line) service peer)) logs;
        output = ap (λ (w : WorldView). w.output.given) same ∙ given ∙ ap (λ (l : SinkView). grown l.given (words line)) output;
        status_is = ap status_of (comes ∙ ap (λ (e : Ending). Ended e (port_of authorities view).refused) whole.ends);
      }
