-- From what a client of a gateway did to the headline, and to a run in which no count rose: what is the same of both gateways.
-- The peer is that of the command.
use Rattle.std.proofs.Common.{arith, ◌≡◌, ◌≢◌, ◌≤◌, ◌∙◌, ℕ, List, [], ◌++◌, refl, sym, ap, subst, inl, inr, ◌⊎◌, Bool, true, false}
use Rattle.std.specs.Prelude.{Option, Some}
use Rattle.auth_events.specs.Port.{Port}
use Rattle.client_service.specs.Conn.{NotedIf, Untouched}
use Rattle.client_service.specs.Decision.{decision_text}
use Rattle.client_service.specs.Endings.{ending_line}
use Rattle.client_service.specs.Gateways.{HeldAs}
use Rattle.client_service.specs.Meeting.{patient, timeout_of}
use Rattle.fw_acts.specs.Acts.{Row, PlaceTable}
use Rattle.fw_outside.specs.SinkView.{SinkView}
use Rattle.fw_outside.specs.ToldList.{grown}
use Rattle.fw_types.specs.declared.ending.Ending.{Ending}
use Rattle.fw_types.specs.declared.ending.Ending.TheVariants as endings
use Rattle.fw_types.specs.declared.peer.Peer.{Peer}
use Rattle.gate_rules.specs.declared.service.Service.{Service}
use Rattle.gate_rules.specs.declared.verdict.Verdict.{Verdict}
use Rattle.gate_rules.specs.declared.verdict.Verdict.TheVariants.{Permit, Deny}
use Rattle.session_acts.specs.Causes.{KeepsAs}
use Rattle.session_acts.specs.Client.{LogFails}
use Rattle.session_acts.specs.Deeds.{Deed, gives}
use Rattle.session_acts.specs.Laws.{Adds, called, logged}
use Rattle.session_acts.specs.Met.{acts}
use Rattle.session_acts.specs.Session.{SessionAs, deeds_of}
use Rattle.session_acts.specs.World.{Devices, World, at_first}
use Rattle.session_acts.proofs.CauseLemmas.{relay_keeps, session_keeps}
use Rattle.session_acts.proofs.DeedLemmas.{all_gain, held_deeds}
use Rattle.session_acts.proofs.LinkedLemmas.{called_gains}
use Rattle.session_acts.proofs.ToldLemmas.{by_both, logged_gains}
use Rattle.tn_gate.specs.Dummies.{lent}
use Rattle.bastion.specs.Answering.{Answerer, GivenBack, OriginOf, answerer_in, answerer_of, port_at_first, port_of}
use Rattle.bastion.specs.Asking.{FailsWithin}
use Rattle.bastion.specs.Basis.{Course, no_course, of_session}
use Rattle.bastion.specs.AtGateway.{Comes, IsCutOff, OfGateway, begins_at, ends_at, gated_devices, let_in}
use Rattle.bastion.specs.Complete.{IsPassedWhole, IsServedAtGate, closing_text}
use Rattle.bastion.specs.Gating.{Gated}
use Rattle.bastion.specs.Headline.{IsDenied, IsPermitted}
use Rattle.bastion.specs.Inputs.{Inputs}
use Rattle.bastion.specs.Outcome.{fault_line_of, status_of, verdict_status}
use Rattle.bastion.specs.Run.{ReadsOnly, TellsIf, is_at_console, peer_of, verdict_for}
use Rattle.bastion.specs.Status.{IsPassed}
use Rattle.bastion.specs.Talk.{IsSilent, was_refused}
use Rattle.bastion.specs.WorldView.{SessionInputs, WorldView}
use Rattle.bastion.specs.declared.outcome.Outcome.{Outcome}
use Rattle.bastion.specs.declared.outcome.Outcome.TheVariants.{Ended}
use Rattle.bastion.specs.declared.words.Authorities.{Authorities}
use Rattle.bastion.specs.declared.words.Command.{Command}
use Rattle.bastion.proofs.ClientLemmas.{same_undialed}
use Rattle.bastion.proofs.DenialLemmas.{DeniesWhole, decision_some, denial_same, denial_so, denial_whole, fails_last, fails_within, session_gave, told_denied, told_off}
use Rattle.bastion.proofs.AnsweringLemmas.{over_comes, over_kept, over_there}
use Rattle.bastion.proofs.GatedLemmas.{OfCaller, begun_for, caller_course, ended_for, held_course}
use Rattle.bastion.proofs.LinkedLemmas.{waits_only}
use Rattle.bastion.proofs.QuietLemmas.{Quiet, same_from}
use Rattle.bastion.proofs.LeftLemmas.{Later, tells_later}
use Rattle.bastion.proofs.TalkLemmas.{concluded, concluded_whole, ends_by, no_talk, session_talk, was}

-- the log's line of a session that failed is no line
unsaid : (out : Outcome) (refused : Bool) (mid new : WorldView) → out ≡ Ended endings.LogFault refused → TellsIf (fault_line_of out) mid new → new ≡ mid
unsaid out refused mid new is h = let P : Outcome → Type 0 = λ o. TellsIf (fault_line_of o) mid new in subst P is h

-- what a session keeps, with a relay or without
any_keeps : {Origin P : Type 0} (relays : Bool) {rows : PlaceTable (acts Origin) P} {first : Row (acts Origin) P} {old new : Devices Origin} {ending : Ending} → SessionAs relays rows first old new ending → KeepsAs relays old new
any_keeps true session = relay_keeps session
any_keeps false session = session_keeps session

passed_so : (authorities : Authorities) (line : ℕ) (deeds : List Deed) (status : ℕ) (old new : SessionInputs) → IsPassed authorities (Permit line) deeds status old new → (status ≡ 0) ⊎ (status ≡ 6)
passed_so authorities line deeds status old new (inl zero) = inl zero
passed_so authorities line deeds status old new (inr six) = inr six.0

passed_undenied : (authorities : Authorities) (line : ℕ) (deeds : List Deed) (status : ℕ) (old new : SessionInputs) → ((status ≡ 4) ⊎ (status ≡ 5)) ⊎ IsPassed authorities (Permit line) deeds status old new → status ≢ 1
passed_undenied authorities line deeds status old new (inl (inl four)) is = omega (arith, four, is)
passed_undenied authorities line deeds status old new (inl (inr five)) is = omega (arith, five, is)
passed_undenied authorities line deeds status old new (inr (inl zero)) is = omega (arith, zero, is)
passed_undenied authorities line deeds status old new (inr (inr six)) is = let now = six.0 in omega (arith, now, is)

untouched_deny : {A : Type 0} (service : Service) → ((line : ℕ) (one other : A) → Untouched service (Deny line) one other → other ≡ one) → (verdict : Verdict) (line : ℕ) (one other : A) → verdict ≡ Deny line → Untouched service verdict one other → other ≡ one
untouched_deny service leaves verdict line one other denied same = leaves line one other (subst (λ (v : Verdict). Untouched service v one other) denied same)

module _ {P : Type 0} (authorities : Authorities) (relays : Bool) (command : Command) (service : Service) (words : ℕ → List ℕ) (inputs : Inputs) (rows : ℕ → PlaceTable (acts (OriginOf authorities)) P) (first : ℕ → Row (acts (OriginOf authorities)) P) (out : Outcome) (old mid new : WorldView)
    (h : Gated authorities service (peer_of command) inputs out old mid) (tells : TellsIf (fault_line_of out) mid new) where
  abbrev peer : Peer
  peer = peer_of command

  abbrev fresh : Port (OriginOf authorities)
  fresh = port_at_first authorities inputs h.before

  abbrev left : Port (OriginOf authorities)
  left = port_of authorities h.view

  abbrev met : Devices (OriginOf authorities)
  met = gated_devices old fresh

  abbrev begun : Devices (OriginOf authorities)
  begun = begun_for authorities inputs h.before old

  abbrev ended : Devices (OriginOf authorities)
  ended = ended_for authorities h.view mid

  abbrev text : Verdict → List ℕ
  text verdict = decision_text verdict service peer

  there : answerer_in authorities old.inputs ≡ Some h.before
  there = over_there inputs h.ending out old mid authorities h.before h.view h.over

  came : out ≡ Ended h.ending left.refused
  came = over_comes inputs h.ending out old mid authorities h.before h.view h.over

  later : Later mid new
  later = tells_later (fault_line_of out) mid new tells

  -- what answered is there again as the run left it
  back : GivenBack authorities (answerer_of authorities h.view) old.inputs new.inputs
  back = subst (λ (i : SessionInputs). GivenBack authorities (answerer_of authorities h.view) old.inputs i) (sym later.inputs) (over_kept inputs h.ending out old mid authorities h.before h.view h.over)

  -- ---- the log failed

  cut_same : h.ending ≡ endings.LogFault → new ≡ mid
  cut_same is = unsaid out left.refused mid new (came ∙ ap (λ (e : Ending). Ended e left.refused) is) tells

  -- from what is left as it was
  cut_off : (course : Course) → course.deeds ≡ [] → FailsWithin (text (verdict_for command inputs)) old mid → h.ending ≡ endings.LogFault → mid.inputs.dialer ≡ record (old.inputs.dialer) { waits = mid.inputs.dialer.waits } → mid.output ≡ old.output
      → left ≡ fresh → IsCutOff authorities command service peer inputs course (status_of out) old new
  cut_off course unheld within is dialer output port =
      let same = cut_same is in
      let Cut : WorldView → Type 0 = λ w. FailsWithin (text (verdict_for command inputs)) old w in
      let Waits : WorldView → Type 0 = λ w. w.inputs.dialer ≡ record (old.inputs.dialer) { waits = w.inputs.dialer.waits } in
      record {
        unheld = unheld;
        within = subst Cut (sym same) within;
        dialer = subst Waits (sym same) dialer;
        output = later.output ∙ output;
        before = h.before;
        there = there;
        view = h.view;
        unasked = port;
        talk = no_talk authorities inputs h.before h.view h.ending out old mid h.over port;
        kept = back;
        status_is = ap status_of (came ∙ ap (λ (e : Ending). Ended e left.refused) is);
      }

  permit_cut : (course : Course) → course.deeds ≡ [] → (line : ℕ) → verdict_for command inputs ≡ Permit line → LogFails (text (Permit line)) (patient (timeout_of inputs.rules) met) (gated_devices mid left) h.ending → IsCutOff authorities command service peer inputs course (status_of out) old new
  permit_cut course unheld line permitted fails =
      let here : FailsWithin (text (Permit line)) old mid = fails_within (text (Permit line)) (patient (timeout_of inputs.rules) met) (gated_devices mid left) h.ending old mid (decision_some (Permit line) service peer) refl refl fails in
      cut_off course unheld (subst (λ (v : Verdict). FailsWithin (text v) old mid) (sym permitted) here) fails.ends
      (waits_only old.inputs.dialer mid.inputs.dialer (timeout_of inputs.rules) (ap (λ (d : Devices (OriginOf authorities)). d.dialer) fails.same))
      (ap (λ (d : Devices (OriginOf authorities)). d.outlet) fails.same) (ap (λ (d : Devices (OriginOf authorities)). d.port) fails.same)

  deny_cut : (course : Course) → course.deeds ≡ [] → (line : ℕ) → verdict_for command inputs ≡ Deny line → LogFails (text (Deny line)) begun ended h.ending → IsCutOff authorities command service peer inputs course (status_of out) old new
  deny_cut course unheld line denied fails =
      let here : FailsWithin (text (Deny line)) old mid = fails_within (text (Deny line)) begun ended h.ending old mid (decision_some (Deny line) service peer) refl refl fails in
      cut_off course unheld (subst (λ (v : Verdict). FailsWithin (text v) old mid) (sym denied) here) fails.ends
      (same_undialed old.inputs.dialer mid.inputs.dialer (ap (λ (d : Devices (OriginOf authorities)). d.dialer) fails.same))
      (ap (λ (d : Devices (OriginOf authorities)). d.outlet) fails.same) (ap (λ (d : Devices (OriginOf authorities)). d.port) fails.same)

  -- ---- a session was held

  module _ (line : ℕ) (logs : SinkView) (session : SessionAs relays (rows line) (first line) (begins_at service inputs peer line fresh old) (ends_at left logs new) h.ending) where
    abbrev deeds : List Deed
    deeds = deeds_of session.held

    abbrev world : World (OriginOf authorities)
    world = at_first (begins_at service inputs peer line fresh old) session.names

    asked_for : Adds (gives called deeds) old.inputs.dialer.asked new.inputs.dialer.asked
    asked_for =
        subst (λ (d : Devices (OriginOf authorities)). Adds (gives called deeds) old.inputs.dialer.asked d.dialer.asked) session.leaves (all_gain called_gains deeds world session.last (held_deeds session.held))

    logged_so : logs.given ≡ grown old.logs.given (text (Permit line) ++ gives logged deeds)
    logged_so = ap (λ (d : Devices (OriginOf authorities)). d.logs.given) (sym session.leaves) ∙ all_gain logged_gains deeds world session.last (held_deeds session.held) ∙ by_both old.logs.given (text (Permit line)) (gives logged deeds)

  -- as the run left it
  held_so : (line : ℕ) → verdict_for command inputs ≡ Permit line → (logs : SinkView) → (session : SessionAs relays (rows line) (first line) (let_in service inputs peer line met) (record (gated_devices mid left) { logs = logs }) h.ending)
      → NotedIf (ending_line service peer h.ending) logs mid.logs → OfGateway authorities relays command service peer rows first inputs (of_session (deeds_of session.held) h.ending) (status_of out) old new
  held_so line permitted logs session noted =
      let start : Devices (OriginOf authorities) = let_in service inputs peer line met in
      let last : Devices (OriginOf authorities) = ends_at left logs new in
      let moved : record (gated_devices mid left) { logs = logs } ≡ last =
      ap (λ (i : SessionInputs). lent left i.input mid.output logs i.dialer i.clock) (sym later.inputs) ∙ ap (λ (o : SinkView). lent left new.inputs.input o logs new.inputs.dialer new.inputs.clock) (sym later.output) in
      let here : SessionAs relays (rows line) (first line) start last h.ending = record { names = session.names; lent = session.lent; last = session.last; held = session.held; leaves = session.leaves ∙ moved } in
      record {
        before = h.before;
        there = there;
        line = line;
        permitted = permitted;
        view = h.view;
        logs = logs;
        session = here;
        deeds = refl;
        talk = session_talk authorities (rows line) (first line) start last h.ending here inputs h.before h.view refl refl out old mid h.over;
        kept = back;
        asked = asked_for line logs here;
        logged = logged_so line logs here;
        told = session_gave here;
        concluded =
            concluded service peer h.ending left.refused (was_refused (deeds_of here.held)) out logs mid new came (was authorities (rows line) (first line) start last h.ending here inputs h.before h.view refl refl) noted tells;
      }

  -- ---- the headline

  module _ (Of : Inputs → Course → ℕ → WorldView → WorldView → Type 0) (make : (course : Course) → OfGateway authorities relays command service peer rows first inputs course (status_of out) old new → Of inputs course (status_of out) old new) (outside : is_at_console command ≡ false)
      (leaves : (line : ℕ) (one other : Answerer authorities) → Untouched service (Deny line) one other → other ≡ one) where
    abbrev Came : Course → Type 0
    Came course = Comes authorities command service peer words Of inputs course (status_of out) old new

    abbrev Denials : Type 0
    Denials = IsSilent (status_of out) old new ⊎ (IsPermitted command inputs (status_of out) ⊎ IsDenied command service peer inputs (status_of out) old new)

    abbrev Held : ℕ → SinkView → Type 0
    Held line logs = HeldAs relays (text (Permit line)) (rows line) (first line) h.ending (patient (timeout_of inputs.rules) met) (record (gated_devices mid left) { logs = logs })

    abbrev course_at : (line : ℕ) (logs : SinkView) → Held line logs → Course
    course_at line logs held = held_course relays (text (Permit line)) (rows line) (first line) h.ending (patient (timeout_of inputs.rules) met) (record (gated_devices mid left) { logs = logs }) held

    held_comes : (line : ℕ) → verdict_for command inputs ≡ Permit line → (logs : SinkView) → NotedIf (ending_line service peer h.ending) logs mid.logs → (held : Held line logs) → Came (course_at line logs held)
    held_comes line permitted logs noted (inl fails) =
        inl (permit_cut no_course refl line permitted (fails_last service peer (text (Permit line)) (patient (timeout_of inputs.rules) met) (gated_devices mid left) logs h.ending h.ending fails.ends noted fails))
    held_comes line permitted logs noted (inr session) = inr (inr (make (of_session (deeds_of session.held) h.ending) (held_so line permitted logs session noted)))

    denied_comes : (line : ℕ) → verdict_for command inputs ≡ Deny line → LogFails (text (Deny line)) begun ended h.ending ⊎ DeniesWhole service words line peer begun ended h.ending → Came no_course × Denials
    denied_comes line denied (inl fails) =
        let cut = deny_cut no_course refl line denied fails in
        let four = cut.status_is in
        (inl cut, inl (record { output = cut.output; undenied = λ one. omega (arith, four, one) }))
    denied_comes line denied (inr whole) =
        let same_answerer : answerer_of authorities h.view ≡ h.before = untouched_deny service leaves (verdict_for command inputs) line h.before (answerer_of authorities h.view) denied h.untouched in
        let kept : GivenBack authorities h.before old.inputs mid.inputs = subst (λ (a : Answerer authorities). GivenBack authorities a old.inputs mid.inputs) same_answerer (over_kept inputs h.ending out old mid authorities h.before h.view h.over) in
        let same : new ≡ mid = denial_same authorities command service words peer inputs old.inputs.dialer mid.inputs.dialer h.before h.view h.ending out old mid new came tells line denied whole in (
          inr (inl (record {
            off = told_off authorities command service words peer inputs old.inputs.dialer mid.inputs.dialer h.before h.view h.ending out old mid new came tells line denied whole outside there kept;
            unheld = refl;
            dialer = ap (λ (w : WorldView). w.inputs.dialer) same ∙ whole.dialer;
          })),
          inr (inr (told_denied authorities command service words peer inputs old.inputs.dialer mid.inputs.dialer h.before h.view h.ending out old mid new came tells line denied whole)),
        )

    abbrev So : Type 0
    So = OfCaller relays service words rows first (verdict_for command inputs) inputs.rules peer begun ended h.ending

    abbrev course_by : So → Course
    course_by so = caller_course relays service words rows first (verdict_for command inputs) inputs.rules peer begun ended h.ending so

    pub caller_headline : (so : So) → ((status_of out ≡ 4) ⊎ (status_of out ≡ 5)) ⊎ IsPassed authorities (verdict_for command inputs) (course_by so).deeds (status_of out) old.inputs mid.inputs → Came (course_by so) × Denials
    caller_headline (inl s) status =
        let deeds : List Deed = (course_at s.line s.logs s.held).deeds in
        let passed : ((status_of out ≡ 4) ⊎ (status_of out ≡ 5)) ⊎ IsPassed authorities (Permit s.line) deeds (status_of out) old.inputs mid.inputs =
        subst (λ (v : Verdict). ((status_of out ≡ 4) ⊎ (status_of out ≡ 5)) ⊎ IsPassed authorities v deeds (status_of out) old.inputs mid.inputs) s.permitted status in (
          held_comes s.line s.permitted s.logs s.noted s.held,
          inr (inl (record { permitted = λ away. ap verdict_status s.permitted; undenied = passed_undenied authorities s.line deeds (status_of out) old.inputs mid.inputs passed })),
        )
    caller_headline (inr d) status = denied_comes d.line d.denied (denial_so service words false (verdict_for command inputs) peer begun ended h.ending d)

-- ---- a run in which no count rose

pub passed_whole : {P : Type 0} (authorities : Authorities) (relays : Bool) (command : Command) (service : Service) (peer : Peer) (rows : ℕ → PlaceTable (acts (OriginOf authorities)) P) (first : ℕ → Row (acts (OriginOf authorities)) P) (name : List ℕ) (records : Bool) (inputs : Inputs) (course : Course) (status : ℕ)
    (old middle new : WorldView) → Quiet old new → ReadsOnly name records old middle → (Session : Type 0) → Session → (at : OfGateway authorities relays command service peer rows first inputs course status middle new) → (line : ℕ) → Permit line ≡ Permit at.line
    → IsPassed authorities (Permit line) course.deeds status old.inputs new.inputs → IsPassedWhole authorities service peer line Session course status old new
passed_whole authorities relays command service peer rows first name records inputs course status old middle new q only Session session at line same passed =
    let Says : Verdict → List Deed → Type 0 = λ v d. new.logs.given ≡ grown old.logs.given (decision_text v service peer ++ gives logged d ++ closing_text service peer course.ending (was_refused d)) in
    let refused = was_refused (deeds_of at.session.held) in
    let closing : List ℕ = closing_text service peer course.ending refused in
    let said : List ℕ = decision_text (Permit at.line) service peer ++ gives logged (deeds_of at.session.held) in
    let start : old.logs.faults ≤ middle.logs.faults = same_from old.logs middle.logs only.logs in
    let low : middle.logs.faults ≤ at.logs.faults = (any_keeps relays at.session).log_drops in
    let closed : new.logs.given ≡ grown at.logs.given closing =
    concluded_whole service peer course.ending refused status at.logs new.logs (λ a b more high rose. q.logs a b (omega (arith, start, low, more)) high rose) at.concluded in
    let here : Says (Permit at.line) (deeds_of at.session.held) = closed ∙ ap (λ (g : Option (List ℕ)). grown g closing) (at.logged ∙ ap (λ (s : SinkView). grown s.given said) only.logs) ∙ by_both old.logs.given said closing in
    record {
      session = session;
      ends = ends_by course.ending refused (subst (λ (n : ℕ). (n ≡ 0) ⊎ (n ≡ 6)) at.concluded.status_is (passed_so authorities line course.deeds status old.inputs new.inputs passed));
      logs = subst (λ (v : Verdict). Says v course.deeds) (sym same) (subst (λ (d : List Deed). Says (Permit at.line) d) at.deeds here);
      passed = passed;
    }

-- the log didn't fail
unfailed : {A : Type 0} (text : List ℕ) (old middle new : WorldView) → Quiet old new → middle.logs ≡ old.logs → FailsWithin text middle new → A
unfailed text old middle new q logs h = absurd (q.logs middle.logs.faults new.logs.faults (same_from old.logs middle.logs logs) (omega (arith)) h.rose)

module _ {P : Type 0} (authorities : Authorities) (relays : Bool) (command : Command) (service : Service) (words : ℕ → List ℕ) (inputs : Inputs) (rows : ℕ → PlaceTable (acts (OriginOf authorities)) P) (first : ℕ → Row (acts (OriginOf authorities)) P) (name : List ℕ) (records : Bool) (out : Outcome)
    (old middle mid new : WorldView) (q : Quiet old new) (only : ReadsOnly name records old middle) (h : Gated authorities service (peer_of command) inputs out middle mid) (tells : TellsIf (fault_line_of out) mid new) (Of : Inputs → Course → ℕ → WorldView → WorldView → Type 0) (course : Course)
    (finish : (line : ℕ) → verdict_for command inputs ≡ Permit line → IsPassed authorities (Permit line) course.deeds (status_of out) old.inputs new.inputs → Of inputs course (status_of out) middle new
    → IsPassedWhole authorities service (peer_of command) line (Of inputs course (status_of out) middle new) course (status_of out) old new) where
  abbrev AtEnd : Verdict → Type 0
  AtEnd verdict = IsServedAtGate authorities verdict service words (peer_of command) (Of inputs course (status_of out) middle new) course (status_of out) old new

  abbrev Passes : Verdict → Type 0
  Passes verdict = IsPassed authorities verdict course.deeds (status_of out) old.inputs new.inputs

  held_whole : (line : ℕ) → Passes (Permit line) → Comes authorities command service (peer_of command) words Of inputs course (status_of out) middle new → verdict_for command inputs ≡ Permit line → AtEnd (Permit line)
  held_whole line passed (inl cut) permitted = unfailed (decision_text (verdict_for command inputs) service (peer_of command)) old middle new q only.logs cut.within
  held_whole line passed (inr (inl barred)) permitted = let clash : Permit line ≡ Deny barred.off.line = sym permitted ∙ barred.off.denied in absurd (cc)
  held_whole line passed (inr (inr x)) permitted = finish line permitted passed x

  pub caller_whole : (verdict : Verdict) → verdict_for command inputs ≡ verdict → Passes verdict → Comes authorities command service (peer_of command) words Of inputs course (status_of out) middle new
      → OfCaller relays service words rows first (verdict_for command inputs) inputs.rules (peer_of command) (begun_for authorities inputs h.before middle) (ended_for authorities h.view mid) h.ending → AtEnd verdict
  caller_whole (Permit line) is passed comes so = held_whole line passed comes is
  caller_whole (Deny line) is passed comes (inl s) = let clash : Deny line ≡ Permit s.line = sym is ∙ s.permitted in absurd (cc)
  caller_whole (Deny line) is passed comes (inr d) =
      let same : Deny d.line ≡ Deny line = sym d.denied ∙ is in
      subst AtEnd same
      (denial_whole authorities command service words (peer_of command) inputs middle.inputs.dialer mid.inputs.dialer h.before h.view h.ending out old middle mid new (over_comes inputs h.ending out middle mid authorities h.before h.view h.over) tells d.line d.denied q only.logs only.output
      (tells_later (fault_line_of out) mid new tells).logs
      (denial_so service words false (verdict_for command inputs) (peer_of command) (begun_for authorities inputs h.before middle) (ended_for authorities h.view mid) h.ending d))
