-- In a run in which no count rose, the log has the lines of a client of the authentication server whole.
use Rattle.std.proofs.Common.{arith, ◌≡◌, ◌≤◌, ◌∙◌, refl, sym, ap, subst, ℕ, List, [], ◌++◌, inl, inr, ◌⊎◌, Bool, true, false}
use Rattle.std.specs.Prelude.{Option}
use Rattle.auth_machine.specs.Port.{BookOrigin}
use Rattle.authsrv_gate.specs.Dialogue.{rows, session_row}
use Rattle.client_service.proofs.SinkLemmas.{same_low}
use Rattle.client_service.specs.Decision.{decision_text}
use Rattle.client_service.specs.Endings.{denied_text}
use Rattle.client_service.specs.Meeting.{logged_row, patient, timeout_of}
use Rattle.fw_outside.specs.Counts.{Rose}
use Rattle.fw_outside.specs.SinkView.{SinkView}
use Rattle.fw_outside.specs.ToldList.{grown}
use Rattle.fw_types.specs.declared.ending.Ending.{Ending}
use Rattle.fw_types.specs.declared.peer.Peer.{Peer}
use Rattle.gate_rules.specs.Reading.{RuleBook}
use Rattle.gate_rules.specs.declared.service.Service.TheVariants as services
use Rattle.gate_rules.specs.declared.verdict.Verdict.{Verdict}
use Rattle.gate_rules.specs.declared.verdict.Verdict.TheVariants.{Permit, Deny}
use Rattle.session_acts.specs.Client.{LogsFirst, with_line}
use Rattle.session_acts.specs.Deeds.{Deed}
use Rattle.session_acts.specs.Dummies.{nowhere}
use Rattle.session_acts.specs.Session.{Session, deeds_of}
use Rattle.session_acts.specs.World.{Devices}
use Rattle.session_acts.proofs.ClientLemmas.{logs_first}
use Rattle.session_acts.proofs.ToldLemmas.{by_both, by_nothing}
use Rattle.bastion.specs.Complete.{IsHeldWhole, IsServedWhole, IsWhole, closing_text, opening_text}
use Rattle.bastion.specs.Basis.{Course}
use Rattle.bastion.specs.Headline.{IsReplied, OfHistory, begins, lent_to}
use Rattle.bastion.specs.Inputs.{Inputs}
use Rattle.bastion.specs.Outcome.{fault_line_of, status_of}
use Rattle.bastion.specs.Run.{ReadsOnly, TellsIf, verdict_for}
use Rattle.bastion.specs.Serving.{Attended, book_at_first, devices_at, most_entries, origin_of}
use Rattle.bastion.specs.Status.{IsHeld, IsServed}
use Rattle.bastion.specs.Talk.{was_refused}
use Rattle.bastion.specs.WorldView.{WorldView}
use Rattle.bastion.specs.declared.outcome.Outcome.{Outcome}
use Rattle.bastion.specs.declared.words.Authorities.TheVariants.{Records}
use Rattle.bastion.specs.declared.words.Client.{Client}
use Rattle.bastion.specs.declared.words.Command.TheVariants.{Authsrv}
use Rattle.bastion.proofs.DenialLemmas.{denial_so, denial_whole}
use Rattle.bastion.proofs.LoglessLemmas.{server_logless}
use Rattle.bastion.proofs.QuietLemmas.{Quiet}
use Rattle.bastion.proofs.LeftLemmas.{tells_later}
use Rattle.bastion.proofs.SessionLemmas.{OfClient, serves_so}
use Rattle.bastion.proofs.TalkLemmas.{concluded_later, concluded_whole, ends_by}

-- ---- the lines of a session

-- the log has taken this, and counted nothing
record Begun (text : List ℕ) (old now : SinkView) : Type 0 where
  given : now.given ≡ grown old.given text
  faults : now.faults ≡ old.faults

same_begun : (old now : SinkView) → now ≡ old → Begun [] old now
same_begun old now is = record { given = ap (λ (s : SinkView). s.given) is ∙ by_nothing old.given; faults = ap (λ (s : SinkView). s.faults) is }

permit_begun : (text : List ℕ) (seconds : ℕ) (old left : Devices BookOrigin) (ending : Ending) (session : Session rows (logged_row text (session_row false)) (patient seconds old) left ending) → (Rose old.logs.faults left.logs.faults → ⊥)
    → LogsFirst text rows (session_row false) (patient seconds old) left ending session → Begun text old.logs left.logs
permit_begun text seconds old left ending session never (inl fails) =
    absurd (never (subst (λ (s : SinkView). Rose old.logs.faults s.faults) (sym fails.cut.is) fails.cut.rose))
permit_begun text seconds old left ending session never (inr on) =
    let same : left.logs ≡ record (old.logs) { given = grown old.logs.given text } = server_logless false (with_line text (patient seconds old)) left ending on.rest in
    record { given = ap (λ (s : SinkView). s.given) same; faults = ap (λ (s : SinkView). s.faults) same }

begun_by : (console : Bool) (verdict : Verdict) (line : ℕ) (rules : RuleBook) (peer : Peer) (first left : Devices BookOrigin) (ending : Ending) → (console ≡ false → verdict ≡ Permit line) → (Rose first.logs.faults left.logs.faults → ⊥)
    → Session rows (begins console peer line) (lent_to console rules first) left ending → Begun (opening_text console verdict peer) first.logs left.logs
begun_by true verdict line rules peer first left ending admitted never session = same_begun first.logs left.logs (server_logless true first left ending session)
begun_by false verdict line rules peer first left ending admitted never session =
    let text : List ℕ = decision_text (Permit line) services.Authsrv peer in
    let begun = permit_begun text (timeout_of rules) first left ending session never (logs_first text rows (session_row false) (patient (timeout_of rules) first) left ending session) in
    subst (λ (v : Verdict). Begun (decision_text v services.Authsrv peer) first.logs left.logs) (sym (admitted refl)) begun

-- ---- what a run comes to

-- a session's status is 0 or 6
held_status : (status : ℕ) (old new : WorldView) → IsHeld status old.inputs new.inputs → (status ≡ 0) ⊎ (status ≡ 6)
held_status status old new (inl is) = inl is
held_status status old new (inr at) = inr at.0

history_whole : (name : List ℕ) (client : Client) (inputs : Inputs) (course : Course) (status : ℕ) (old middle new : WorldView) → Quiet old new → ReadsOnly name true old middle → OfHistory client inputs course status middle new → IsHeld status old.inputs new.inputs
    → IsHeldWhole client inputs course status old middle new
history_whole name client inputs course status old middle new q only x held =
    let verdict : Verdict = verdict_for (Authsrv client) inputs in
    let first : Devices BookOrigin = devices_at middle (book_at_first (origin_of inputs) most_entries x.before) nowhere in
    let left : Devices BookOrigin = record (devices_at new x.book x.dialer) { logs = x.logs } in
    let refused : Bool = was_refused (deeds_of x.session.held) in
    let opening : List ℕ = opening_text client.console verdict client.peer in
    let start : old.logs.faults ≤ middle.logs.faults = same_low old.logs.faults middle.logs.faults (ap (λ (l : SinkView). l.faults) only.logs) in
    let after : x.logs.faults ≤ new.logs.faults = concluded_later services.Authsrv client.peer course.ending refused status x.logs new.logs x.concluded in
    let begun = begun_by client.console verdict x.line inputs.rules client.peer first left course.ending x.admitted (q.logs middle.logs.faults x.logs.faults start after) x.session in
    let kept : x.logs.faults ≡ middle.logs.faults = begun.faults in
    let opened : x.logs.given ≡ grown old.logs.given opening = begun.given ∙ ap (λ (l : SinkView). grown l.given opening) only.logs in
    let closing : List ℕ = closing_text services.Authsrv client.peer course.ending refused in
    let closed : new.logs.given ≡ grown x.logs.given closing =
    concluded_whole services.Authsrv client.peer course.ending refused status x.logs new.logs (λ a b low high rose. q.logs a b (omega (arith, start, kept, low)) high rose) x.concluded in
    let Says : List Deed → Type 0 = λ d. new.logs.given ≡ grown old.logs.given (opening ++ closing_text services.Authsrv client.peer course.ending (was_refused d)) in
    record {
      session = x;
      ends = ends_by course.ending refused (subst (λ (n : ℕ). (n ≡ 0) ⊎ (n ≡ 6)) x.concluded.status_is (held_status status old new held));
      logs = subst Says x.deeds (closed ∙ ap (λ (g : Option (List ℕ)). grown g closing) opened ∙ by_both old.logs.given opening closing);
      held = held;
    }

-- a session was held, since it came to an end: the headline says nothing else
held_so : (client : Client) (inputs : Inputs) (course : Course) (line : ℕ) (status : ℕ) (old new middle : WorldView) → (client.console ≡ false → verdict_for (Authsrv client) inputs ≡ Permit line) → IsHeld status old.inputs new.inputs → IsReplied client inputs course status middle new
    → OfHistory client inputs course status middle new
held_so client inputs course line status old new middle admitted (inl zero) (inl unserved) = absurd (unserved.unheld.0 zero)
held_so client inputs course line status old new middle admitted (inr six) (inl unserved) = absurd (unserved.unheld.1 six.0)
held_so client inputs course line status old new middle admitted held (inr (inl off)) = let clash : Permit line ≡ Deny off.line = sym (admitted off.outside) ∙ off.denied in absurd (cc)
held_so client inputs course line status old new middle admitted held (inr (inr history)) = history

-- so the client is at the console, or permitted
held_whole : (console : Bool) (verdict : Verdict) (line : ℕ) (client : Client) (inputs : Inputs) (course : Course) (status : ℕ) (old middle new : WorldView) → (console ≡ false → verdict ≡ Permit line) → IsServed console verdict status old.inputs new.inputs
    → (IsHeld status old.inputs new.inputs → IsHeldWhole client inputs course status old middle new) → IsServedWhole console verdict client inputs course status old middle new
held_whole true verdict line client inputs course status old middle new admitted served whole = whole served
held_whole false (Permit other) line client inputs course status old middle new admitted served whole = whole served
held_whole false (Deny other) line client inputs course status old middle new admitted served whole = absurd (cc (admitted refl))

told_off_whole : (console : Bool) (verdict : Verdict) (line : ℕ) (client : Client) (inputs : Inputs) (course : Course) (status : ℕ) (old middle new : WorldView) → console ≡ false → verdict ≡ Deny line
    → IsWhole (decision_text (Deny line) services.Authsrv client.peer) (denied_text line) 1 status old new → IsServedWhole console verdict client inputs course status old middle new
told_off_whole console verdict line client inputs course status old middle new outside denied whole =
    subst (λ (c : Bool). IsServedWhole c verdict client inputs course status old middle new) (sym outside) (subst (λ (v : Verdict). IsServedWhole false v client inputs course status old middle new) (sym denied) whole)

served_by : (name : List ℕ) (client : Client) (inputs : Inputs) (course : Course) (out : Outcome) (old middle mid new : WorldView) → Quiet old new → ReadsOnly name true old middle → (h : Attended client inputs out middle mid) → TellsIf (fault_line_of out) mid new
    → IsServed client.console (verdict_for (Authsrv client) inputs) (status_of out) old.inputs new.inputs → IsReplied client inputs course (status_of out) middle new
    → OfClient client.console (verdict_for (Authsrv client) inputs) inputs.rules client.peer (devices_at middle (book_at_first (origin_of inputs) most_entries h.before) nowhere) (devices_at mid h.book h.dialer) h.ending
    → IsServedWhole client.console (verdict_for (Authsrv client) inputs) client inputs course (status_of out) old middle new
served_by name client inputs course out old middle mid new q only h tells served replied (inl s) =
    held_whole client.console (verdict_for (Authsrv client) inputs) s.line client inputs course (status_of out) old middle new s.admitted served
    (λ held. history_whole name client inputs course (status_of out) old middle new q only (held_so client inputs course s.line (status_of out) old new middle s.admitted held replied) held)
served_by name client inputs course out old middle mid new q only h tells served replied (inr d) =
    told_off_whole client.console (verdict_for (Authsrv client) inputs) d.line client inputs course (status_of out) old middle new d.outside d.denied
    (denial_whole Records (Authsrv client) services.Authsrv denied_text client.peer inputs nowhere h.dialer h.before h.book h.ending out old middle mid new h.over.comes tells d.line d.denied q only.logs only.output (tells_later (fault_line_of out) mid new tells).logs
    (denial_so services.Authsrv denied_text client.console (verdict_for (Authsrv client) inputs) client.peer (devices_at middle (book_at_first (origin_of inputs) most_entries h.before) nowhere) (devices_at mid h.book h.dialer) h.ending d))

pub attended_whole : (name : List ℕ) (client : Client) (inputs : Inputs) (course : Course) (out : Outcome) (old middle mid new : WorldView) → Quiet old new → ReadsOnly name true old middle → Attended client inputs out middle mid → TellsIf (fault_line_of out) mid new
    → IsServed client.console (verdict_for (Authsrv client) inputs) (status_of out) old.inputs new.inputs → IsReplied client inputs course (status_of out) middle new
    → IsServedWhole client.console (verdict_for (Authsrv client) inputs) client inputs course (status_of out) old middle new
attended_whole name client inputs course out old middle mid new q only h tells served replied =
    served_by name client inputs course out old middle mid new q only h tells served replied
    (serves_so client.console inputs.rules client.peer (devices_at middle (book_at_first (origin_of inputs) most_entries h.before) nowhere) (devices_at mid h.book h.dialer) h.ending h.serves)
