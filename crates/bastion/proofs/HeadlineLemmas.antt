-- From what a run did to the headline.
use Rattle.std.proofs.Common.{◌≡◌, ◌≢◌, ℕ, List, [], ◌∷◌, refl, sym, ◌∙◌, ap, subst, inl, inr, arith, ◌⊎◌, Bool, true, false}
use Rattle.std.specs.Option.{option_map}
use Rattle.std.specs.Prelude.{Some, Result, Ok, Err}
use Rattle.auth_machine.specs.Book.{BookView}
use Rattle.auth_machine.specs.Port.{BookOrigin, book_port}
use Rattle.authsrv_gate.specs.Dialogue.{rows}
use Rattle.client_service.specs.Conn.{NotedIf}
use Rattle.client_service.specs.Decision.{decision_text}
use Rattle.client_service.specs.Endings.{denied_text}
use Rattle.fw_outside.specs.SinkView.{Gives, SinkView}
use Rattle.fw_outside.specs.DialerView.{DialerView}
use Rattle.fw_outside.specs.KeeperView.{KeeperView}
use Rattle.fw_outside.specs.ToldList.{grown}
use Rattle.fw_outside.specs.declared.failed.Failed as sink
use Rattle.fw_types.specs.declared.ending.Ending.{Ending}
use Rattle.fw_types.specs.declared.ending.Ending.TheVariants as endings
use Rattle.gate_rules.specs.Verdict.{verdict_of}
use Rattle.gate_rules.specs.declared.service.Service.TheVariants as services
use Rattle.gate_rules.specs.declared.verdict.Verdict.{Verdict}
use Rattle.gate_rules.specs.declared.verdict.Verdict.TheVariants.{Permit, Deny}
use Rattle.session_acts.specs.Client.{LogFails}
use Rattle.session_acts.specs.Deeds.{gives}
use Rattle.session_acts.specs.Dummies.{nowhere}
use Rattle.session_acts.specs.Laws.{told}
use Rattle.session_acts.specs.Session.{Session, deeds_of}
use Rattle.session_acts.specs.World.{Devices, devices_with}
use Rattle.bastion.specs.Asking.{IsUndecided}
use Rattle.bastion.specs.Basis.{Course, no_course, of_session}
use Rattle.bastion.specs.Headline.{HeadlineFor, IsDenied, IsPermitted, IsReplied, IsUndone, LogsDenial, OfHistory, begins, lent_to}
use Rattle.bastion.specs.Inputs.{Inputs}
use Rattle.bastion.specs.Outcome.{fault_line_of, is_stopped, status_of, verdict_status}
use Rattle.bastion.specs.Run.{Stops, TellsIf, stopped_by, verdict_for}
use Rattle.bastion.specs.Serving.{Attended, UntouchedAt, book_at_first, devices_at, most_entries, origin_of}
use Rattle.bastion.specs.Status.{IsHeld, IsServed}
use Rattle.bastion.specs.Talk.{IsSilent, IsUnserved, table_kept, was_refused}
use Rattle.bastion.specs.Texts.{print_text, program_of}
use Rattle.bastion.specs.Works.{Announced, AnnouncedRun, PrintsAfter, StaysSo, announced}
use Rattle.bastion.specs.WorldView.{SessionInputs, WorldView}
use Rattle.bastion.specs.declared.outcome.Device.TheVariants as device
use Rattle.bastion.specs.declared.outcome.Outcome.{Outcome}
use Rattle.bastion.specs.declared.outcome.Outcome.TheVariants.{Usage, Unread, Failed, NoMemory, Done, Decided, Ended}
use Rattle.bastion.specs.declared.words.Authorities.TheVariants.{Records}
use Rattle.bastion.specs.declared.words.Client.{Client}
use Rattle.bastion.specs.declared.words.Command.{Command}
use Rattle.bastion.specs.declared.words.Command.TheVariants.{NetaclRun, Authsrv}
use Rattle.bastion.specs.declared.words.Query.{Query}
use Rattle.bastion.proofs.AttendedLemmas.{attended_status}
use Rattle.bastion.proofs.DecidedLemmas.{ByVerdict}
use Rattle.bastion.proofs.DenialLemmas.{DeniesWhole, denial_so, session_gave, told_denied, told_off}
use Rattle.bastion.proofs.LaunchLemmas.{Launching, launched, run_status_by}
use Rattle.bastion.proofs.SessionLemmas.{OfClient, OfSession, lent_outlet, lent_port, serves_so}
use Rattle.bastion.proofs.TalkLemmas.{concluded, session_talk, tells_noted, was}
use Rattle.bastion.proofs.LeftLemmas.{Later, stops_left, tells_later}

-- ---- nothing was done

stops_undenied : (name : List ℕ) (command : Command) (outcome : Outcome) (old new : WorldView) → Stops name command outcome old new → status_of outcome ≢ 1
stops_undenied name command (Unread refusal) old new h is = omega (arith, is)
stops_undenied name command (Failed which) old new h is = omega (arith, is)
stops_undenied name command (NoMemory step) old new h is = omega (arith, is)
stops_undenied name command Usage old new h is = omega (arith, is)
stops_undenied name command Done old new h is = h
stops_undenied name command (Decided verdict) old new h is = h
stops_undenied name command (Ended ending refused) old new h is = h

stops_silent : (name : List ℕ) (command : Command) (outcome : Outcome) (old mid new : WorldView) → Stops name command outcome old mid → Later mid new → IsSilent (status_of outcome) old new
stops_silent name command outcome old mid new h later = record { output = later.output ∙ (stops_left name command outcome old mid h).output; undenied = stops_undenied name command outcome old mid h }

-- ---- what such a run comes to

stops_stopped : (name : List ℕ) (command : Command) (outcome : Outcome) (old new : WorldView) → Stops name command outcome old new → is_stopped outcome ≡ true
stops_stopped name command (Unread refusal) old new h = refl
stops_stopped name command (Failed which) old new h = refl
stops_stopped name command (NoMemory step) old new h = refl
stops_stopped name command Usage old new h = absurd h
stops_stopped name command Done old new h = absurd h
stops_stopped name command (Decided verdict) old new h = absurd h
stops_stopped name command (Ended ending refused) old new h = absurd h

stopped_unheld : (outcome : Outcome) → is_stopped outcome ≡ true → (status_of outcome ≢ 0) × (status_of outcome ≢ 6)
stopped_unheld (Unread refusal) stopped = (λ is. omega (arith, is), λ is. omega (arith, is))
stopped_unheld (Failed which) stopped = (λ is. omega (arith, is), λ is. omega (arith, is))
stopped_unheld (NoMemory step) stopped = (λ is. omega (arith, is), λ is. omega (arith, is))
stopped_unheld Usage stopped = absurd (cc)
stopped_unheld Done stopped = absurd (cc)
stopped_unheld (Decided verdict) stopped = absurd (cc)
stopped_unheld (Ended ending refused) stopped = absurd (cc)

stops_undecided : (name : List ℕ) (command : Command) (outcome : Outcome) (old mid new : WorldView) → Stops name command outcome old mid → TellsIf (fault_line_of outcome) mid new → IsUndecided (status_of outcome) old new
stops_undecided name command outcome old mid new h tells =
    let left = stops_left name command outcome old mid h in
    let later = tells_later (fault_line_of outcome) mid new tells in
    record {
      outcome = outcome;
      stopped = stops_stopped name command outcome old mid h;
      noted = subst (λ (s : SinkView). NotedIf (fault_line_of outcome) s new.logs) left.logs (tells_noted (fault_line_of outcome) mid new tells);
      dialer = ap (λ (i : SessionInputs). i.dialer) later.inputs ∙ left.dialer;
      output = later.output ∙ left.output;
      status_is = refl;
    }

stops_unserved : (name : List ℕ) (command : Command) (outcome : Outcome) (old mid new : WorldView) → Stops name command outcome old mid → Later mid new → IsUnserved (status_of outcome) old new
stops_unserved name command outcome old mid new h later = record {
  silent = stops_silent name command outcome old mid new h later;
  unheld = stopped_unheld outcome (stops_stopped name command outcome old mid h);
  kept = ap table_kept later.inputs ∙ (stops_left name command outcome old mid h).table;
}

stops_undone : (name : List ℕ) (command : Command) (outcome : Outcome) (old mid new : WorldView) → Stops name command outcome old mid → TellsIf (fault_line_of outcome) mid new → IsUndone (status_of outcome) old new
stops_undone name command outcome old mid new h tells =
    let later = tells_later (fault_line_of outcome) mid new tells in
    record {
      undecided = stops_undecided name command outcome old mid new h tells;
      unserved = stops_unserved name command outcome old mid new h later;
      disks = ap (λ (i : SessionInputs). i.disks) later.inputs ∙ (stops_left name command outcome old mid h).disks;
      remote = ap (λ (i : SessionInputs). i.remote) later.inputs ∙ (stops_left name command outcome old mid h).remote;
    }

pub stops_headline : (name : List ℕ) (command : Command) (outcome : Outcome) (course : Course) (old mid new : WorldView) → (h : Stops name command outcome old mid) → TellsIf (fault_line_of outcome) mid new
    → HeadlineFor command (stopped_by name command outcome old mid h) course (status_of outcome) old new
stops_headline name command (Unread refusal) course old mid new h tells = stops_undone name command (Unread refusal) old mid new h tells
stops_headline name command (Failed which) course old mid new h tells = stops_undone name command (Failed which) old mid new h tells
stops_headline name command (NoMemory step) course old mid new h tells = stops_undone name command (NoMemory step) old mid new h tells
stops_headline name command Usage course old mid new h tells = absurd h
stops_headline name command Done course old mid new h tells = absurd h
stops_headline name command (Decided verdict) course old mid new h tells = absurd h
stops_headline name command (Ended ending refused) course old mid new h tells = absurd h

-- ---- netacl

announced_undenied : (line : ℕ) (printing : Result (Unit {0}) sink.Failed) → status_of (announced (Permit line) printing) ≢ 1
announced_undenied line (Ok done) is = omega (arith, is)
announced_undenied line (Err failed) is = omega (arith, is)

announced_deny : (line : ℕ) (printing : Result (Unit {0}) sink.Failed) → announced (Deny line) printing ≡ Decided (Deny line)
announced_deny line (Ok done) = refl
announced_deny line (Err failed) = refl

failed_four : (which : _) (outcome : Outcome) → outcome ≡ Failed which → status_of outcome ≢ 1
failed_four which outcome ends is = let four = ap status_of ends in omega (arith, four, is)

no_line : (outcome : Outcome) (verdict : Verdict) (mid new : WorldView) → outcome ≡ Decided verdict → TellsIf (fault_line_of outcome) mid new → new ≡ mid
no_line outcome verdict mid new is h = let P : Outcome → Type 0 = λ o. TellsIf (fault_line_of o) mid new in subst P is h

pub netacl_by : (command : Command) (query : Query) (inputs : Inputs) (verdict : Verdict) (text : List ℕ) (outcome : Outcome) (old mid new : WorldView) → verdict_for command inputs ≡ verdict → (logging : Result (Unit {0}) sink.Failed)
    → Gives logging (decision_text verdict query.service query.peer) old.logs mid.logs → PrintsAfter logging verdict text outcome old.output mid.output → TellsIf (fault_line_of outcome) mid new
    → LogsDenial command query.service query.peer inputs (status_of outcome) old new
netacl_by command query inputs verdict text outcome old mid new is (Err failed) logged h tells =
    inl (record { output = (tells_later (fault_line_of outcome) mid new tells).output ∙ h.output; undenied = failed_four device.Log outcome h.is })
netacl_by command query inputs (Permit line) text outcome old mid new is (Ok done) logged h tells =
    inr (inl (record {
      permitted = λ outside. ap verdict_status is;
      undenied = subst (λ (o : Outcome). status_of o ≢ 1) (sym h.is) (announced_undenied line h.printing);
    }))
netacl_by command query inputs (Deny line) text outcome old mid new is (Ok done) logged h tells =
    let decided : outcome ≡ Decided (Deny line) = h.is ∙ announced_deny line h.printing in
    inr (inr (record {
      line = line;
      denied = is;
      logged = ap (λ (w : WorldView). w.logs) (no_line outcome (Deny line) mid new decided tells) ∙ logged;
      status_is = ap status_of decided;
    }))

-- a program was started, or not: only after a permission
ends_undenied : (line : ℕ) (outcome : Outcome) → ByVerdict (Permit line) outcome → status_of outcome ≢ 1
ends_undenied line outcome (inl four) is = omega (arith, four, is)
ends_undenied line outcome (inr zero) is = omega (arith, zero, is)

run_permitted : (query : Query) (inputs : Inputs) (verdict : Verdict) (name : List ℕ) (args : List (List ℕ)) (outcome : Outcome) → verdict_of inputs.rules query.peer ≡ verdict → program_of inputs.rules verdict ≡ name ∷ args → ByVerdict verdict outcome
    → IsPermitted (NetaclRun query) inputs (status_of outcome)
run_permitted query inputs (Permit line) name args outcome is words by = record { permitted = λ outside. ap verdict_status is; undenied = ends_undenied line outcome by }
run_permitted query inputs (Deny line) name args outcome is words by = let clash : [] ≡ name ∷ args = words in absurd (cc)

netacl_run_so : (query : Query) (inputs : Inputs) (decided outcome : Outcome) (old middle mid new : WorldView) → (h : Announced query (verdict_of inputs.rules query.peer) (print_text inputs.rules (verdict_of inputs.rules query.peer)) decided old middle) → ByVerdict (verdict_of inputs.rules query.peer) outcome
    → TellsIf (fault_line_of outcome) mid new → StaysSo decided outcome middle mid ⊎ Launching (program_of inputs.rules (verdict_of inputs.rules query.peer)) decided outcome middle mid
    → LogsDenial (NetaclRun query) query.service query.peer inputs (status_of outcome) old new
netacl_run_so query inputs decided outcome old middle mid new h by tells (inl stays) =
    let So : Outcome → Type 0 = λ o. IsSilent (status_of o) old new ⊎ (IsPermitted (NetaclRun query) inputs (status_of o) ⊎ IsDenied (NetaclRun query) query.service query.peer inputs (status_of o) old new) in
    let told : TellsIf (fault_line_of decided) middle new = subst (λ (w : WorldView). TellsIf (fault_line_of decided) w new) stays.same (subst (λ (o : Outcome). TellsIf (fault_line_of o) mid new) stays.is tells) in
    subst So (sym stays.is) (netacl_by (NetaclRun query) query inputs (verdict_of inputs.rules query.peer) _ decided old middle new refl h.logging h.logged h.printed told)
netacl_run_so query inputs decided outcome old middle mid new h by tells (inr l) = inr (inl (run_permitted query inputs (verdict_of inputs.rules query.peer) l.name l.args outcome refl l.words_are by))

pub netacl_run_by : (query : Query) (inputs : Inputs) (outcome : Outcome) (old mid new : WorldView) → AnnouncedRun query (verdict_of inputs.rules query.peer) (print_text inputs.rules (verdict_of inputs.rules query.peer)) (program_of inputs.rules (verdict_of inputs.rules query.peer)) outcome old mid
    → TellsIf (fault_line_of outcome) mid new
    → LogsDenial (NetaclRun query) query.service query.peer inputs (status_of outcome) old new
netacl_run_by query inputs outcome old mid new h tells =
    netacl_run_so query inputs h.decided outcome old h.middle mid new h.announced (run_status_by query (verdict_of inputs.rules query.peer) _ _ outcome old mid h) tells
    (launched (program_of inputs.rules (verdict_of inputs.rules query.peer)) h.decided outcome h.middle mid h.launched)

-- ---- a session

abbrev left_so : SessionInputs → SinkView → BookView → DialerView → SinkView → Devices BookOrigin
left_so inputs output book dialer logs = devices_with (book_port book) inputs.input output logs dialer inputs.clock inputs.dice

-- what a session over a book asked and told
pub record HasHistory (client : Client) (inputs : Inputs) (status : ℕ) (old new : WorldView) : Type 0 where
  pub course : Course
  pub so : OfHistory client inputs course status old new

of_history : (client : Client) (inputs : Inputs) (out : Outcome) (old mid new : WorldView) → (h : Attended client inputs out old mid) → TellsIf (fault_line_of out) mid new
    → OfSession client.console (verdict_for (Authsrv client) inputs) inputs.rules client.peer (devices_at old (book_at_first (origin_of inputs) most_entries h.before) nowhere) (devices_at mid h.book h.dialer) h.ending
    → HasHistory client inputs (status_of out) old new
of_history client inputs out old mid new h tells s =
    let later = tells_later (fault_line_of out) mid new tells in
    let begun : Devices BookOrigin = devices_at old (book_at_first (origin_of inputs) most_entries h.before) nowhere in
    let first : Devices BookOrigin = lent_to client.console inputs.rules begun in
    let row = begins client.console client.peer s.line in
    let left : Devices BookOrigin = left_so new.inputs new.output h.book h.dialer s.logs in
    let Left : SessionInputs → SinkView → Type 0 = λ i o. Session rows row first (left_so i o h.book h.dialer s.logs) h.ending in
    let session : Session rows row first left h.ending =
    subst (λ (o : SinkView). Left new.inputs o) (sym later.output) (subst (λ (i : SessionInputs). Left i mid.output) (sym later.inputs) s.session) in
    let fresh : first.port ≡ begun.port = lent_port client.console inputs.rules begun in
    record {
      course = of_session (deeds_of session.held) h.ending;
      so = record {
        before = h.before;
        keeper = h.over.keeper;
        line = s.line;
        admitted = s.admitted;
        book = h.book;
        dialer = h.dialer;
        logs = s.logs;
        session = session;
        deeds = refl;
        talk = session_talk Records rows row first left h.ending session inputs h.before h.book fresh refl out old mid h.over;
        kept = ap (λ (i : SessionInputs). i.keeper) later.inputs ∙ h.over.kept;
        told = session_gave session ∙ ap (λ (o : SinkView). grown o.given (gives told (deeds_of session.held))) (lent_outlet client.console inputs.rules begun);
        concluded =
            concluded services.Authsrv client.peer h.ending h.book.refused (was_refused (deeds_of session.held)) out s.logs mid new h.over.comes (was Records rows row first left h.ending session inputs h.before h.book fresh refl) s.noted tells;
      };
    }

-- ---- a client of the authentication server

held_undenied : (status : ℕ) (old new : SessionInputs) → IsHeld status old new → status ≢ 1
held_undenied status old new (inl zero) is = omega (arith, zero, is)
held_undenied status old new (inr six) is = let now = six.0 in omega (arith, now, is)

served_undenied : (console : Bool) (verdict : Verdict) (line : ℕ) (status : ℕ) (old new : SessionInputs) → (console ≡ false → verdict ≡ Permit line) → IsServed console verdict status old new → status ≢ 1
served_undenied true verdict line status old new admitted h is = held_undenied status old new h is
served_undenied false (Permit other) line status old new admitted h is = held_undenied status old new h is
served_undenied false (Deny other) line status old new admitted h is = absurd (cc (admitted refl))

session_undenied : (console : Bool) (verdict : Verdict) (line : ℕ) (status : ℕ) (old new : SessionInputs) → (console ≡ false → verdict ≡ Permit line) → ((status ≡ 4) ⊎ (status ≡ 5)) ⊎ IsServed console verdict status old new → status ≢ 1
session_undenied console verdict line status old new admitted (inl (inl four)) is = omega (arith, four, is)
session_undenied console verdict line status old new admitted (inl (inr five)) is = omega (arith, five, is)
session_undenied console verdict line status old new admitted (inr served) is = served_undenied console verdict line status old new admitted served is

ended_log : (out : Outcome) (ending : Ending) (refused : Bool) → out ≡ Ended ending refused → ending ≡ endings.LogFault → status_of out ≡ 4
ended_log out ending refused comes ends = ap status_of (comes ∙ ap (λ (e : Ending). Ended e refused) ends)

-- what the headline says of a client, by its inputs
pub record ClientHeadline (client : Client) (inputs : Inputs) (status : ℕ) (old new : WorldView) : Type 0 where
  pub course : Course
  pub replied : IsReplied client inputs course status old new
  pub denials : LogsDenial (Authsrv client) services.Authsrv client.peer inputs status old new

session_headline : (client : Client) (inputs : Inputs) (out : Outcome) (old mid new : WorldView) → (h : Attended client inputs out old mid) → TellsIf (fault_line_of out) mid new
    → OfSession client.console (verdict_for (Authsrv client) inputs) inputs.rules client.peer (devices_at old (book_at_first (origin_of inputs) most_entries h.before) nowhere) (devices_at mid h.book h.dialer) h.ending
    → ClientHeadline client inputs (status_of out) old new
session_headline client inputs out old mid new h tells s =
    let history = of_history client inputs out old mid new h tells s in
    record {
      course = history.course;
      replied = inr (inr history.so);
      denials = inr (inl (record {
        permitted = λ outside. ap verdict_status (s.admitted outside);
        undenied = session_undenied client.console (verdict_for (Authsrv client) inputs) s.line (status_of out) old.inputs mid.inputs s.admitted (attended_status client inputs out old mid h);
      }));
    }

-- after a client whom the rules deny the keeper is as the load left it
untouched_deny : (console : Bool) (verdict : Verdict) (line : ℕ) (old new : KeeperView) → console ≡ false → verdict ≡ Deny line → UntouchedAt console verdict old new → new ≡ old
untouched_deny true verdict line old new outside denied h = absurd (cc)
untouched_deny false (Permit other) line old new outside denied h = absurd (cc)
untouched_deny false (Deny other) line old new outside denied h = h

denial_headline : (client : Client) (inputs : Inputs) (out : Outcome) (old mid new : WorldView) → (h : Attended client inputs out old mid) → TellsIf (fault_line_of out) mid new → (line : ℕ) → client.console ≡ false → verdict_for (Authsrv client) inputs ≡ Deny line
    → LogFails (decision_text (Deny line) services.Authsrv client.peer) (devices_at old (book_at_first (origin_of inputs) most_entries h.before) nowhere) (devices_at mid h.book h.dialer) h.ending
    ⊎ DeniesWhole services.Authsrv denied_text line client.peer (devices_at old (book_at_first (origin_of inputs) most_entries h.before) nowhere) (devices_at mid h.book h.dialer) h.ending
    → ClientHeadline client inputs (status_of out) old new
denial_headline client inputs out old mid new h tells line outside denied (inl fails) =
    let later = tells_later (fault_line_of out) mid new tells in
    let kept : h.book.keeper ≡ h.before = untouched_deny client.console (verdict_for (Authsrv client) inputs) line h.before h.book.keeper outside denied h.untouched in
    let four : status_of out ≡ 4 = ended_log out h.ending h.book.refused h.over.comes fails.ends in
    let silent : IsSilent (status_of out) old new = record { output = later.output ∙ ap (λ (d : Devices BookOrigin). d.outlet) fails.same; undenied = λ one. omega (arith, four, one) } in
    record {
      course = no_course;
      replied = inl (record {
        silent = silent;
        unheld = (λ none. omega (arith, four, none), λ six. omega (arith, four, six));
        kept =
            ap (option_map (λ (k : KeeperView). k.table)) (ap (λ (i : SessionInputs). i.keeper) later.inputs ∙ h.over.kept ∙ ap (λ (k : KeeperView). Some k) kept ∙ sym h.over.keeper);
      });
      denials = inl silent;
    }
denial_headline client inputs out old mid new h tells line outside denied (inr whole) =
    let kept : h.book.keeper ≡ h.before = untouched_deny client.console (verdict_for (Authsrv client) inputs) line h.before h.book.keeper outside denied h.untouched in
    record {
      course = no_course;
      replied = inr (inl (told_off Records (Authsrv client) services.Authsrv denied_text client.peer inputs nowhere h.dialer h.before h.book h.ending out old mid new h.over.comes tells line denied whole outside h.over.keeper (h.over.kept ∙ ap (λ (k : KeeperView). Some k) kept)));
      denials = inr (inr (told_denied Records (Authsrv client) services.Authsrv denied_text client.peer inputs nowhere h.dialer h.before h.book h.ending out old mid new h.over.comes tells line denied whole));
    }

attended_by : (client : Client) (inputs : Inputs) (out : Outcome) (old mid new : WorldView) → (h : Attended client inputs out old mid) → TellsIf (fault_line_of out) mid new
    → OfClient client.console (verdict_of inputs.rules client.peer) inputs.rules client.peer (devices_at old (book_at_first (origin_of inputs) most_entries h.before) nowhere) (devices_at mid h.book h.dialer) h.ending
    → ClientHeadline client inputs (status_of out) old new
attended_by client inputs out old mid new h tells (inl s) = session_headline client inputs out old mid new h tells s
attended_by client inputs out old mid new h tells (inr d) =
    denial_headline client inputs out old mid new h tells d.line d.outside d.denied
    (denial_so services.Authsrv denied_text client.console (verdict_of inputs.rules client.peer) client.peer (devices_at old (book_at_first (origin_of inputs) most_entries h.before) nowhere) (devices_at mid h.book h.dialer) h.ending d)

pub attended_headline : (client : Client) (inputs : Inputs) (out : Outcome) (old mid new : WorldView) → Attended client inputs out old mid → TellsIf (fault_line_of out) mid new → ClientHeadline client inputs (status_of out) old new
attended_headline client inputs out old mid new h tells =
    attended_by client inputs out old mid new h tells
    (serves_so client.console inputs.rules client.peer (devices_at old (book_at_first (origin_of inputs) most_entries h.before) nowhere) (devices_at mid h.book h.dialer) h.ending h.serves)
