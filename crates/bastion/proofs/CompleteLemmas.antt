-- In a run in which no count rose, all was done.
use Rattle.std.proofs.Common.{arith, ◌≡◌, ◌≤◌, ℕ, List, [], ◌∷◌, ◌++◌, refl, sym, ◌∙◌, ap, subst, inl, inr, ◌⊎◌, Bool, true, false}
use Rattle.std.specs.Prelude.{Option, Some, None, Result, Ok, Err, codes, length, unwrap_or}
use Rattle.drill_lines.specs.Drill.{drilled, tally_text}
use Rattle.drill_lines.specs.declared.plan.Drill as drills
use Rattle.drill_lines.specs.declared.drill_fault.DrillFault.{DrillFault}
use Rattle.drill_lines.specs.declared.drill_fault.DrillFault.TheVariants as faults
use Rattle.drill_lines.specs.declared.tally.Tally.{Tally}
use Rattle.fw_outside.specs.LauncherView.{LauncherView, Starts}
use Rattle.fw_outside.specs.SinkView.{Gives, SinkView}
use Rattle.fw_outside.specs.ToldList.{grown}
use Rattle.fw_outside.specs.declared.failed.Failed as sink
use Rattle.fw_outside.specs.declared.started.Started.{Started}
use Rattle.fw_outside.specs.declared.started.Started.TheVariants as program
use Rattle.fw_types.specs.declared.peer.Peer.{Peer}
use Rattle.gate_rules.specs.Verdict.{verdict_of}
use Rattle.gate_rules.specs.declared.verdict.Verdict.{Verdict}
use Rattle.session_acts.proofs.ToldLemmas.{by_both, by_nothing}
use Rattle.session_acts.specs.Deeds.{Deed}
use Rattle.spool_rack.specs.Opening.{CameBack, IsRackFault}
use Rattle.spool_slots.specs.declared.slot_why.SlotWhy.{SlotWhy}
use Rattle.spool_slots.specs.declared.slot_why.SlotWhy.TheVariants as whys
use Rattle.bastion.specs.Complete.{AllDone, IsAllDone, IsDrilledWhole, IsFormattedWhole, IsJobComplete, IsLaunchedWhole, IsReadWhole, IsRoundWhole, IsServedAtGate, IsStartedWhole, IsTakenWhole, IsToldWhole, IsWhole, OrStrange}
use Rattle.bastion.specs.AtGateway.{Comes}
use Rattle.bastion.specs.Basis.{Course, no_course, of_round}
use Rattle.bastion.specs.Gateways.{denial_words, gateway_service}
use Rattle.bastion.specs.Gating.{Gated}
use Rattle.bastion.specs.Headline.{IsReplied, OfGateKind}
use Rattle.bastion.specs.Inputs.{Inputs, needs_records}
use Rattle.bastion.specs.Jobs.{AreFormatted, DoesJob, DrillsBy, Formats, TellsFormatted, drill_refused, formatted_text}
use Rattle.bastion.specs.Calculating.{Calculates, IsCalculated, IsSpelled, Spells}
use Rattle.bastion.specs.SpellingView.{SpellingView}
use Rattle.bastion.specs.declared.outcome.OtpRefusal.{OtpRefusal}
use Rattle.bastion.specs.Mailing.{Mailed, slot_fault}
use Rattle.bastion.specs.Outcome.{DiskRose, fault_line_of, refusal_text, status_of, verdict_status}
use Rattle.bastion.specs.Run.{ReadsOnly, Stops, TellsIf, Unused, Worked, stopped_by, verdict_for}
use Rattle.bastion.specs.Status.{IsPassed, IsServed, RoseBy, RoseInJob, SomeRose}
use Rattle.client_service.specs.Decision.{decision_text}
use Rattle.bastion.specs.Texts.{ended_text, print_text, program_of}
use Rattle.bastion.specs.Works.{LaunchesIf, PrintsAfter, PrintsEnd, StaysSo, announced, shown, with_given, printed}
use Rattle.bastion.specs.WorldView.{Post, SessionInputs, WorldView}
use Rattle.bastion.specs.declared.outcome.Device.TheVariants as device
use Rattle.bastion.specs.declared.outcome.Outcome.{Outcome}
use Rattle.bastion.specs.declared.outcome.Outcome.TheVariants.{Usage, Unread, Failed, NoMemory, Done, Decided, Ended}
use Rattle.bastion.specs.declared.outcome.Refusal.TheVariants.{Slot, Otp}
use Rattle.bastion.specs.declared.words.Authorities.{Authorities}
use Rattle.bastion.specs.declared.words.Authorities.TheVariants.{Records, Remote}
use Rattle.bastion.specs.declared.words.Command.{Command}
use Rattle.bastion.specs.declared.words.Command.TheVariants.{Netacl, NetaclRun, Table, Authsrv, PlugGw, Gateway, Smap}
use Rattle.bastion.specs.declared.words.GatewayKind.{GatewayKind}
use Rattle.bastion.specs.declared.words.GatewayKind.TheVariants as kinds
use Rattle.bastion.specs.declared.words.Job.{Job}
use Rattle.bastion.specs.declared.words.Job.TheVariants.{Drill, SpoolInit, Smapd, OtpCalc, OtpHex}
use Rattle.bastion.specs.declared.words.Caller.{Caller}
use Rattle.bastion.specs.declared.words.Client.{Client}
use Rattle.bastion.specs.declared.words.Query.{Query}
use Rattle.bastion.proofs.AttendedLemmas.{attended_status}
use Rattle.bastion.proofs.CalculatingLemmas.{ComesBy, calculated_comes, calculated_left, spelled_comes, spelled_left}
use Rattle.bastion.proofs.FtpGatewayLemmas.{ftp_whole}
use Rattle.bastion.proofs.GateStatusLemmas.{gateway_course, gateway_status}
use Rattle.bastion.proofs.GatewayLemmas.{telnet_whole}
use Rattle.bastion.proofs.JobRoseLemmas.{fails_rose}
use Rattle.bastion.proofs.LaunchLemmas.{Launching, launched}
use Rattle.bastion.proofs.LeftLemmas.{calls_launcher, only_left, stops_left, tells_later}
use Rattle.bastion.proofs.RoseLemmas.{StrangeIn, by_later, count_some, rose_some, some_by, some_later, stops_rose, worked_deeds, worked_rose}
use Rattle.bastion.proofs.RunLemmas.{passed_then, served_then}
use Rattle.bastion.proofs.LinkedLemmas.{LinkedHeadline, linked_whole}
use Rattle.bastion.proofs.MailKeptLemmas as kept
use Rattle.bastion.proofs.QuietLemmas.{Quiet, gave_whole, quiet, same_from, same_to}
use Rattle.bastion.proofs.ServedLemmas.{attended_whole}
use Rattle.client_service.proofs.SinkLemmas.{cut_rose, gives_most, same_low}
use Rattle.fw_outside.specs.Counts.{Rose}
use Rattle.smapd_queue.specs.Meeting.{End}
use Rattle.smapd_queue.specs.Meeting.End.{AllTaken, NoneFull, Unlogged, Lacked}
use Rattle.smapd_queue.specs.Round.{answer_of, round_of}
use Rattle.smapd_queue.specs.Sums.{LogGoes}
use Rattle.smapd_queue.specs.Turns.{Turn, lines_of}
use Rattle.smapd_queue.specs.declared.round.Round.{Round}
use Rattle.smapd_queue.specs.declared.round.RoundFault.{RoundFault}
use Rattle.smapd_queue.specs.declared.round.RoundFault.TheVariants as faults_of
use Rattle.smapd_queue.specs.declared.round.Trouble.{Trouble}
use Rattle.smapd_queue.specs.declared.round.Trouble.TheVariants as troubles
use Rattle.bastion.specs.HandingOn.{RoundHeld, TellsRound, outcome_printed, round_text}
use Rattle.bastion.specs.Mailing.{SlotsUnread}
use Rattle.bastion.proofs.HandedLemmas.{handed_turns, round_now, troubled_now}
use Rattle.bastion.proofs.HandedRoseLemmas.{IsTroubled, round_log}
use Rattle.bastion.proofs.MailedLemmas.{served_so, unread_rose}

grown_from : (text : List ℕ) (a b c : SinkView) → b ≡ a → c ≡ with_given b text → c.given ≡ grown a.given text
grown_from text a b c same is = ap (λ (s : SinkView). s.given) is ∙ ap (λ (s : SinkView). grown s.given text) same

grown_none : (a b : SinkView) → b ≡ a → b.given ≡ grown a.given []
grown_none a b is = ap (λ (s : SinkView). s.given) is ∙ by_nothing a.given

-- the log was told a text, and nothing else was done
told_whole : (text : List ℕ) (old mid new : WorldView) → Quiet old new → mid.logs ≡ old.logs → mid.output ≡ old.output → TellsIf (Some text) mid new → (new.logs.given ≡ grown old.logs.given text) × (new.output.given ≡ grown old.output.given [])
told_whole text old mid new q logs output tells =
    let whole : new.logs ≡ with_given mid.logs text = gave_whole tells.told text mid.logs new.logs (q.logs mid.logs.faults new.logs.faults (same_from old.logs mid.logs logs) (same_to new.logs new.logs refl)) tells.logged in
    (grown_from text old.logs mid.logs new.logs logs whole, grown_none old.output new.output (tells.output ∙ output))

pub stops_complete : (name : List ℕ) (command : Command) (outcome : Outcome) (course : Course) (old mid new : WorldView) → (RoseBy command old new → ⊥) → (h : Stops name command outcome old mid) → TellsIf (fault_line_of outcome) mid new
    → AllDone command (stopped_by name command outcome old mid h) course (status_of outcome) old new
stops_complete name command (Unread refusal) course old mid new none h tells =
    let left = stops_left name command (Unread refusal) old mid h in
    let told = told_whole (codes "fault " ++ refusal_text refusal ++ codes "\n") old mid new (quiet old new (λ some. none (some_by command old new some))) left.logs left.output tells in
    record { logs = told.0; output = told.1; status_is = refl }
stops_complete name command (Failed which) course old mid new none h tells =
    absurd (none (some_by command old new (some_later old mid new (tells_later (fault_line_of (Failed which)) mid new tells) (count_some (Failed which) old mid (stops_rose name command (Failed which) old mid h) refl))))
stops_complete name command (NoMemory step) course old mid new none h tells = refl
stops_complete name command Usage course old mid new none h tells = absurd h
stops_complete name command Done course old mid new none h tells = absurd h
stops_complete name command (Decided verdict) course old mid new none h tells = absurd h
stops_complete name command (Ended ending refused) course old mid new none h tells = absurd h

-- ---- netacl and table

undecided : (outcome : Outcome) (verdict : Verdict) (mid new : WorldView) → outcome ≡ Decided verdict → TellsIf (fault_line_of outcome) mid new → new ≡ mid
undecided outcome verdict mid new is h = let P : Outcome → Type 0 = λ o. TellsIf (fault_line_of o) mid new in subst P is h

grown_by : (text : List ℕ) (a b c d : SinkView) → b ≡ a → c ≡ with_given b text → d ≡ c → d.given ≡ grown a.given text
grown_by text a b c d same is then_ = ap (λ (s : SinkView). s.given) then_ ∙ grown_from text a b c same is

netacl_prints : (verdict : Verdict) (line text : List ℕ) (outcome : Outcome) (old middle mid new : WorldView) → Quiet old new → middle.logs ≡ old.logs → middle.output ≡ old.output → mid.logs ≡ with_given middle.logs line
    → (printing : Result (Unit {0}) sink.Failed) → outcome ≡ announced verdict printing → Gives printing text middle.output mid.output → TellsIf (fault_line_of outcome) mid new
    → IsWhole line text (verdict_status verdict) (status_of outcome) old new
netacl_prints verdict line text outcome old middle mid new q logs output logged (Ok done) is gives tells =
    let same : new ≡ mid = undecided outcome verdict mid new is tells in
    record {
      logs = grown_by line old.logs middle.logs mid.logs new.logs logs logged (ap (λ (w : WorldView). w.logs) same);
      output = grown_by text old.output middle.output mid.output new.output output gives (ap (λ (w : WorldView). w.output) same);
      status_is = ap status_of is;
    }
netacl_prints verdict line text outcome old middle mid new q logs output logged (Err failed) is gives tells =
    absurd (q.output middle.output.faults mid.output.faults (same_from old.output middle.output output) (same_from mid.output new.output (tells_later (fault_line_of outcome) mid new tells).output) (cut_rose text middle.output mid.output gives))

netacl_whole : (verdict : Verdict) (line text : List ℕ) (outcome : Outcome) (old middle mid new : WorldView) → Quiet old new → middle.logs ≡ old.logs → middle.output ≡ old.output → (logging : Result (Unit {0}) sink.Failed)
    → Gives logging line middle.logs mid.logs → PrintsAfter logging verdict text outcome middle.output mid.output → TellsIf (fault_line_of outcome) mid new → IsWhole line text (verdict_status verdict) (status_of outcome) old new
netacl_whole verdict line text outcome old middle mid new q logs output (Ok done) logged h tells = netacl_prints verdict line text outcome old middle mid new q logs output logged h.printing h.is h.gives tells
netacl_whole verdict line text outcome old middle mid new q logs output (Err failed) logged h tells =
    absurd (q.logs middle.logs.faults mid.logs.faults (same_from old.logs middle.logs logs) (tells_later (fault_line_of outcome) mid new tells).logs (cut_rose line middle.logs mid.logs logged))

table_whole : (verdict : Verdict) (text : List ℕ) (outcome : Outcome) (old middle mid new : WorldView) → Quiet old new → middle.logs ≡ old.logs → middle.output ≡ old.output → mid.logs ≡ middle.logs → (printing : Result (Unit {0}) sink.Failed)
    → outcome ≡ shown verdict printing → Gives printing text middle.output mid.output → TellsIf (fault_line_of outcome) mid new → IsWhole [] text (verdict_status verdict) (status_of outcome) old new
table_whole verdict text outcome old middle mid new q logs output unlogged (Ok done) is gives tells =
    let same : new ≡ mid = undecided outcome verdict mid new is tells in
    record {
      logs = grown_none old.logs new.logs (ap (λ (w : WorldView). w.logs) same ∙ unlogged ∙ logs);
      output = grown_by text old.output middle.output mid.output new.output output gives (ap (λ (w : WorldView). w.output) same);
      status_is = ap status_of is;
    }
table_whole verdict text outcome old middle mid new q logs output unlogged (Err failed) is gives tells =
    absurd (q.output middle.output.faults mid.output.faults (same_from old.output middle.output output) (same_from mid.output new.output (tells_later (fault_line_of outcome) mid new tells).output) (cut_rose text middle.output mid.output gives))

-- ---- netacl -run

-- the program of a permission was started, and its end printed; or there was none
record LaunchedWhole (words : List (List ℕ)) (verdict : Verdict) (outcome : Outcome) (old new : WorldView) : Type 0 where
  printed : List ℕ
  launched : IsLaunchedWhole words printed old.inputs.launcher new.inputs.launcher
  output : new.output.given ≡ grown old.output.given printed
  logs : new.logs ≡ old.logs
  comes : outcome ≡ Decided verdict

ended_whole : (name : List ℕ) (args : List (List ℕ)) (verdict : Verdict) (outcome : Outcome) (old new : WorldView) → (status_of outcome ≡ 4 → ⊥) → (status : ℕ) → Starts (program.Ended status) name args old.inputs.launcher new.inputs.launcher
    → (printing : Result (Unit {0}) sink.Failed) → outcome ≡ shown verdict printing → Gives printing (ended_text status) old.output new.output → new.logs ≡ old.logs → LaunchedWhole (name ∷ args) verdict outcome old new
ended_whole name args verdict outcome old new never status starts (Ok done) is gives logs = record {
  printed = ended_text status;
  launched = record { status = status; starts = starts; text = refl };
  output = ap (λ (s : SinkView). s.given) gives;
  logs = logs;
  comes = is;
}
ended_whole name args verdict outcome old new never status starts (Err failed) is gives logs = absurd (never (ap status_of is))

launches_whole : (name : List ℕ) (args : List (List ℕ)) (verdict : Verdict) (outcome : Outcome) (old new : WorldView) → (status_of outcome ≡ 4 → ⊥) → (answer : Started) (after : LauncherView) → Starts answer name args old.inputs.launcher after → new.inputs.launcher ≡ after
    → PrintsEnd answer verdict outcome old.output new.output → new.logs ≡ old.logs → LaunchedWhole (name ∷ args) verdict outcome old new
launches_whole name args verdict outcome old new never (program.Ended status) after starts is h logs =
    ended_whole name args verdict outcome old new never status (subst (λ (l : LauncherView). Starts (program.Ended status) name args old.inputs.launcher l) (sym is) starts) h.printing h.is h.gives logs
launches_whole name args verdict outcome old new never program.Failed after starts is h logs = absurd (never (ap status_of h.0))

launched_whole : (words : List (List ℕ)) (verdict : Verdict) (outcome : Outcome) (old new : WorldView) → (status_of outcome ≡ 4 → ⊥) → LaunchesIf words (Decided verdict) outcome old new → LaunchedWhole words verdict outcome old new
launched_whole [] verdict outcome old new never h = record {
  printed = [];
  launched = (refl, ap (λ (w : WorldView). w.inputs.launcher) h.same);
  output = grown_none old.output new.output (ap (λ (w : WorldView). w.output) h.same);
  logs = ap (λ (w : WorldView). w.logs) h.same;
  comes = h.is;
}
launched_whole (name ∷ args) verdict outcome old new never h = launches_whole name args verdict outcome old new never h.answer h.after h.starts (ap (λ (i : SessionInputs). i.launcher) h.inputs) h.printed h.logs

-- how an ended run is told: the log has the decision, and the output the decision and the program's end
started_whole : (query : Query) (inputs : Inputs) (outcome : Outcome) (old middle between mid new : WorldView) → middle.logs ≡ old.logs → middle.output ≡ old.output → middle.inputs.launcher ≡ old.inputs.launcher
    → between.logs ≡ with_given middle.logs (decision_text (verdict_of inputs.rules query.peer) query.service query.peer) → between.output ≡ with_given middle.output (print_text inputs.rules (verdict_of inputs.rules query.peer)) → between.inputs ≡ middle.inputs
    → LaunchedWhole (program_of inputs.rules (verdict_of inputs.rules query.peer)) (verdict_of inputs.rules query.peer) outcome between mid → TellsIf (fault_line_of outcome) mid new → IsStartedWhole query inputs (status_of outcome) old new
started_whole query inputs outcome old middle between mid new logs output launcher logged printed same h tells =
    let verdict : Verdict = verdict_of inputs.rules query.peer in
    let text : List ℕ = print_text inputs.rules verdict in
    let ends : new ≡ mid = undecided outcome verdict mid new h.comes tells in
    let was : between.inputs.launcher ≡ old.inputs.launcher = ap (λ (i : SessionInputs). i.launcher) same ∙ launcher in
    let Launched : LauncherView → LauncherView → Type 0 = λ a b. IsLaunchedWhole (program_of inputs.rules verdict) h.printed a b in
    record {
      printed = h.printed;
      launched = subst (λ (l : LauncherView). Launched l new.inputs.launcher) was (subst (λ (w : WorldView). Launched between.inputs.launcher w.inputs.launcher) (sym ends) h.launched);
      whole = record {
        logs = grown_by (decision_text verdict query.service query.peer) old.logs middle.logs between.logs new.logs logs logged (ap (λ (w : WorldView). w.logs) ends ∙ h.logs);
        output =
            ap (λ (w : WorldView). w.output.given) ends ∙ h.output ∙ ap (λ (s : SinkView). grown s.given h.printed) printed ∙ by_both middle.output.given text h.printed
            ∙ ap (λ (s : SinkView). grown s.given (text ++ h.printed)) output;
        status_is = ap status_of h.comes;
      };
    }

program_low : (answer : Started) (verdict : Verdict) (outcome : Outcome) (old new : SinkView) → PrintsEnd answer verdict outcome old new → old.faults ≤ new.faults
program_low (program.Ended status) verdict outcome old new h = gives_most h.printing _ old new h.gives
program_low program.Failed verdict outcome old new h = same_low old.faults new.faults (ap (λ (s : SinkView). s.faults) h.1)

launched_low : (words : List (List ℕ)) (decided outcome : Outcome) (old new : WorldView) → StaysSo decided outcome old new ⊎ Launching words decided outcome old new → old.output.faults ≤ new.output.faults
launched_low words decided outcome old new (inl stays) = same_low old.output.faults new.output.faults (ap (λ (w : WorldView). w.output.faults) stays.same)
launched_low words decided outcome old new (inr l) = program_low l.launches.answer l.verdict outcome old.output new.output l.launches.printed

-- a log that failed ends the run
unlogged : {A : Type 0} (words : List (List ℕ)) (decided outcome : Outcome) (old new : WorldView) → (status_of outcome ≡ 4 → ⊥) → decided ≡ Failed device.Log → StaysSo decided outcome old new ⊎ Launching words decided outcome old new → A
unlogged words decided outcome old new never is (inl stays) = absurd (never (ap status_of (stays.is ∙ is)))
unlogged words decided outcome old new never is (inr l) = let clash : Decided l.verdict ≡ Failed device.Log = sym l.decided_is ∙ is in absurd (cc)

run_prints : (query : Query) (inputs : Inputs) (decided outcome : Outcome) (old middle between mid new : WorldView) → Quiet old new → (status_of outcome ≡ 4 → ⊥) → middle.logs ≡ old.logs → middle.output ≡ old.output → middle.inputs.launcher ≡ old.inputs.launcher
    → between.logs ≡ with_given middle.logs (decision_text (verdict_of inputs.rules query.peer) query.service query.peer) → between.inputs ≡ middle.inputs
    → (printing : Result (Unit {0}) sink.Failed) → decided ≡ announced (verdict_of inputs.rules query.peer) printing → Gives printing (print_text inputs.rules (verdict_of inputs.rules query.peer)) middle.output between.output
    → LaunchesIf (program_of inputs.rules (verdict_of inputs.rules query.peer)) decided outcome between mid → TellsIf (fault_line_of outcome) mid new → IsStartedWhole query inputs (status_of outcome) old new
run_prints query inputs decided outcome old middle between mid new q never logs output launcher logged same (Ok done) is gives h tells =
    let Launches : Outcome → Type 0 = λ o. LaunchesIf (program_of inputs.rules (verdict_of inputs.rules query.peer)) o outcome between mid in
    started_whole query inputs outcome old middle between mid new logs output launcher logged gives same
    (launched_whole (program_of inputs.rules (verdict_of inputs.rules query.peer)) (verdict_of inputs.rules query.peer) outcome between mid never (subst Launches is h)) tells
run_prints query inputs decided outcome old middle between mid new q never logs output launcher logged same (Err failed) is gives h tells =
    let low : between.output.faults ≤ mid.output.faults = launched_low (program_of inputs.rules (verdict_of inputs.rules query.peer)) decided outcome between mid (launched (program_of inputs.rules (verdict_of inputs.rules query.peer)) decided outcome between mid h) in
    let later : mid.output.faults ≤ new.output.faults = same_from mid.output new.output (tells_later (fault_line_of outcome) mid new tells).output in
    absurd (q.output middle.output.faults between.output.faults (same_from old.output middle.output output) (omega (arith, low, later)) (cut_rose (print_text inputs.rules (verdict_of inputs.rules query.peer)) middle.output between.output gives))

run_whole : (query : Query) (inputs : Inputs) (decided outcome : Outcome) (old middle between mid new : WorldView) → Quiet old new → (status_of outcome ≡ 4 → ⊥) → middle.logs ≡ old.logs → middle.output ≡ old.output → middle.inputs.launcher ≡ old.inputs.launcher → between.inputs ≡ middle.inputs
    → (logging : Result (Unit {0}) sink.Failed) → Gives logging (decision_text (verdict_of inputs.rules query.peer) query.service query.peer) middle.logs between.logs
    → PrintsAfter logging (verdict_of inputs.rules query.peer) (print_text inputs.rules (verdict_of inputs.rules query.peer)) decided middle.output between.output
    → LaunchesIf (program_of inputs.rules (verdict_of inputs.rules query.peer)) decided outcome between mid → TellsIf (fault_line_of outcome) mid new → IsStartedWhole query inputs (status_of outcome) old new
run_whole query inputs decided outcome old middle between mid new q never logs output launcher same (Ok done) logged printed h tells =
    run_prints query inputs decided outcome old middle between mid new q never logs output launcher logged same printed.printing printed.is printed.gives h tells
run_whole query inputs decided outcome old middle between mid new q never logs output launcher same (Err failed) logged printed h tells =
    unlogged (program_of inputs.rules (verdict_of inputs.rules query.peer)) decided outcome between mid never printed.is (launched (program_of inputs.rules (verdict_of inputs.rules query.peer)) decided outcome between mid h)

-- ---- all commands

-- a status of 4 is for a count that rose, or for something strange
no_four : (name : List ℕ) (command : Command) (outcome : Outcome) (old mid new : WorldView) → (RoseBy command old new → ⊥) → (h : Worked name command outcome old mid) → TellsIf (fault_line_of outcome) mid new → status_of outcome ≡ 4
    → StrangeIn command (worked_deeds name command outcome old mid h)
no_four name command outcome old mid new none h tells four = by (rose_some command (worked_deeds name command outcome old mid h) outcome old mid (worked_rose name command outcome old mid h) four)
  where
    by : StrangeIn command (worked_deeds name command outcome old mid h) ⊎ RoseBy command old mid → StrangeIn command (worked_deeds name command outcome old mid h)
    by (inl strange) = strange
    by (inr rose) = absurd (none (by_later command old mid new (tells_later (fault_line_of outcome) mid new tells) rose))

pub served_complete : (name : List ℕ) (client : Client) (outcome : Outcome) (course : Course) (old mid new : WorldView) → (SomeRose old new → ⊥) → (h : Worked name (Authsrv client) outcome old mid) → TellsIf (fault_line_of outcome) mid new → IsReplied client h.inputs course (status_of outcome) h.middle new
    → (status_of outcome ≡ 5) ⊎ IsAllDone (Authsrv client) h.inputs course (status_of outcome) old h.middle new
served_complete name client outcome course old mid new none h tells replied = by (attended_status client h.inputs outcome h.middle mid h.works)
  where
    by : ((status_of outcome ≡ 4) ⊎ (status_of outcome ≡ 5)) ⊎ IsServed client.console (verdict_of h.inputs.rules client.peer) (status_of outcome) h.middle.inputs mid.inputs
        → (status_of outcome ≡ 5) ⊎ IsAllDone (Authsrv client) h.inputs course (status_of outcome) old h.middle new
    by (inl (inl four)) = absurd (no_four name (Authsrv client) outcome old mid new none h tells four)
    by (inl (inr five)) = inl five
    by (inr served) =
        let later = tells_later (fault_line_of outcome) mid new tells in
        let left = only_left name true old h.middle h.only in
        inr (attended_whole name client h.inputs course outcome old h.middle mid new (quiet old new none) h.only h.works tells
        (served_then client.console (verdict_of h.inputs.rules client.peer) (status_of outcome) h.middle.inputs mid.inputs old.inputs new.inputs left.input left.clock later.inputs served) replied)

pub linked_complete : (name : List ℕ) (caller : Caller) (outcome : Outcome) (course : Course) (old mid new : WorldView) → (RoseBy (PlugGw caller) old new → ⊥) → (h : Worked name (PlugGw caller) outcome old mid) → TellsIf (fault_line_of outcome) mid new
    → LinkedHeadline caller h.inputs course.ending (status_of outcome) h.middle new → (status_of outcome ≡ 5) ⊎ IsAllDone (PlugGw caller) h.inputs course (status_of outcome) old h.middle new
linked_complete name caller outcome course old mid new none h tells so =
    linked_whole name caller h.inputs course outcome old h.middle mid new (quiet old new (λ some. none (inl some))) (no_four name (PlugGw caller) outcome old mid new none h tells) h.only h.works so

-- what the headline says of a client of a gateway
abbrev pub GateComes : GatewayKind → Authorities → Peer → Inputs → Course → ℕ → WorldView → WorldView → Type 0
GateComes kind authorities peer inputs course status old new = Comes authorities (Gateway kind authorities peer) (gateway_service kind) peer (denial_words kind) (OfGateKind kind authorities peer) inputs course status old new

abbrev ServedAtGate : GatewayKind → Authorities → Peer → Inputs → Course → ℕ → WorldView → WorldView → WorldView → Type 0
ServedAtGate kind authorities peer inputs course status old middle new =
    IsServedAtGate authorities (verdict_for (Gateway kind authorities peer) inputs) (gateway_service kind) (denial_words kind) peer (OfGateKind kind authorities peer inputs course status middle new) course status old new

gateway_whole : (kind : GatewayKind) (name : List ℕ) (records : Bool) (authorities : Authorities) (peer : Peer) (inputs : Inputs) (out : Outcome) (old middle mid new : WorldView) → Quiet old new → ReadsOnly name records old middle → (h : Gated authorities (gateway_service kind) peer inputs out middle mid)
    → TellsIf (fault_line_of out) mid new → IsPassed authorities (verdict_of inputs.rules peer) (gateway_course kind authorities peer inputs out middle mid h).deeds (status_of out) old.inputs new.inputs
    → GateComes kind authorities peer inputs (gateway_course kind authorities peer inputs out middle mid h) (status_of out) middle new → ServedAtGate kind authorities peer inputs (gateway_course kind authorities peer inputs out middle mid h) (status_of out) old middle new
gateway_whole kinds.Telnet name records authorities peer inputs out old middle mid new q only h tells passed comes = telnet_whole name records authorities peer inputs out old middle mid new q only h tells passed comes
gateway_whole kinds.Ftp name records authorities peer inputs out old middle mid new q only h tells passed comes = ftp_whole name records authorities peer inputs out old middle mid new q only h tells passed comes

or_whole : (authorities : Authorities) (deeds : List Deed) (Whole : Type 0) → Whole → OrStrange authorities deeds Whole
or_whole Records deeds Whole whole = whole
or_whole Remote deeds Whole whole = inr whole

or_strange : (kind : GatewayKind) (authorities : Authorities) (peer : Peer) (deeds : List Deed) (Whole : Type 0) → StrangeIn (Gateway kind authorities peer) deeds → OrStrange authorities deeds Whole
or_strange kind Records peer deeds Whole strange = absurd strange
or_strange kind Remote peer deeds Whole strange = inl strange

pub gateway_complete : (name : List ℕ) (kind : GatewayKind) (authorities : Authorities) (peer : Peer) (outcome : Outcome) (old mid new : WorldView) → (RoseBy (Gateway kind authorities peer) old new → ⊥) → (h : Worked name (Gateway kind authorities peer) outcome old mid) → TellsIf (fault_line_of outcome) mid new
    → GateComes kind authorities peer h.inputs (gateway_course kind authorities peer h.inputs outcome h.middle mid h.works) (status_of outcome) h.middle new
    → (status_of outcome ≡ 5) ⊎ IsAllDone (Gateway kind authorities peer) h.inputs (gateway_course kind authorities peer h.inputs outcome h.middle mid h.works) (status_of outcome) old h.middle new
gateway_complete name kind authorities peer outcome old mid new none h tells comes = by (gateway_status kind authorities peer h.inputs outcome h.middle mid h.works)
  where
    by : ((status_of outcome ≡ 4) ⊎ (status_of outcome ≡ 5)) ⊎ IsPassed authorities (verdict_of h.inputs.rules peer) (gateway_course kind authorities peer h.inputs outcome h.middle mid h.works).deeds (status_of outcome) h.middle.inputs mid.inputs
        → (status_of outcome ≡ 5) ⊎ IsAllDone (Gateway kind authorities peer) h.inputs (gateway_course kind authorities peer h.inputs outcome h.middle mid h.works) (status_of outcome) old h.middle new
    by (inl (inl four)) =
        inr (or_strange kind authorities peer (gateway_course kind authorities peer h.inputs outcome h.middle mid h.works).deeds (ServedAtGate kind authorities peer h.inputs (gateway_course kind authorities peer h.inputs outcome h.middle mid h.works) (status_of outcome) old h.middle new)
        (no_four name (Gateway kind authorities peer) outcome old mid new none h tells four))
    by (inl (inr five)) = inl five
    by (inr passed) =
        let later = tells_later (fault_line_of outcome) mid new tells in
        let records : Bool = needs_records (Gateway kind authorities peer) in
        let left = only_left name records old h.middle h.only in
        let course : Course = gateway_course kind authorities peer h.inputs outcome h.middle mid h.works in
        inr (or_whole authorities course.deeds (ServedAtGate kind authorities peer h.inputs course (status_of outcome) old h.middle new)
        (gateway_whole kind name records authorities peer h.inputs outcome old h.middle mid new (quiet old new (λ some. none (some_by (Gateway kind authorities peer) old new some))) h.only h.works tells
        (passed_then authorities (verdict_of h.inputs.rules peer) course.deeds (status_of outcome) h.middle.inputs mid.inputs old.inputs new.inputs left.input left.clock later.inputs passed) comes))

-- a slot has no reading, or there was no memory
bad_done : (name : List ℕ) (peer : Peer) (outcome : Outcome) (course : Course) (old mid new : WorldView) → Quiet old new → (status_of outcome ≡ 4 → ⊥) → (h : Worked name (Smap peer) outcome old mid) → TellsIf (fault_line_of outcome) mid new → (slot : ℕ) (why : SlotWhy)
    → IsRackFault (Unit {0}) h.middle.inputs.disks slot why mid.inputs.disks → outcome ≡ slot_fault slot why → mid.logs ≡ h.middle.logs → mid.output ≡ h.middle.output → (status_of outcome ≡ 5) ⊎ IsAllDone (Smap peer) h.inputs course (status_of outcome) old h.middle new
bad_done name peer outcome course old mid new q never h tells slot whys.DiskFault fault comes logs output = absurd (never (ap status_of comes))
bad_done name peer outcome course old mid new q never h tells slot whys.NoMemory fault comes logs output = inl (ap status_of comes)
bad_done name peer outcome course old mid new q never h tells slot (whys.BadSlot at) (inl none) comes logs output = let clash : whys.BadSlot at ≡ whys.NoMemory = none.1 in absurd (cc)
bad_done name peer outcome course old mid new q never h tells slot (whys.BadSlot at) (inr came) comes logs output =
    let told : TellsIf (Some (codes "fault " ++ refusal_text (Slot slot at) ++ codes "\n")) mid new = subst (λ (o : Outcome). TellsIf (fault_line_of o) mid new) comes tells in
    let whole = told_whole (codes "fault " ++ refusal_text (Slot slot at) ++ codes "\n") old mid new q (logs ∙ h.only.logs) (output ∙ h.only.output) told in
    let Came : SessionInputs → SessionInputs → Type 0 = λ a b. CameBack (Unit {0}) 0 slot (whys.BadSlot at) a.disks b.disks in
    inr (inl (record {
      slot = slot;
      at = at;
      bad = record { came = subst (λ (i : SessionInputs). Came i new.inputs) h.only.inputs (subst (λ (i : SessionInputs). Came h.middle.inputs i) (sym (tells_later (fault_line_of outcome) mid new tells).inputs) came) };
      whole = record { logs = whole.0; output = whole.1; status_is = ap status_of comes };
    }))

taken_done : (peer : Peer) (inputs : Inputs) (outcome : Outcome) (course : Course) (old middle new : WorldView) → (status_of outcome ≡ 5) ⊎ IsTakenWhole (verdict_for (Smap peer) inputs) peer inputs course (status_of outcome) old middle new
    → (status_of outcome ≡ 5) ⊎ IsAllDone (Smap peer) inputs course (status_of outcome) old middle new
taken_done peer inputs outcome course old middle new (inl five) = inl five
taken_done peer inputs outcome course old middle new (inr whole) = inr (inr whole)

mailed_done : (name : List ℕ) (peer : Peer) (outcome : Outcome) (old mid new : WorldView) → Quiet old new → (status_of outcome ≡ 4 → ⊥) → (h : Worked name (Smap peer) outcome old mid) → (tells : TellsIf (fault_line_of outcome) mid new)
    → (m : Mailed peer h.inputs outcome h.middle mid) → (status_of outcome ≡ 5) ⊎ IsAllDone (Smap peer) h.inputs (kept.mail_course peer h.inputs outcome h.middle mid new m tells) (status_of outcome) old h.middle new
mailed_done name peer outcome old mid new q never h tells (inl u) =
    bad_done name peer outcome no_course old mid new q never h tells u.slot u.why u.fault u.comes (ap (λ (w : WorldView). w.logs) u.is) (ap (λ (w : WorldView). w.output) u.is)
mailed_done name peer outcome old mid new q never h tells (inr s) =
    taken_done peer h.inputs outcome (kept.course_by peer h.inputs outcome h.middle mid new s tells (served_so peer h.inputs outcome h.middle mid s)) old h.middle new (kept.served_whole name peer h.inputs outcome old h.middle mid new q never h.only s tells)

pub mailed_complete : (name : List ℕ) (peer : Peer) (outcome : Outcome) (old mid new : WorldView) → (RoseBy (Smap peer) old new → ⊥) → (h : Worked name (Smap peer) outcome old mid) → (tells : TellsIf (fault_line_of outcome) mid new)
    → (status_of outcome ≡ 5) ⊎ IsAllDone (Smap peer) h.inputs (kept.mail_course peer h.inputs outcome h.middle mid new h.works tells) (status_of outcome) old h.middle new
mailed_complete name peer outcome old mid new none h tells = mailed_done name peer outcome old mid new (quiet old new (λ some. none (inl some))) (no_four name (Smap peer) outcome old mid new none h tells) h tells h.works

pub netacl_complete : (name : List ℕ) (query : Query) (outcome : Outcome) (course : Course) (old mid new : WorldView) → (SomeRose old new → ⊥) → (h : Worked name (Netacl query) outcome old mid) → TellsIf (fault_line_of outcome) mid new
    → (status_of outcome ≡ 5) ⊎ IsAllDone (Netacl query) h.inputs course (status_of outcome) old h.middle new
netacl_complete name query outcome course old mid new none h tells =
    inr (netacl_whole (verdict_of h.inputs.rules query.peer) _ _ outcome old h.middle mid new (quiet old new none) h.only.logs h.only.output h.works.logging h.works.logged h.works.printed tells)

pub netacl_run_complete : (name : List ℕ) (query : Query) (outcome : Outcome) (course : Course) (old mid new : WorldView) → (SomeRose old new → ⊥) → (h : Worked name (NetaclRun query) outcome old mid) → TellsIf (fault_line_of outcome) mid new
    → (status_of outcome ≡ 5) ⊎ IsAllDone (NetaclRun query) h.inputs course (status_of outcome) old h.middle new
netacl_run_complete name query outcome course old mid new none h tells =
    inr (run_whole query h.inputs h.works.decided outcome old h.middle h.works.middle mid new (quiet old new none) (no_four name (NetaclRun query) outcome old mid new none h tells) h.only.logs h.only.output
    (calls_launcher false old.inputs h.middle.inputs h.only.inputs) h.works.announced.inputs h.works.announced.logging h.works.announced.logged h.works.announced.printed h.works.launched tells)

pub table_complete : (name : List ℕ) (query : Query) (outcome : Outcome) (course : Course) (old mid new : WorldView) → (SomeRose old new → ⊥) → (h : Worked name (Table query) outcome old mid) → TellsIf (fault_line_of outcome) mid new
    → (status_of outcome ≡ 5) ⊎ IsAllDone (Table query) h.inputs course (status_of outcome) old h.middle new
table_complete name query outcome course old mid new none h tells =
    inr (table_whole (verdict_of h.inputs.rules query.peer) _ outcome old h.middle mid new (quiet old new none) h.only.logs h.only.output h.works.logs h.works.printed.printing h.works.printed.is h.works.printed.gives tells)

-- ---- without a table

printed_whole : (text : List ℕ) (outcome : Outcome) (old mid new : WorldView) → Quiet old new → mid.logs ≡ old.logs → (printing : Result (Unit {0}) sink.Failed) → outcome ≡ printed printing → Gives printing text old.output mid.output
    → TellsIf (fault_line_of outcome) mid new → IsWhole [] text 0 (status_of outcome) old new
printed_whole text outcome old mid new q unlogged (Ok done) is gives tells =
    let P : Outcome → Type 0 = λ o. TellsIf (fault_line_of o) mid new in
    let same : new ≡ mid = subst P is tells in
    record {
      logs = grown_none old.logs new.logs (ap (λ (w : WorldView). w.logs) same ∙ unlogged);
      output = grown_by text old.output old.output mid.output new.output refl gives (ap (λ (w : WorldView). w.output) same);
      status_is = ap status_of is;
    }
printed_whole text outcome old mid new q unlogged (Err failed) is gives tells =
    absurd (q.output old.output.faults mid.output.faults (same_from old.output old.output refl) (same_from mid.output new.output (tells_later (fault_line_of outcome) mid new tells).output) (cut_rose text old.output mid.output gives))

refused_line : (fault : DrillFault) (old mid new : WorldView) → Quiet old new → mid.logs ≡ old.logs → mid.output ≡ old.output → TellsIf (fault_line_of (drill_refused fault)) mid new
    → (new.logs.given ≡ grown old.logs.given (unwrap_or (fault_line_of (drill_refused fault)) [])) × (new.output.given ≡ grown old.output.given [])
refused_line (faults.Table fault) old mid new q logs output tells = told_whole _ old mid new q logs output tells
refused_line (faults.Rule fault) old mid new q logs output tells = told_whole _ old mid new q logs output tells
refused_line faults.NoMemory old mid new q logs output tells = told_whole _ old mid new q logs output tells

drill_complete : (drill : drills.Drill) (read : Result Tally DrillFault) (outcome : Outcome) (old mid new : WorldView) → Quiet old new → DrillsBy drill read outcome old mid → TellsIf (fault_line_of outcome) mid new → IsDrilledWhole drill read (status_of outcome) old new
drill_complete drill (Ok tally) outcome old mid new q h tells = printed_whole (tally_text drill tally) outcome old mid new q h.logs h.prints.printing h.prints.is h.prints.gives tells
drill_complete drill (Err fault) outcome old mid new q h tells =
    let told = refused_line fault old mid new q (ap (λ (w : WorldView). w.logs) h.same) (ap (λ (w : WorldView). w.output) h.same) (subst (λ (o : Outcome). TellsIf (fault_line_of o) mid new) h.is tells) in
    record { logs = told.0; output = told.1; status_is = ap status_of h.is }

init_complete : (post : Post) → (answer : Result (Unit {0}) ℕ) (outcome : Outcome) (old mid new : WorldView) → (RoseInJob post SpoolInit old new → ⊥) → mid.logs ≡ old.logs → Formats answer old.inputs.disks mid.inputs.disks
    → TellsFormatted answer (length old.inputs.disks) outcome old.output mid.output → TellsIf (fault_line_of outcome) mid new → IsFormattedWhole (status_of outcome) old new
init_complete post (Ok done) outcome old mid new none logs formats h tells = record {
  disks = subst (λ (i : SessionInputs). AreFormatted (length old.inputs.disks) old.inputs.disks i.disks) (sym (tells_later (fault_line_of outcome) mid new tells).inputs) formats;
  whole = printed_whole (formatted_text (length old.inputs.disks)) outcome old mid new (quiet old new (λ some. none (inl some))) logs h.printing h.is h.gives tells;
}
init_complete post (Err slot) outcome old mid new none logs formats h tells =
    absurd (none (inr (slot, subst (λ (i : SessionInputs). DiskRose slot old.inputs.disks i.disks) (sym (tells_later (fault_line_of outcome) mid new tells).inputs) (fails_rose slot old.inputs.disks mid.inputs.disks formats))))

-- a slot has no reading, or there was no memory
unread_complete : (post : Post) → (outcome : Outcome) (old mid new : WorldView) → (RoseInJob post Smapd old new → ⊥) → (u : SlotsUnread outcome old mid) → TellsIf (fault_line_of outcome) mid new → (course : Course) (slot : ℕ) (why : SlotWhy) → IsRackFault (Unit {0}) old.inputs.disks slot why mid.inputs.disks → outcome ≡ slot_fault slot why
    → IsJobComplete post Smapd course (status_of outcome) old new
unread_complete post outcome old mid new none u tells course slot whys.NoMemory fault comes = inl (ap status_of comes)
unread_complete post outcome old mid new none u tells course slot whys.DiskFault fault comes =
    absurd (none (inr (inl (slot, subst (λ (i : SessionInputs). DiskRose slot old.inputs.disks i.disks) (sym (tells_later (fault_line_of outcome) mid new tells).inputs) (unread_rose slot whys.DiskFault old mid fault)))))
unread_complete post outcome old mid new none u tells course slot (whys.BadSlot at) (inl none_at) comes = let clash : whys.BadSlot at ≡ whys.NoMemory = none_at.1 in absurd (cc)
unread_complete post outcome old mid new none u tells course slot (whys.BadSlot at) (inr came) comes =
    let told : TellsIf (Some (codes "fault " ++ refusal_text (Slot slot at) ++ codes "\n")) mid new = subst (λ (o : Outcome). TellsIf (fault_line_of o) mid new) comes tells in
    let whole = told_whole (codes "fault " ++ refusal_text (Slot slot at) ++ codes "\n") old mid new (quiet old new (λ some. none (inl some))) (ap (λ (w : WorldView). w.logs) u.is) (ap (λ (w : WorldView). w.output) u.is) told in
    inr (inl (record {
      slot = slot;
      at = at;
      bad = record { came = subst (λ (i : SessionInputs). CameBack (Unit {0}) 0 slot (whys.BadSlot at) old.inputs.disks i.disks) (sym (tells_later (fault_line_of outcome) mid new tells).inputs) came };
      whole = record { logs = whole.0; output = whole.1; status_is = ap status_of comes };
    }))

-- a round that went to its end logged each line
round_lines : (ending : End) (turns : List Turn) (round : Round) (old new : SinkView) → Ok round ≡ answer_of ending (round_of turns) → LogGoes turns ending old new → new ≡ record old { given = grown old.given (lines_of turns) }
round_lines AllTaken turns round old new is goes = goes
round_lines NoneFull turns round old new is goes = goes
round_lines (Unlogged turn) turns round old new is goes = absurd (cc)
round_lines (Lacked slot message) turns round old new is goes = absurd (cc)

-- what was printed of it, and no line follows
round_whole : (post : Post) → (outcome : Outcome) (old mid new : WorldView) → (Rose old.output.faults mid.output.faults → ⊥) → (h : RoundHeld post outcome old mid) → TellsIf (fault_line_of outcome) mid new → (round : Round) → h.answer ≡ Ok round → h.trouble ≡ None → (printing : Result (Unit {0}) sink.Failed)
    → outcome ≡ outcome_printed printing → Gives printing (round_text round) old.output mid.output → IsRoundWhole post h.hands.hands.turns (status_of outcome) old new
round_whole post outcome old mid new never h tells round well untroubled (Err failed) is gives = absurd (never (cut_rose (round_text round) old.output mid.output gives))
round_whole post outcome old mid new never h tells round well untroubled (Ok done) is gives =
    let P : Outcome → Type 0 = λ o. TellsIf (fault_line_of o) mid new in
    let same : new ≡ mid = subst P is tells in
    let lines = round_lines h.hands.hands.ending h.hands.hands.turns round old.logs mid.logs (sym well ∙ h.hands.hands.answer) h.hands.hands.logs in
    subst (IsRoundWhole post h.hands.hands.turns (status_of outcome) old) (sym same) (record {
      round = round;
      answer = h.answer;
      trouble = h.trouble;
      well = well;
      untroubled = untroubled;
      held = round_now post outcome old mid h;
      whole = record {
        logs = ap (λ (s : SinkView). s.given) lines;
        output = ap (λ (s : SinkView). s.given) gives;
        status_is = ap status_of is;
      };
    })

-- without trouble
round_complete : (post : Post) → (outcome : Outcome) (old mid new : WorldView) → (RoseInJob post Smapd old new → ⊥) → (h : RoundHeld post outcome old mid) → TellsIf (fault_line_of outcome) mid new → (answer : Result Round RoundFault) → h.answer ≡ answer → (trouble : Option Trouble) → h.trouble ≡ trouble
    → TellsRound answer trouble outcome old.output mid.output → IsJobComplete post Smapd (of_round h.hands.hands.turns) (status_of outcome) old new
round_complete post outcome old mid new none h tells answer is (Some troubles.Mailer) trouble_is told =
    absurd (none (inr (inr (subst (IsTroubled post old new) trouble_is (troubled_now post outcome old mid new (tells_later (fault_line_of outcome) mid new tells) h)))))
round_complete post outcome old mid new none h tells answer is (Some (troubles.Disk slot)) trouble_is told =
    absurd (none (inr (inl (slot, subst (IsTroubled post old new) trouble_is (troubled_now post outcome old mid new (tells_later (fault_line_of outcome) mid new tells) h)))))
round_complete post outcome old mid new none h tells (Err (faults_of.NoMemory round)) is None trouble_is told = inl (ap status_of told.0)
round_complete post outcome old mid new none h tells (Err (faults_of.LogFault round)) is None trouble_is told =
    absurd (none (inl (some_later old mid new (tells_later (fault_line_of outcome) mid new tells) (inr (inl (inr (round_log post outcome old mid h round is)))))))
round_complete post outcome old mid new none h tells (Ok round) is None trouble_is told =
    let later = tells_later (fault_line_of outcome) mid new tells in
    inr (inr (round_whole post outcome old mid new (λ rose. none (inl (some_later old mid new later (inr (inl (inl rose)))))) h tells round is trouble_is told.printing told.is told.gives))

-- ---- a password

-- what has no reading is told to the log
unspelled_whole : (refusal : OtpRefusal) (outcome : Outcome) (old mid new : WorldView) → Quiet old new → outcome ≡ Unread (Otp refusal) → mid.logs ≡ old.logs → mid.output ≡ old.output → TellsIf (fault_line_of outcome) mid new
    → IsToldWhole (Err refusal) (status_of outcome) old new
unspelled_whole refusal outcome old mid new q is logs output tells =
    let told = told_whole (codes "fault " ++ refusal_text (Otp refusal) ++ codes "\n") old mid new q logs output (subst (λ (o : Outcome). TellsIf (fault_line_of o) mid new) is tells) in
    record { logs = told.0; output = told.1; status_is = ap status_of is }

-- where no count rose, what was read was told, or there was no memory
read_whole : (Reads : Result (List ℕ) OtpRefusal → WorldView → Type 0) (outcome : Outcome) (old mid new : WorldView) → (SomeRose old new → ⊥) → mid.logs ≡ old.logs → ComesBy Reads outcome old mid → TellsIf (fault_line_of outcome) mid new
    → (status_of outcome ≡ 5) ⊎ IsReadWhole Reads (status_of outcome) old new
read_whole Reads outcome old mid new none logs (inl (inl four)) tells =
    absurd (none (some_later old mid new (tells_later (fault_line_of outcome) mid new tells) (count_some outcome old mid four.1 four.0)))
read_whole Reads outcome old mid new none logs (inl (inr lacks)) tells = inl (ap status_of lacks)
read_whole Reads outcome old mid new none logs (inr (inl told)) tells =
    inr (record {
      read = Ok told.text;
      reads = told.reads;
      told = printed_whole told.text outcome old mid new (quiet old new none) logs told.prints.printing told.prints.is told.prints.gives tells;
    })
read_whole Reads outcome old mid new none logs (inr (inr refused)) tells =
    inr (record {
      read = Err refused.refusal;
      reads = refused.reads;
      told = unspelled_whole refused.refusal outcome old mid new (quiet old new none) refused.is logs refused.output tells;
    })

calculated_complete : (file : List ℕ) (outcome : Outcome) (old mid new : WorldView) → (SomeRose old new → ⊥) → Calculates file outcome old mid → TellsIf (fault_line_of outcome) mid new → (status_of outcome ≡ 5) ⊎ IsReadWhole (IsCalculated file) (status_of outcome) old new
calculated_complete file outcome old mid new none h tells =
    read_whole (IsCalculated file) outcome old mid new none (calculated_left file outcome old mid h).logs (calculated_comes file outcome old mid h) tells

spelled_complete : (spelling : SpellingView) (outcome : Outcome) (old mid new : WorldView) → (SomeRose old new → ⊥) → Spells spelling outcome old mid → TellsIf (fault_line_of outcome) mid new → (status_of outcome ≡ 5) ⊎ IsReadWhole (IsSpelled spelling) (status_of outcome) old new
spelled_complete spelling outcome old mid new none h tells =
    read_whole (IsSpelled spelling) outcome old mid new none (spelled_left spelling outcome old mid h).logs (spelled_comes spelling outcome old mid h) tells

-- the turns of its round, if there was one
abbrev pub job_course : (post : Post) → (job : Job) (outcome : Outcome) (old new : WorldView) → DoesJob post job outcome old new → Course
job_course post (Drill drill) outcome old new h = no_course
job_course post SpoolInit outcome old new h = no_course
job_course post (OtpCalc file) outcome old new h = no_course
job_course post (OtpHex spelling) outcome old new h = no_course
job_course post Smapd outcome old new h = of_round (handed_turns post outcome old new h)

pub job_complete : (post : Post) → (job : Job) (outcome : Outcome) (old mid new : WorldView) → (RoseInJob post job old new → ⊥) → (h : DoesJob post job outcome old mid) → TellsIf (fault_line_of outcome) mid new → IsJobComplete post job (job_course post job outcome old mid h) (status_of outcome) old new
job_complete post (Drill drill) outcome old mid new none (inl h) tells = inl (ap status_of h.is)
job_complete post (Drill drill) outcome old mid new none (inr h) tells = inr (drill_complete drill (drilled drill) outcome old mid new (quiet old new none) h tells)
job_complete post Smapd outcome old mid new none (inl u) tells = unread_complete post outcome old mid new none u.0 tells no_course u.0.slot u.0.why u.0.fault u.0.comes
job_complete post Smapd outcome old mid new none (inr h) tells = round_complete post outcome old mid new none h tells h.answer refl h.trouble refl h.tells
job_complete post (OtpCalc file) outcome old mid new none h tells = calculated_complete file outcome old mid new none h tells
job_complete post (OtpHex spelling) outcome old mid new none h tells = spelled_complete spelling outcome old mid new none h tells
job_complete post SpoolInit outcome old mid new none h tells = init_complete post h.answer outcome old mid new none h.logs h.formats h.tells tells

pub usage_complete : (outcome : Outcome) (old mid new : WorldView) → (SomeRose old new → ⊥) → Unused outcome old mid → TellsIf (fault_line_of outcome) mid new → IsWhole (codes "fault usage\n") [] 2 (status_of outcome) old new
usage_complete outcome old mid new none h tells =
    let usage : TellsIf (fault_line_of Usage) mid new = subst (λ (o : Outcome). TellsIf (fault_line_of o) mid new) h.usage tells in
    let told = told_whole (codes "fault usage\n") old mid new (quiet old new none) (ap (λ (w : WorldView). w.logs) h.is) (ap (λ (w : WorldView). w.output) h.is) usage in
    record { logs = told.0; output = told.1; status_is = ap status_of h.usage }
