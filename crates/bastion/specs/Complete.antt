-- What is done in a run in which no count rose: all that is called for, whole.
use Rattle.std.specs.Prelude.{◌≡◌, ℕ, ◌⊎◌, Bool, true, false, List, [], ◌∷◌, ◌++◌, length, codes, Option, Some, None, Result, Ok, Err, unwrap_or}
use Rattle.drill_lines.specs.Drill.{drilled, tally_text}
use Rattle.drill_lines.specs.declared.plan.Drill.{Drill}
use Rattle.drill_lines.specs.declared.drill_fault.DrillFault.{DrillFault}
use Rattle.drill_lines.specs.declared.tally.Tally.{Tally}
use Rattle.fw_outside.specs.LauncherView.{LauncherView, Starts}
use Rattle.fw_outside.specs.ToldList.{grown}
use Rattle.fw_outside.specs.declared.started.Started.TheVariants as program
use Rattle.fw_types.specs.declared.ending.Ending.{Ending}
use Rattle.fw_types.specs.declared.ending.Ending.TheVariants.{Done, Spent}
use Rattle.fw_types.specs.declared.peer.Peer.{Peer}
use Rattle.gate_rules.specs.Verdict.{verdict_of}
use Rattle.gate_rules.specs.declared.service.Service.{Service}
use Rattle.gate_rules.specs.declared.service.Service.TheVariants as services
use Rattle.gate_rules.specs.declared.verdict.Verdict.{Verdict}
use Rattle.gate_rules.specs.declared.verdict.Verdict.TheVariants.{Permit, Deny}
use Rattle.session_acts.specs.Deeds.{Deed, gives}
use Rattle.session_acts.specs.Laws.{logged}
use Rattle.client_service.specs.Endings.{denied_text, ending_line, refusal_reply}
use Rattle.bastion.specs.Asking.{IsAsked, linking_text}
use Rattle.bastion.specs.Basis.{Basis, Course}
use Rattle.bastion.specs.Basis.Basis.{Nothing, Refused, Given}
use Rattle.bastion.specs.Gateways.{denial_words, gateway_service}
use Rattle.bastion.specs.Headline.{OfGateKind, OfHistory}
use Rattle.bastion.specs.Inputs.{Inputs}
use Rattle.bastion.specs.MailKept.{OfMail}
use Rattle.bastion.specs.Spool.{HasBadSlot}
use Rattle.smapd_queue.specs.Turns.{Turn, lines_of}
use Rattle.smapd_queue.specs.declared.round.Round.{Round}
use Rattle.smapd_queue.specs.declared.round.RoundFault.{RoundFault}
use Rattle.smapd_queue.specs.declared.round.Trouble.{Trouble}
use Rattle.bastion.specs.HandingOn.{round_text}
use Rattle.bastion.specs.HandedOn.{HandsRound}
use Rattle.bastion.specs.Calculating.{IsCalculated, IsSpelled}
use Rattle.bastion.specs.Jobs.{AreFormatted, drill_refused, formatted_text}
use Rattle.bastion.specs.Outcome.{WasStrange, fault_line_of, refusal_text, status_of, verdict_status}
use Rattle.bastion.specs.Run.{verdict_for}
use Rattle.bastion.specs.Status.{IsHeld, IsPassed}
use Rattle.bastion.specs.Talk.{was_refused}
use Rattle.bastion.specs.TableReport.{report_text}
use Rattle.client_service.specs.Decision.{decision_text}
use Rattle.bastion.specs.Texts.{ended_text, print_text, program_of}
use Rattle.bastion.specs.Words.{LineView}
use Rattle.bastion.specs.WorldView.{Post, WorldView}
use Rattle.bastion.specs.declared.outcome.Outcome.TheVariants.{Ended}
use Rattle.bastion.specs.declared.outcome.OtpRefusal.{OtpRefusal}
use Rattle.bastion.specs.declared.outcome.Refusal.TheVariants.{Slot, Otp}
use Rattle.bastion.specs.declared.words.Authorities.{Authorities}
use Rattle.bastion.specs.declared.words.Authorities.TheVariants.{Records, Remote}
use Rattle.bastion.specs.declared.words.Caller.{Caller}
use Rattle.bastion.specs.declared.words.Client.{Client}
use Rattle.bastion.specs.declared.words.Command.{Command}
use Rattle.bastion.specs.declared.words.Job.{Job}
use Rattle.bastion.specs.declared.words.Job.TheVariants as jobs
use Rattle.bastion.specs.declared.words.Order.{Order}
use Rattle.bastion.specs.declared.words.Order.TheVariants.{ByTable, Alone}
use Rattle.bastion.specs.declared.words.Query.{Query}
use Rattle.bastion.specs.declared.words.Command.TheVariants.{Netacl, NetaclRun, Table, Authsrv, PlugGw, Gateway, Smap}

-- the log and the output have taken these texts whole, and nothing else; and the status is this
pub record IsWhole (logged printed : List ℕ) (comes status : ℕ) (old new : WorldView) : Type 0 where
  pub logs : new.logs.given ≡ grown old.logs.given logged
  pub output : new.output.given ≡ grown old.output.given printed
  pub status_is : status ≡ comes

-- ---- a session

-- behind a session stand the ending's line, and that of the limit where a request had been refused
abbrev pub closing_text : Service → Peer → Ending → Bool → List ℕ
closing_text service peer ending refused = unwrap_or (ending_line service peer ending) [] ++ unwrap_or (fault_line_of (Ended ending refused)) []

-- the line before a session: that of the permission, and none at the console
abbrev pub opening_text : Bool → Verdict → Peer → List ℕ
opening_text true verdict peer = []
opening_text false verdict peer = decision_text verdict services.Authsrv peer

-- a session came to its end, or to the most bytes that it may take
abbrev pub HasEnded : Course → Type 0
HasEnded course = (course.ending ≡ Done) ⊎ (course.ending ≡ Spent)

-- The session of this run, as the headline has it, came to its end, or to the most bytes that it may take. The log has taken
-- its lines whole, and nothing else: the last of them exactly where a request of it had been refused.
pub record IsHeldWhole (client : Client) (inputs : Inputs) (course : Course) (status : ℕ) (old ready new : WorldView) : Type 0 where
  pub session : OfHistory client inputs course status ready new
  pub ends : HasEnded course
  pub logs : new.logs.given ≡ grown old.logs.given (opening_text client.console (verdict_for (Authsrv client) inputs) client.peer ++ closing_text services.Authsrv client.peer course.ending (was_refused course.deeds))
  pub held : IsHeld status old.inputs new.inputs

-- a client whom the rules deny is told so, unless it is at the console; for any other a session is held
abbrev pub IsServedWhole : Bool → Verdict → Client → Inputs → Course → ℕ → WorldView → WorldView → WorldView → Type 0
IsServedWhole true verdict client inputs course status old ready new = IsHeldWhole client inputs course status old ready new
IsServedWhole false (Permit line) client inputs course status old ready new = IsHeldWhole client inputs course status old ready new
IsServedWhole false (Deny line) client inputs course status old ready new =
    IsWhole (decision_text (Deny line) services.Authsrv client.peer) (denied_text line) 1 status old new

-- ---- a program

-- what a program left, if there is one to start: it was started once and ended, and that was printed; or nothing
pub record IsRunWhole (name : List ℕ) (args : List (List ℕ)) (printed : List ℕ) (old new : LauncherView) : Type 0 where
  pub status : ℕ
  pub starts : Starts (program.Ended status) name args old new
  pub text : printed ≡ ended_text status

abbrev pub IsLaunchedWhole : List (List ℕ) → List ℕ → LauncherView → LauncherView → Type 0
IsLaunchedWhole [] printed old new = (printed ≡ []) × (new ≡ old)
IsLaunchedWhole (name ∷ args) printed old new = IsRunWhole name args printed old new

-- the decision was told whole, and then the program of the line that permits was started and its end told, where it has one
pub record IsStartedWhole (query : Query) (inputs : Inputs) (status : ℕ) (old new : WorldView) : Type 0 where
  pub printed : List ℕ
  pub launched : IsLaunchedWhole (program_of inputs.rules (verdict_of inputs.rules query.peer)) printed old.inputs.launcher new.inputs.launcher
  pub whole : IsWhole (decision_text (verdict_of inputs.rules query.peer) query.service query.peer) (print_text inputs.rules (verdict_of inputs.rules query.peer) ++ printed) (verdict_status (verdict_of inputs.rules query.peer)) status old new

-- ---- a link

-- The destination was asked for, as the headline has it, and the session came to its end, or to the most bytes that it may
-- take. The log has taken its lines whole, and nothing else.
pub record IsPutThrough (caller : Caller) (inputs : Inputs) (course : Course) (status : ℕ) (old ready new : WorldView) : Type 0 where
  pub asked : IsAsked caller inputs course.ending status ready new
  pub ends : HasEnded course
  pub logs : new.logs.given ≡ grown old.logs.given (linking_text caller asked.line asked.dest ++ unwrap_or (ending_line (services.PlugGw caller.port) caller.peer course.ending) [])

-- a client whom the rules deny is told nothing
abbrev pub IsLinkedWhole : Verdict → Caller → Inputs → Course → ℕ → WorldView → WorldView → WorldView → Type 0
IsLinkedWhole (Permit line) caller inputs course status old ready new = IsPutThrough caller inputs course status old ready new
IsLinkedWhole (Deny line) caller inputs course status old ready new = IsWhole (decision_text (Deny line) (services.PlugGw caller.port) caller.peer) [] 1 status old new

-- ---- a gateway

-- The session of this run, as the headline has it, came to its end, or to the most bytes that it may take. The log has taken its
-- lines whole, and nothing else.
pub record IsPassedWhole (authorities : Authorities) (service : Service) (peer : Peer) (line : ℕ) (Session : Type 0) (course : Course) (status : ℕ) (old new : WorldView) : Type 0 where
  pub session : Session
  pub ends : HasEnded course
  pub logs : new.logs.given ≡ grown old.logs.given (decision_text (Permit line) service peer ++ gives logged course.deeds ++ closing_text service peer course.ending (was_refused course.deeds))
  pub passed : IsPassed authorities (Permit line) course.deeds status old.inputs new.inputs

-- a client whom the rules deny is told so by these words
abbrev pub IsServedAtGate : Authorities → Verdict → Service → (ℕ → List ℕ) → Peer → Type 0 → Course → ℕ → WorldView → WorldView → Type 0
IsServedAtGate authorities (Permit line) service words peer Session course status old new = IsPassedWhole authorities service peer line Session course status old new
IsServedAtGate authorities (Deny line) service words peer Session course status old new = IsWhole (decision_text (Deny line) service peer) (words line) 1 status old new

-- or this session was answered that something strange came of a server elsewhere
abbrev pub OrStrange : Authorities → List Deed → Type 0 → Type 0
OrStrange Records deeds Whole = Whole
OrStrange Remote deeds Whole = WasStrange deeds ⊎ Whole

-- ---- mail

-- All slots were opened. The session of this run, as the headline has it, came to its end, or to the most bytes that it may
-- take. The log has taken its lines whole, and nothing else.
pub record IsMailedWhole (peer : Peer) (line : ℕ) (inputs : Inputs) (course : Course) (status : ℕ) (old ready new : WorldView) : Type 0 where
  pub session : OfMail peer inputs course status ready new
  pub ends : HasEnded course
  pub logs : new.logs.given ≡ grown old.logs.given (decision_text (Permit line) services.Smap peer ++ gives logged course.deeds ++ closing_text services.Smap peer course.ending false)

-- a client whom the rules deny is told so
abbrev pub IsTakenWhole : Verdict → Peer → Inputs → Course → ℕ → WorldView → WorldView → WorldView → Type 0
IsTakenWhole (Permit line) peer inputs course status old ready new = IsMailedWhole peer line inputs course status old ready new
IsTakenWhole (Deny line) peer inputs course status old ready new = IsWhole (decision_text (Deny line) services.Smap peer) (refusal_reply line) 1 status old new

-- or a slot has no reading, and the log was told so
pub record IsBadWhole (status : ℕ) (old new : WorldView) : Type 0 where
  pub slot : ℕ
  pub at : ℕ
  pub bad : HasBadSlot slot at old.inputs.disks new.inputs.disks
  pub whole : IsWhole (codes "fault " ++ refusal_text (Slot slot at) ++ codes "\n") [] 3 status old new

-- ---- all commands

-- the verdict's line is logged, and its text printed; a client is denied, or its session held
abbrev pub IsAllDone : Command → Inputs → Course → ℕ → WorldView → WorldView → WorldView → Type 0
IsAllDone (Netacl query) inputs course status old ready new =
    IsWhole (decision_text (verdict_for (Netacl query) inputs) query.service query.peer) (print_text inputs.rules (verdict_for (Netacl query) inputs)) (verdict_status (verdict_for (Netacl query) inputs)) status old new
IsAllDone (NetaclRun query) inputs course status old ready new = IsStartedWhole query inputs status old new
IsAllDone (Table query) inputs course status old ready new =
    IsWhole [] (report_text inputs.rules (verdict_for (Table query) inputs)) (verdict_status (verdict_for (Table query) inputs)) status old new
IsAllDone (Authsrv client) inputs course status old ready new = IsServedWhole client.console (verdict_for (Authsrv client) inputs) client inputs course status old ready new
IsAllDone (PlugGw caller) inputs course status old ready new = IsLinkedWhole (verdict_for (PlugGw caller) inputs) caller inputs course status old ready new
IsAllDone (Smap peer) inputs course status old ready new = IsBadWhole status old new ⊎ IsTakenWhole (verdict_for (Smap peer) inputs) peer inputs course status old ready new
IsAllDone (Gateway kind authorities peer) inputs course status old ready new =
    OrStrange authorities course.deeds (IsServedAtGate authorities (verdict_for (Gateway kind authorities peer) inputs) (gateway_service kind) (denial_words kind) peer (OfGateKind kind authorities peer inputs course status ready new) course status old new)

-- by the inputs of the command, or by what can't be read, which is told to the log; or there was no memory
abbrev pub AllDone : Command → Basis → Course → ℕ → WorldView → WorldView → Type 0
AllDone command Nothing course status old new = status ≡ 5
AllDone command (Refused reading refusal) course status old new = IsWhole (codes "fault " ++ refusal_text refusal ++ codes "\n") [] 3 status old new
AllDone command (Given reading inputs ready) course status old new = (status ≡ 5) ⊎ IsAllDone command inputs course status old ready new

-- the counts of a drill are printed, or what can't be read is told to the log
abbrev pub IsDrilledWhole : Drill → Result Tally DrillFault → ℕ → WorldView → WorldView → Type 0
IsDrilledWhole drill (Ok tally) status old new = IsWhole [] (tally_text drill tally) 0 status old new
IsDrilledWhole drill (Err fault) status old new = IsWhole (unwrap_or (fault_line_of (drill_refused fault)) []) [] (status_of (drill_refused fault)) status old new

-- a free slot was made of each disk, and their number printed
pub record IsFormattedWhole (status : ℕ) (old new : WorldView) : Type 0 where
  pub disks : AreFormatted (length old.inputs.disks) old.inputs.disks new.inputs.disks
  pub whole : IsWhole [] (formatted_text (length old.inputs.disks)) 0 status old new

-- One round was held over the slots, in which no hand failed and no slot broke. The log has taken the line of each turn whole,
-- and the numbers of the round were printed, and nothing else.
pub record IsRoundWhole (post : Post) (turns : List Turn) (status : ℕ) (old new : WorldView) : Type 0 where
  pub round : Round
  pub answer : Result Round RoundFault
  pub trouble : Option Trouble
  pub well : answer ≡ Ok round
  pub untroubled : trouble ≡ None
  pub held : HandsRound post turns answer trouble old new
  pub whole : IsWhole (lines_of turns) (round_text round) 0 status old new

-- a text is printed, or what has no reading is told to the log
abbrev pub IsToldWhole : Result (List ℕ) OtpRefusal → ℕ → WorldView → WorldView → Type 0
IsToldWhole (Ok text) status old new = IsWhole [] text 0 status old new
IsToldWhole (Err refusal) status old new = IsWhole (codes "fault " ++ refusal_text (Otp refusal) ++ codes "\n") [] 3 status old new

pub record IsReadWhole (Reads : Result (List ℕ) OtpRefusal → WorldView → Type 0) (status : ℕ) (old new : WorldView) : Type 0 where
  pub read : Result (List ℕ) OtpRefusal
  pub reads : Reads read old
  pub told : IsToldWhole read status old new

abbrev pub IsJobComplete : Post → Job → Course → ℕ → WorldView → WorldView → Type 0
IsJobComplete post (jobs.Drill drill) course status old new = (status ≡ 5) ⊎ IsDrilledWhole drill (drilled drill) status old new
IsJobComplete post jobs.SpoolInit course status old new = IsFormattedWhole status old new
IsJobComplete post (jobs.OtpCalc file) course status old new = (status ≡ 5) ⊎ IsReadWhole (IsCalculated file) status old new
IsJobComplete post (jobs.OtpHex spelling) course status old new = (status ≡ 5) ⊎ IsReadWhole (IsSpelled spelling) status old new
IsJobComplete post jobs.Smapd course status old new = (status ≡ 5) ⊎ (IsBadWhole status old new ⊎ IsRoundWhole post course.turns status old new)

abbrev pub IsOrderComplete : Post → Order → Basis → Course → ℕ → WorldView → WorldView → Type 0
IsOrderComplete post (ByTable command) basis course status old new = AllDone command basis course status old new
IsOrderComplete post (Alone job) basis course status old new = IsJobComplete post job course status old new

abbrev pub IsComplete : Post → Option LineView → Basis → Course → ℕ → WorldView → WorldView → Type 0
IsComplete post None basis course status old new = IsWhole (codes "fault usage\n") [] 2 status old new
IsComplete post (Some line) basis course status old new = IsOrderComplete post line.order basis course status old new
