-- What the status of a run says, and when it comes.
use Rattle.std.specs.Prelude.{◌≡◌, ℕ, ◌<◌, ◌⊎◌, Bool, true, false, List, length, Option, Some, None, IsSome, Result, Ok, Err}
use Rattle.session_acts.specs.Causes.{IsLast, TookAtMost, TookMost}
use Rattle.session_acts.specs.Deeds.{Deed}
use Rattle.session_acts.specs.Laws.{Adds}
use Rattle.session_acts.specs.World.{most_taken}
use Rattle.drill_lines.specs.Drill.{drilled}
use Rattle.fw_disk.specs.DiskView.{DiskView}
use Rattle.fw_outside.specs.Counts.{Rose}
use Rattle.fw_outside.specs.DialerView.{DialerView, LinkView}
use Rattle.fw_outside.specs.SourceView.{SourceView}
use Rattle.gate_rules.specs.declared.verdict.Verdict.{Verdict}
use Rattle.gate_rules.specs.declared.verdict.Verdict.TheVariants.{Permit, Deny}
use Rattle.bastion.specs.Calculating.{IsCalculated, IsSpelled}
use Rattle.bastion.specs.Basis.{Basis, Course}
use Rattle.bastion.specs.Basis.Basis.{Nothing, Refused, Given}
use Rattle.bastion.specs.Inputs.{Inputs}
use Rattle.bastion.specs.Jobs.{AreFormatted}
use Rattle.bastion.specs.Outcome.{DiskRose, EndsRose, KeeperRose, MailersRose, WasStrange, verdict_status}
use Rattle.bastion.specs.Run.{verdict_for}
use Rattle.bastion.specs.Serving.{most_entries}
use Rattle.bastion.specs.Spool.{AreOpened, HasBadSlot, LeavesAside, LeavesSlots}
use Rattle.bastion.specs.Talk.{was_refused}
use Rattle.bastion.specs.Words.{LineView, is_remote}
use Rattle.bastion.specs.WorldView.{Post, SessionInputs, WorldView}
use Rattle.bastion.specs.declared.outcome.OtpRefusal.{OtpRefusal}
use Rattle.bastion.specs.declared.words.Authorities.{Authorities}
use Rattle.bastion.specs.declared.words.Authorities.TheVariants.{Records, Remote}
use Rattle.bastion.specs.declared.words.Command.{Command}
use Rattle.bastion.specs.declared.words.Command.TheVariants.{Netacl, NetaclRun, Table, Authsrv, PlugGw, Gateway, Smap}
use Rattle.bastion.specs.declared.words.GatewayKind.TheVariants as kinds
use Rattle.bastion.specs.declared.words.Job.{Job}
use Rattle.bastion.specs.declared.words.Job.TheVariants.{Drill, SpoolInit, Smapd, OtpCalc, OtpHex}
use Rattle.bastion.specs.declared.words.Order.{Order}
use Rattle.bastion.specs.declared.words.Order.TheVariants.{ByTable, Alone}

-- a device's own count rose, but for the dialer's
abbrev pub SomeRose : WorldView → WorldView → Type 0
SomeRose old new =
    (Rose old.files.missing new.files.missing ⊎ Rose old.files.read_faults new.files.read_faults)
    ⊎ (Rose old.output.faults new.output.faults ⊎ Rose old.logs.faults new.logs.faults)
    ⊎ (Rose old.inputs.input.faults new.inputs.input.faults ⊎ Rose old.inputs.input.idles new.inputs.input.idles)
    ⊎ (KeeperRose old.inputs.keeper new.inputs.keeper ⊎ Rose old.inputs.launcher.faults new.inputs.launcher.faults)

-- a link that was hung up had failed or been idle
abbrev pub LinksFailed : DialerView → DialerView → Type 0
LinksFailed old new = Rose old.link_faults new.link_faults ⊎ Rose old.link_idles new.link_idles

-- so it was, or a link was refused
abbrev pub LinksRose : DialerView → DialerView → Type 0
LinksRose old new = Rose old.refusals new.refusals ⊎ LinksFailed old new

-- a disk's own count rose
abbrev pub DisksRose : List DiskView → List DiskView → Type 0
DisksRose old new = (slot : ℕ) × DiskRose slot old new

-- a device's own count rose: the dialer's, too, where the command has a link; but a link that is refused is no failure of a
-- session of a gateway, which goes on; that of the link to a server elsewhere, where it knows a gateway's users; and those of the disks
-- of a command that calls them
abbrev pub RoseBy : Command → WorldView → WorldView → Type 0
RoseBy (PlugGw caller) old new = SomeRose old new ⊎ LinksRose old.inputs.dialer new.inputs.dialer
RoseBy (Gateway kind Records peer) old new = SomeRose old new ⊎ LinksFailed old.inputs.dialer new.inputs.dialer
RoseBy (Gateway kind Remote peer) old new = (SomeRose old new ⊎ LinksFailed old.inputs.dialer new.inputs.dialer) ⊎ EndsRose old.inputs.remote new.inputs.remote
RoseBy (Smap peer) old new = SomeRose old new ⊎ DisksRose old.inputs.disks new.inputs.disks
RoseBy command old new = SomeRose old new

-- the disks' counts are among them for a job that calls the disks, and the mailers' for `smapd`
abbrev pub RoseInJob : Post → Job → WorldView → WorldView → Type 0
RoseInJob post (Drill drill) old new = SomeRose old new
RoseInJob post (OtpCalc file) old new = SomeRose old new
RoseInJob post (OtpHex spelling) old new = SomeRose old new
RoseInJob post SpoolInit old new = SomeRose old new ⊎ DisksRose old.inputs.disks new.inputs.disks
RoseInJob post Smapd old new = SomeRose old new ⊎ (DisksRose old.inputs.disks new.inputs.disks ⊎ MailersRose post.before post.after)

abbrev pub RoseInOrder : Post → Order → WorldView → WorldView → Type 0
RoseInOrder post (ByTable command) old new = RoseBy command old new
RoseInOrder post (Alone job) old new = RoseInJob post job old new

abbrev pub RoseOf : Post → Option LineView → WorldView → WorldView → Type 0
RoseOf post None old new = SomeRose old new
RoseOf post (Some line) old new = RoseInOrder post line.order old new

-- more requests were asked than fit in a history: each took a moment of the clock
pub record IsFull (old new : SessionInputs) : Type 0 where
  pub moments : List ℕ
  pub told : Adds moments old.clock.told new.clock.told
  pub many : most_entries < length moments

-- as many bytes as may be were taken of the input, or more was asked than fits in a history
abbrev pub IsAtLimit : SessionInputs → SessionInputs → Type 0
IsAtLimit old new = TookMost old.input new.input ⊎ IsFull old new

-- a session: 0, or 6 where it came to a limit
abbrev pub IsHeld : ℕ → SessionInputs → SessionInputs → Type 0
IsHeld status old new = (status ≡ 0) ⊎ ((status ≡ 6) × IsAtLimit old new)

-- 1 where the rules deny the peer, unless it is at the console
abbrev pub IsServed : Bool → Verdict → ℕ → SessionInputs → SessionInputs → Type 0
IsServed true verdict status old new = IsHeld status old new
IsServed false (Permit line) status old new = IsHeld status old new
IsServed false (Deny line) status old new = status ≡ 1

-- as many bytes as may be were taken of the link that was hung up last, where that is told
pub record LinkSpent (dialer : DialerView) : Type 0 where
  pub link : LinkView
  pub last : IsLast link dialer.ended
  pub all : link.from.amount ≡ most_taken

-- a session over a link: 0, or 6 where all that may be was taken of the input or of the link; 1 where the rules deny the peer
abbrev pub IsLinked : Verdict → ℕ → SessionInputs → SessionInputs → Type 0
IsLinked (Permit line) status old new = (status ≡ 0) ⊎ ((status ≡ 6) × (TookMost old.input new.input ⊎ LinkSpent new.dialer))
IsLinked (Deny line) status old new = status ≡ 1

-- more was asked than fits in a history; of a server elsewhere, this session was answered that no more fits in its
abbrev pub IsFullAt : Authorities → List Deed → SessionInputs → SessionInputs → Type 0
IsFullAt Records deeds old new = IsFull old new
IsFullAt Remote deeds old new = was_refused deeds ≡ true

-- a session of a gateway: 0, or 6 where it came to a limit, or all that may be was taken of a link; 1 where the rules deny
-- the peer
abbrev pub IsPassed : Authorities → Verdict → List Deed → ℕ → SessionInputs → SessionInputs → Type 0
IsPassed authorities (Permit line) deeds status old new = (status ≡ 0) ⊎ ((status ≡ 6) × ((TookMost old.input new.input ⊎ IsFullAt authorities deeds old new) ⊎ LinkSpent new.dialer))
IsPassed authorities (Deny line) deeds status old new = status ≡ 1

-- or 4, where this session was answered that something strange came of a server elsewhere
abbrev pub IsAnswered : Authorities → Verdict → List Deed → ℕ → SessionInputs → SessionInputs → Type 0
IsAnswered Records verdict deeds status old new = IsPassed Records verdict deeds status old new
IsAnswered Remote verdict deeds status old new = ((status ≡ 4) × WasStrange deeds) ⊎ IsPassed Remote verdict deeds status old new

-- a session of the mail gateway: 0, or 6 where as many bytes as may be were taken of the input; 1 where the rules deny the peer
abbrev pub IsTaken : Verdict → ℕ → SessionInputs → SessionInputs → Type 0
IsTaken (Permit line) status old new = (status ≡ 0) ⊎ ((status ≡ 6) × TookMost old.input new.input)
IsTaken (Deny line) status old new = status ≡ 1

-- 3 where a slot has no reading; else all slots were opened, before the rules decide
abbrev pub IsMailed : Verdict → ℕ → SessionInputs → SessionInputs → Type 0
IsMailed verdict status old new = ((status ≡ 3) × ((slot : ℕ) × (at : ℕ) × HasBadSlot slot at old.disks new.disks)) ⊎ (AreOpened old.disks × IsTaken verdict status old new)

-- 0 or 1 as the rules permit or deny the peer; these are the deeds of the session
abbrev pub IsBy : Command → Inputs → List Deed → ℕ → SessionInputs → SessionInputs → Type 0
IsBy (Netacl query) inputs deeds status old new = status ≡ verdict_status (verdict_for (Netacl query) inputs)
IsBy (NetaclRun query) inputs deeds status old new = status ≡ verdict_status (verdict_for (NetaclRun query) inputs)
IsBy (Table query) inputs deeds status old new = status ≡ verdict_status (verdict_for (Table query) inputs)
IsBy (Authsrv client) inputs deeds status old new = IsServed client.console (verdict_for (Authsrv client) inputs) status old new
IsBy (PlugGw caller) inputs deeds status old new = IsLinked (verdict_for (PlugGw caller) inputs) status old new
IsBy (Gateway kind authorities peer) inputs deeds status old new = IsAnswered authorities (verdict_for (Gateway kind authorities peer) inputs) deeds status old new
IsBy (Smap peer) inputs deeds status old new = IsMailed (verdict_for (Smap peer) inputs) status old new

-- a device failed, which its own count shows
pub record ByCount (command : Command) (status : ℕ) (old new : WorldView) : Type 0 where
  pub is : status ≡ 4
  pub rose : RoseBy command old new

-- 4, for a count that rose, or 5, for want of memory
abbrev pub IsOutside : Command → ℕ → WorldView → WorldView → Type 0
IsOutside command status old new = ByCount command status old new ⊎ (status ≡ 5)

-- so is the status of a command, where what it needs couldn't be had; 3 where something can't be read; else it is by the inputs, or
-- so
abbrev pub IsStatusFor : Command → Basis → Course → ℕ → WorldView → WorldView → Type 0
IsStatusFor command Nothing course status old new = IsOutside command status old new
IsStatusFor command (Refused reading refusal) course status old new = status ≡ 3
IsStatusFor command (Given reading inputs ready) course status old new = IsOutside command status old new ⊎ IsBy command inputs course.deeds status old.inputs new.inputs

-- 0 where a drill has its counts, 3 where a line of it can't be read
abbrev pub drill_status : {A B : Type 0} → Result A B → ℕ
drill_status (Ok counts) = 0
drill_status (Err fault) = 3

-- 3 where a slot has no reading, and 0 where all slots were opened
abbrev pub IsRoundStatus : ℕ → List DiskView → List DiskView → Type 0
IsRoundStatus status old new = ((status ≡ 3) × ((slot : ℕ) × (at : ℕ) × HasBadSlot slot at old new)) ⊎ ((status ≡ 0) × AreOpened old)

-- 0 where a text is printed, 3 where what is needed for it has no reading
pub record IsByReading (Reads : Result (List ℕ) OtpRefusal → WorldView → Type 0) (status : ℕ) (old : WorldView) : Type 0 where
  pub read : Result (List ℕ) OtpRefusal
  pub reads : Reads read old
  pub is : status ≡ drill_status read

-- all jobs but `spool-init` take memory
abbrev pub IsStatusOfJob : Post → Job → ℕ → WorldView → WorldView → Type 0
IsStatusOfJob post (Drill drill) status old new = (((status ≡ 4) × SomeRose old new) ⊎ (status ≡ 5)) ⊎ (status ≡ drill_status (drilled drill))
IsStatusOfJob post Smapd status old new = (((status ≡ 4) × RoseInJob post Smapd old new) ⊎ (status ≡ 5)) ⊎ IsRoundStatus status old.inputs.disks new.inputs.disks
IsStatusOfJob post (OtpCalc file) status old new = (((status ≡ 4) × SomeRose old new) ⊎ (status ≡ 5)) ⊎ IsByReading (IsCalculated file) status old
IsStatusOfJob post (OtpHex spelling) status old new = (((status ≡ 4) × SomeRose old new) ⊎ (status ≡ 5)) ⊎ IsByReading (IsSpelled spelling) status old
IsStatusOfJob post SpoolInit status old new = ((status ≡ 4) × (SomeRose old new ⊎ DisksRose old.inputs.disks new.inputs.disks)) ⊎ (status ≡ 0)

abbrev pub IsStatusOf : Post → Order → Basis → Course → ℕ → WorldView → WorldView → Type 0
IsStatusOf post (ByTable command) basis course status old new = IsStatusFor command basis course status old new
IsStatusOf post (Alone job) basis course status old new = IsStatusOfJob post job status old new

-- 2 is for words that are no command
abbrev pub IsStatus : Post → Option LineView → Basis → Course → ℕ → WorldView → WorldView → Type 0
IsStatus post None basis course status old new = status ≡ 2
IsStatus post (Some line) basis course status old new = IsStatusOf post line.order basis course status old new

-- ---- the disks

-- `spool-init` ends with 0 only after it made a free slot of each disk; what a failure leaves is in what it did. Behind `smapd`
-- a slot that was opened set aside is so.
abbrev pub JobLeavesDisks : Job → ℕ → List DiskView → List DiskView → Type 0
JobLeavesDisks (Drill drill) status old new = new ≡ old
JobLeavesDisks SpoolInit status old new = status ≡ 0 → AreFormatted (length old) old new
JobLeavesDisks Smapd status old new = LeavesAside old new
JobLeavesDisks (OtpCalc file) status old new = new ≡ old
JobLeavesDisks (OtpHex spelling) status old new = new ≡ old

-- behind `smap` a slot that was opened with a message has it; any other command by the table calls no disk
abbrev pub CommandLeavesDisks : Command → List DiskView → List DiskView → Type 0
CommandLeavesDisks (Smap peer) old new = LeavesSlots old new
CommandLeavesDisks command old new = new ≡ old

abbrev pub OrderLeavesDisks : Order → ℕ → List DiskView → List DiskView → Type 0
OrderLeavesDisks (ByTable command) status old new = CommandLeavesDisks command old new
OrderLeavesDisks (Alone job) status old new = JobLeavesDisks job status old new

abbrev pub JobLeavesMailers : Post → Job → Type 0
JobLeavesMailers post Smapd = Unit {0}
JobLeavesMailers post (Drill drill) = post.after ≡ post.before
JobLeavesMailers post SpoolInit = post.after ≡ post.before
JobLeavesMailers post (OtpCalc file) = post.after ≡ post.before
JobLeavesMailers post (OtpHex spelling) = post.after ≡ post.before

abbrev pub OrderLeavesMailers : Post → Order → Type 0
OrderLeavesMailers post (ByTable command) = post.after ≡ post.before
OrderLeavesMailers post (Alone job) = JobLeavesMailers post job

-- words that are no command leave the disks as they were
abbrev pub LeavesDisks : Option LineView → ℕ → List DiskView → List DiskView → Type 0
LeavesDisks None status old new = new ≡ old
LeavesDisks (Some line) status old new = OrderLeavesDisks line.order status old new

-- any command but `smapd` leaves the mailers as they were
abbrev pub LeavesMailers : Post → Option LineView → Type 0
LeavesMailers post None = post.after ≡ post.before
LeavesMailers post (Some line) = OrderLeavesMailers post line.order

-- ---- the server elsewhere

-- whether a gateway's users are known elsewhere, so that both ends of the link are wanted
abbrev pub is_remote_line : Option LineView → Bool
is_remote_line None = false
is_remote_line (Some line) = is_remote line.order

-- such a gateway gives both ends back, and doesn't call the keeper; any other order leaves the ends as they were
abbrev pub LeavesRemoteIf : Bool → SessionInputs → SessionInputs → Type 0
LeavesRemoteIf false old new = new.remote ≡ old.remote
LeavesRemoteIf true old new = (IsSome old.remote → IsSome new.remote) × (new.keeper ≡ old.keeper)

abbrev pub LeavesRemote : Option LineView → SessionInputs → SessionInputs → Type 0
LeavesRemote line old new = LeavesRemoteIf (is_remote_line line) old new

-- ---- the bytes

-- no more bytes were taken than a session may take; and after so many the status is 6
pub record TakesIn (status : ℕ) (old new : SourceView) : Type 0 where
  pub took : TookAtMost old new
  pub all : length took.bytes ≡ most_taken → status ≡ 6

-- The same of a session that relays; after so many a failure or idleness, which come first, make the status 4.
pub record TakesOver (status : ℕ) (old new : SourceView) : Type 0 where
  pub took : TookAtMost old new
  pub all : length took.bytes ≡ most_taken → (status ≡ 6) ⊎ (status ≡ 4)

abbrev pub TakesFor : Command → ℕ → SourceView → SourceView → Type 0
TakesFor (PlugGw caller) status old new = TakesOver status old new
TakesFor (Gateway kinds.Telnet authorities peer) status old new = TakesOver status old new
TakesFor command status old new = TakesIn status old new

-- of the jobs without a table `otp-calc` alone takes anything
abbrev pub TakesInJob : Job → SourceView → SourceView → Type 0
TakesInJob (OtpCalc file) old new = TookAtMost old new
TakesInJob job old new = new ≡ old

abbrev pub TakesOf : Order → ℕ → SourceView → SourceView → Type 0
TakesOf (ByTable command) status old new = TakesFor command status old new
TakesOf (Alone job) status old new = TakesInJob job old new

abbrev pub TakesBy : Option LineView → ℕ → SourceView → SourceView → Type 0
TakesBy None status old new = TakesIn status old new
TakesBy (Some line) status old new = TakesOf line.order status old new
