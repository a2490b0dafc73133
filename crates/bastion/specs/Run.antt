-- What a run of a command line comes to, and what it leaves.
use mathlib.Core.Logic.{inl, inr}
use Rattle.std.specs.Prelude.{◌≡◌, ℕ, ◌⊎◌, Bool, true, false, not, List, Option, Some, None, Result, Ok, Err}
use Rattle.fw_outside.specs.Counts.{Rose}
use Rattle.fw_outside.specs.FilesView.{FilesView}
use Rattle.fw_outside.specs.KeeperView.{IsCalled, KeeperFailed, KeeperView}
use Rattle.fw_outside.specs.SinkView.{Gives}
use Rattle.fw_outside.specs.ToldList.{AddsOne}
use Rattle.fw_outside.specs.declared.failed.Failed as sink
use Rattle.fw_types.specs.declared.peer.Peer.{Peer}
use Rattle.gate_rules.specs.Verdict.{verdict_of}
use Rattle.gate_rules.specs.declared.verdict.Verdict.{Verdict}
pub use Rattle.bastion.specs.FilesAsked.{AsksTable, FilesFailed, TookBackFailed}
use Rattle.bastion.specs.Basis.{Basis, Course}
use Rattle.bastion.specs.Basis.Basis.{Nothing, Refused, Given}
use Rattle.bastion.specs.Inputs.{HasInputs, Inputs, Reading, is_of_line, needs_records}
use Rattle.bastion.specs.Jobs.{DoesJob}
use Rattle.bastion.specs.Outcome.{RoseIn, fault_line_of, status_of, verdict_status}
use Rattle.bastion.specs.Words.{LineView}
use Rattle.bastion.specs.Works.{Works}
use Rattle.bastion.specs.WorldView.{Post, SessionInputs, WorldView}
use Rattle.bastion.specs.declared.outcome.Device.TheVariants as device
use Rattle.bastion.specs.declared.outcome.Outcome.{Outcome}
use Rattle.bastion.specs.declared.outcome.Outcome.TheVariants.{Usage, Unread, Failed, NoMemory}
use Rattle.bastion.specs.declared.outcome.Refusal.{Refusal}
use Rattle.bastion.specs.declared.outcome.Step.{Step}
use Rattle.bastion.specs.declared.outcome.Step.TheVariants as steps
use Rattle.bastion.specs.declared.words.Command.{Command}
use Rattle.bastion.specs.declared.words.Command.TheVariants.{Netacl, NetaclRun, Table, Authsrv, PlugGw, Gateway, Smap}
use Rattle.bastion.specs.declared.words.Order.{Order}
use Rattle.bastion.specs.declared.words.Order.TheVariants.{ByTable, Alone}

-- ---- nothing was done: what the command needs couldn't be had

-- the keeper was called once
pub record CallsKeeper (old new : SessionInputs) : Type 0 where
  pub before : KeeperView
  pub keeper : old.keeper ≡ Some before
  pub after : KeeperView
  pub called : IsCalled before after
  pub is : new ≡ record old { keeper = Some after }

-- where it is asked for the records
abbrev pub CallsIf : Bool → SessionInputs → SessionInputs → Type 0
CallsIf false old new = new ≡ old
CallsIf true old new = CallsKeeper old new

-- the table was read, and the records where that is said, and nothing else happened
pub record ReadsOnly (name : List ℕ) (records : Bool) (old new : WorldView) : Type 0 where
  pub files : AsksTable name old.files new.files
  pub inputs : CallsIf records old.inputs new.inputs
  pub output : new.output ≡ old.output
  pub logs : new.logs ≡ old.logs

-- the first thing that can't be read refuses
pub record Refuses (name : List ℕ) (command : Command) (refusal : Refusal) (old new : WorldView) : Type 0 where
  pub reading : Reading
  pub read : HasInputs name command reading (Err refusal) old
  pub only : ReadsOnly name (not (is_of_line refusal)) old new

-- the files failed, and nothing else happened
pub record FilesUnread (name : List ℕ) (old new : WorldView) : Type 0 where
  pub failed : FilesFailed name old.files new.files
  pub output : new.output ≡ old.output
  pub logs : new.logs ≡ old.logs
  pub inputs : new.inputs ≡ old.inputs

-- the table was read, and the keeper failed, of a command that needs the records; nothing else happened
pub record RecordsUnread (name : List ℕ) (command : Command) (old new : WorldView) : Type 0 where
  pub needed : needs_records command ≡ true
  pub files : AsksTable name old.files new.files
  pub before : KeeperView
  pub keeper : old.inputs.keeper ≡ Some before
  pub after : KeeperView
  pub failed : KeeperFailed before after
  pub inputs : new.inputs ≡ record (old.inputs) { keeper = Some after }
  pub output : new.output ≡ old.output
  pub logs : new.logs ≡ old.logs

-- whom a command is about
abbrev pub peer_of : Command → Peer
peer_of (Netacl query) = query.peer
peer_of (NetaclRun query) = query.peer
peer_of (Table query) = query.peer
peer_of (Authsrv client) = client.peer
peer_of (PlugGw caller) = caller.peer
peer_of (Gateway kind authorities peer) = peer
peer_of (Smap peer) = peer

-- whom the rules don't decide of
abbrev pub is_at_console : Command → Bool
is_at_console (Authsrv client) = client.console
is_at_console _ = false

abbrev pub verdict_for : Command → Inputs → Verdict
verdict_for command inputs = verdict_of inputs.rules (peer_of command)

-- the rules permit the peer
pub record LacksPrint (name : List ℕ) (command : Command) (old new : WorldView) : Type 0 where
  pub reading : Reading
  pub inputs : Inputs
  pub read : HasInputs name command reading (Ok inputs) old
  pub permitted : verdict_status (verdict_for command inputs) ≡ 0
  pub only : ReadsOnly name (needs_records command) old new

-- memory was wanting for the records, of a command that needs them
pub record LacksRecords (name : List ℕ) (command : Command) (old new : WorldView) : Type 0 where
  pub needed : needs_records command ≡ true
  pub only : ReadsOnly name true old new

-- memory was wanting before the verdict; or for the text of one, and then only where it is a permission
abbrev pub Lacks : List ℕ → Command → Step → WorldView → WorldView → Type 0
Lacks name command steps.Print old new = LacksPrint name command old new
Lacks name command steps.Records old new = LacksRecords name command old new
Lacks name command steps.Slots old new = ⊥
Lacks name command steps.Drill old new = ⊥
Lacks name command steps.Round old new = ⊥
Lacks name command steps.Dictionary old new = ⊥
Lacks name command step old new = ReadsOnly name false old new

abbrev pub Stops : List ℕ → Command → Outcome → WorldView → WorldView → Type 0
Stops name command (Unread refusal) old new = Refuses name command refusal old new
Stops name command (Failed device.Table) old new = FilesUnread name old new
Stops name command (Failed device.Records) old new = RecordsUnread name command old new
Stops name command (NoMemory step) old new = Lacks name command step old new
Stops name command _ old new = ⊥

-- ---- or the work was done

pub record Worked (name : List ℕ) (command : Command) (outcome : Outcome) (old new : WorldView) : Type 0 where
  pub reading : Reading
  pub inputs : Inputs
  pub read : HasInputs name command reading (Ok inputs) old
  pub middle : WorldView
  pub only : ReadsOnly name (needs_records command) old middle
  pub works : Works command inputs outcome middle new

-- words that are no command do nothing
pub record Unused (outcome : Outcome) (old new : WorldView) : Type 0 where
  pub usage : outcome ≡ Usage
  pub is : new ≡ old

-- what a command comes to and leaves, by the table with this name
abbrev pub DoesFor : List ℕ → Command → Outcome → WorldView → WorldView → Type 0
DoesFor name command outcome old new = Stops name command outcome old new ⊎ Worked name command outcome old new

-- what it went by for that: what refused, or the inputs of the work
abbrev pub stopped_by : (name : List ℕ) (command : Command) (outcome : Outcome) (old new : WorldView) → Stops name command outcome old new → Basis
stopped_by name command (Unread refusal) old new stops = Refused stops.reading refusal
stopped_by name command outcome old new stops = Nothing

abbrev pub went_by : (name : List ℕ) (command : Command) (outcome : Outcome) (old new : WorldView) → DoesFor name command outcome old new → Basis
went_by name command outcome old new (inl stops) = stopped_by name command outcome old new stops
went_by name command outcome old new (inr worked) = Given worked.reading worked.inputs worked.middle

-- or a job that needs none
abbrev pub DoesOrder : Post → List ℕ → Order → Outcome → WorldView → WorldView → Type 0
DoesOrder post name (ByTable command) outcome old new = DoesFor name command outcome old new
DoesOrder post name (Alone job) outcome old new = DoesJob post job outcome old new

abbrev pub DoesLine : Post → Option LineView → Outcome → WorldView → WorldView → Type 0
DoesLine post None outcome old new = Unused outcome old new
DoesLine post (Some line) outcome old new = DoesOrder post line.table line.order outcome old new

-- what a job goes by, and words that are no command, is nothing that is read
abbrev pub order_went_by : (post : Post) (name : List ℕ) (order : Order) (outcome : Outcome) (old new : WorldView) → DoesOrder post name order outcome old new → Basis
order_went_by post name (ByTable command) outcome old new does = went_by name command outcome old new does
order_went_by post name (Alone job) outcome old new does = Nothing

abbrev pub line_went_by : (post : Post) (line : Option LineView) (outcome : Outcome) (old new : WorldView) → DoesLine post line outcome old new → Basis
line_went_by post None outcome old new does = Nothing
line_went_by post (Some line) outcome old new does = order_went_by post line.table line.order outcome old new does

-- ---- the whole run

-- the log was given a line, or failed within it, and nothing else happened
pub record Tells (text : List ℕ) (old new : WorldView) : Type 0 where
  pub told : Result (Unit {0}) sink.Failed
  pub logged : Gives told text old.logs new.logs
  pub output : new.output ≡ old.output
  pub files : new.files ≡ old.files
  pub inputs : new.inputs ≡ old.inputs

-- where there is a line
abbrev pub TellsIf : Option (List ℕ) → WorldView → WorldView → Type 0
TellsIf None old new = new ≡ old
TellsIf (Some text) old new = Tells text old new

-- The run came to an outcome: what it did for that, and what its session did; a failure that it names was counted, or came to that
-- session as something strange; then the outcome's line was given to the log, where it has one; and its status is the outcome's,
-- whatever became of that line.
pub record Run (post : Post) (line : Option LineView) (status : ℕ) (old new : WorldView) : Type 0 where
  pub outcome : Outcome
  pub middle : WorldView
  pub does : DoesLine post line outcome old middle
  pub course : Course
  pub rose : RoseIn post line course.deeds outcome old middle
  pub tells : TellsIf (fault_line_of outcome) middle new
  pub status_is : status ≡ status_of outcome
