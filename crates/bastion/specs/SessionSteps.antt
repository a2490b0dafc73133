-- A session over the book of the records step by step: the book is opened, the client served, and the keeper given back.
-- Public clauses cite `Opened` and `Unopened` alone: the others say what private functions answer.
use Rattle.std.specs.Prelude.{◌≡◌, ℕ, List, true, length, Some, None, Result, Ok, Err}
use Rattle.fw_outside.specs.DialerView.{DialerView}
use Rattle.fw_outside.specs.KeeperView.{IsCalled, KeeperFailed, KeeperView}
use Rattle.session_acts.specs.Dummies.{nowhere}
use Rattle.auth_machine.specs.Book.{BookView}
use Rattle.auth_machine.specs.History.{CountsCalls, CountsUnkept, HasRecords, IsLegal, IsSound}
use Rattle.auth_machine.specs.Opening.{ReadsAs}
use Rattle.auth_machine.specs.Policy.{PolicyView}
use Rattle.auth_machine.specs.Port.{book_port}
use Rattle.auth_machine.specs.declared.open_fault.OpenFault.{OpenFault}
use Rattle.auth_machine.specs.declared.open_fault.OpenFault.TheVariants as faults
use Rattle.client_service.specs.Conn.{Conn, Untouched}
use Rattle.fw_types.specs.declared.ending.Ending.{Ending}
use Rattle.fw_types.specs.declared.peer.Peer.{Peer}
use Rattle.gate_rules.specs.Reading.{RuleBook}
use Rattle.gate_rules.specs.Verdict.{verdict_of}
use Rattle.gate_rules.specs.declared.service.Service.{Service}
use Rattle.remote_port.specs.Remote.{RemoteOrigin, RemoteView, remote_port}
use Rattle.remote_port.specs.Texts.{RemoteTexts}
use Rattle.bastion.specs.Answering.{GivenBack, answerer_of, remote_at_first}
use Rattle.bastion.specs.Gating.{devices_over}
use Rattle.bastion.specs.Inputs.{HasInputs, Inputs, Reading, book_needs, needs}
use Rattle.bastion.specs.Run.{ReadsOnly, Stops}
use Rattle.bastion.specs.Serving.{Serves, UntouchedAt, book_at_first, devices_at, most_entries, origin_of}
use Rattle.bastion.specs.WorldView.{WorldView}
use Rattle.bastion.specs.declared.outcome.Device.TheVariants as device
use Rattle.bastion.specs.declared.outcome.Outcome.{Outcome}
use Rattle.bastion.specs.declared.outcome.Outcome.TheVariants as outcome
use Rattle.bastion.specs.declared.outcome.Refusal.{Refusal}
use Rattle.bastion.specs.declared.outcome.Refusal.TheVariants.{Record}
use Rattle.bastion.specs.declared.outcome.Step.TheVariants as steps
use Rattle.bastion.specs.declared.server_rules.ServerRules.{ServerRules}
use Rattle.bastion.specs.declared.words.Authorities.TheVariants.{Remote}
use Rattle.bastion.specs.declared.words.Client.{Client}
use Rattle.bastion.specs.declared.words.Command.{Command}

-- the keeper was taken, and the book is of its records
pub record Opened (policy : PolicyView) (book : BookView) (old new : WorldView) : Type 0 where
  pub before : KeeperView
  pub keeper : old.inputs.keeper ≡ Some before
  pub called : IsCalled before book.keeper
  pub at_first : book ≡ book_at_first book.origin most_entries book.keeper
  pub policy_is : book.origin.policy ≡ policy
  pub records : ReadsAs (Ok book.origin.records) before book.keeper
  pub is : new ≡ record old { inputs = record (old.inputs) { keeper = None } }

-- why a book isn't opened, as a run tells it
abbrev pub opening_fault : OpenFault → Outcome
opening_fault faults.LoadFault = outcome.Failed device.Records
opening_fault (faults.BadRecord name at) = outcome.Unread (Record name at)
opening_fault faults.NoMemory = outcome.NoMemory steps.Records

-- the least name under which no record of that name stands is this one, and nothing else happened
pub record Misrecorded (user : List ℕ) (at : ℕ) (old new : WorldView) : Type 0 where
  pub before : KeeperView
  pub keeper : old.inputs.keeper ≡ Some before
  pub after : KeeperView
  pub called : IsCalled before after
  pub bad : ReadsAs (Err (user, at)) before after
  pub is : new ≡ record old { inputs = record (old.inputs) { keeper = Some after } }

-- the keeper failed, and nothing else happened
pub record Unloaded (old new : WorldView) : Type 0 where
  pub before : KeeperView
  pub keeper : old.inputs.keeper ≡ Some before
  pub after : KeeperView
  pub missed : KeeperFailed before after
  pub is : new ≡ record old { inputs = record (old.inputs) { keeper = Some after } }

-- there was no memory for the records, and nothing else happened
pub record Unread (old new : WorldView) : Type 0 where
  pub before : KeeperView
  pub keeper : old.inputs.keeper ≡ Some before
  pub after : KeeperView
  pub called : IsCalled before after
  pub is : new ≡ record old { inputs = record (old.inputs) { keeper = Some after } }

-- why no book is opened
abbrev pub Unopened : Outcome → WorldView → WorldView → Type 0
Unopened (outcome.Failed device.Records) old new = Unloaded old new
Unopened (outcome.Unread (Record user at)) old new = Misrecorded user at old new
Unopened (outcome.NoMemory steps.Records) old new = Unread old new
Unopened _ old new = ⊥

-- the keeper of this book is there again, with the records after its history
pub record GivesBack (book : BookView) (old new : WorldView) : Type 0 where
  pub is : new ≡ record old { inputs = record (old.inputs) { keeper = Some book.keeper } }
  pub sound : IsSound book.origin
  pub legal : IsLegal book.origin book.history
  pub has : HasRecords book.origin book.history book.keeper
  pub faults : CountsUnkept book.failed_before book.history book.keeper
  pub called : CountsCalls book.called_before book.origin book.history book.asks book.keeper

-- ---- the book is opened

-- it was opened, with these rules beside it
pub record OpenedBy (server_rules : ServerRules) (rules : RuleBook) (book : BookView) (old new : WorldView) : Type 0 where
  pub rules_are : rules ≡ server_rules.rules
  pub opened : Opened server_rules.policy book old new

-- the inputs of each command that needs a book for this service
abbrev pub HasBookInputs : List ℕ → Service → Reading → Result Inputs Refusal → WorldView → Type 0
HasBookInputs name service reading read world = (command : Command) → needs command ≡ book_needs service → HasInputs name command reading read world

-- The inputs of the service were read, and the book is of their records. The keeper is in it.
pub record Opens (name : List ℕ) (service : Service) (rules : RuleBook) (book : BookView) (old new : WorldView) : Type 0 where
  pub reading : Reading
  pub inputs : Inputs
  pub rules_are : rules ≡ inputs.rules
  pub read : HasBookInputs name service reading (Ok inputs) old
  pub middle : WorldView
  pub only : ReadsOnly name true old middle
  pub before : KeeperView
  pub keeper : middle.inputs.keeper ≡ Some before
  pub at_first : book ≡ book_at_first (origin_of inputs) most_entries before
  pub is : new ≡ record middle { inputs = record (middle.inputs) { keeper = None } }

-- what the service needs can't be had, whichever command it is for
abbrev pub StopsEach : List ℕ → Service → Outcome → WorldView → WorldView → Type 0
StopsEach name service outcome old new = (command : Command) → needs command ≡ book_needs service → Stops name command outcome old new

-- ---- a session over it

-- a session over the book came to this ending, and then the keeper was given back
pub record EndsOver (book : BookView) (ending : Ending) (out : Outcome) (old new : WorldView) : Type 0 where
  pub back : GivesBack book old new
  pub full : book.refused ≡ true → length book.history ≡ book.limit
  pub comes : out ≡ outcome.Ended ending book.refused

-- the dialer is as before, but for how long its links wait
abbrev pub IsUndialed : DialerView → DialerView → Type 0
IsUndialed old new = new ≡ record old { waits = new.waits }

-- a client of `authsrv` was served over this book, and then the keeper given back
pub record HoldsOver (client : Client) (rules : RuleBook) (first : BookView) (out : Outcome) (old new : WorldView) : Type 0 where
  pub book : BookView
  pub ending : Ending
  pub middle : WorldView
  pub dialer : DialerView
  pub serves : Serves client.console rules client.peer (devices_at old first nowhere) (devices_at middle book dialer) ending
  pub undialed : IsUndialed nowhere dialer
  pub untouched : UntouchedAt client.console (verdict_of rules client.peer) first book
  pub files : middle.files ≡ old.files
  pub links : middle.inputs.dialer ≡ old.inputs.dialer
  pub launcher : middle.inputs.launcher ≡ old.inputs.launcher
  pub disks : middle.inputs.disks ≡ old.inputs.disks
  pub remote : middle.inputs.remote ≡ old.inputs.remote
  pub ends : EndsOver book ending out middle new

-- and a client of a gateway
pub record PassesOver (service : Service) (peer : Peer) (rules : RuleBook) (first : BookView) (out : Outcome) (old new : WorldView) : Type 0 where
  pub book : BookView
  pub ending : Ending
  pub middle : WorldView
  pub serves : Conn service rules peer (devices_over old (book_port first)) (devices_over middle (book_port book)) ending
  pub untouched : Untouched service (verdict_of rules peer) first book
  pub files : middle.files ≡ old.files
  pub launcher : middle.inputs.launcher ≡ old.inputs.launcher
  pub disks : middle.inputs.disks ≡ old.inputs.disks
  pub remote : middle.inputs.remote ≡ old.inputs.remote
  pub ends : EndsOver book ending out middle new

-- ---- a session over a link

-- a client of a gateway was served over both ends of the link, and then these were given back
pub record PassesLink (service : Service) (peer : Peer) (rules : RuleBook) (out : Outcome) (old new : WorldView) : Type 0 where
  pub ends : RemoteOrigin
  pub there : old.inputs.remote ≡ Some ends
  pub remote : RemoteView
  pub ending : Ending
  pub serves : Conn service rules peer (devices_over old (remote_port (remote_at_first ends))) (devices_over new (remote_port remote)) ending
  pub untouched : Untouched service (verdict_of rules peer) (remote_at_first ends) remote
  pub texts : RemoteTexts remote
  pub comes : out ≡ outcome.Ended ending remote.talk.refused
  pub back : GivenBack Remote (answerer_of Remote remote) old.inputs new.inputs
  pub files : new.files ≡ old.files
  pub launcher : new.inputs.launcher ≡ old.inputs.launcher
  pub disks : new.inputs.disks ≡ old.inputs.disks
