-- What making a server ready comes to, and what it leaves.
use Rattle.std.specs.Prelude.{◌≡◌, ℕ, ◌⊎◌, true, false, not, List, [], Option, Some, None, Result, Ok, Err}
use Rattle.auth_machine.specs.Book.{BookView}
use Rattle.auth_machine.specs.Policy.{PolicyView}
use Rattle.bastion.specs.Inputs.{is_of_line}
use Rattle.bastion.specs.Mailing.{OpensRack, SlotsUnread}
use Rattle.bastion.specs.Outcome.{DeviceRose, SlotsRose, fault_line_of, status_of}
use Rattle.bastion.specs.Reading.{Finds}
use Rattle.bastion.specs.Run.{AsksTable, FilesUnread, ReadsOnly, TellsIf, Unused}
use Rattle.bastion.specs.Serving.{book_at_first, most_entries}
use Rattle.bastion.specs.SessionSteps.{Opened, Unopened}
use Rattle.bastion.specs.Spool.{HasBadSlot, IsUnopened}
use Rattle.bastion.specs.Status.{DisksRose}
use Rattle.bastion.specs.WorldView.{WorldView}
use Rattle.bastion.specs.declared.outcome.Device.TheVariants as device
use Rattle.bastion.specs.declared.outcome.Outcome.{Outcome}
use Rattle.bastion.specs.declared.outcome.Outcome.TheVariants.{Unread, Failed, NoMemory}
use Rattle.bastion.specs.declared.outcome.Refusal.{Refusal}
use Rattle.bastion.specs.declared.outcome.Refusal.TheVariants.{Table, Rule, Record, Slot, Otp}
use Rattle.bastion.specs.declared.outcome.Step.{Step}
use Rattle.bastion.specs.declared.outcome.Step.TheVariants as steps
use Rattle.bastion_ready.specs.Inputs.{HasInputs, HasSite, IsSaidOf, ServerInputs, SiteRules, origin_of, site_rules_of, whose}
use Rattle.bastion_ready.specs.Words.{Door, ServerLine, doors_of, services_of}
use Rattle.fw_disk.specs.DiskView.{DiskView}
use Rattle.fw_outside.specs.KeeperView.{KeeperFailed, KeeperView}
use Rattle.gate_rules.specs.Reading.{RuleBook}
use Rattle.gate_rules.specs.declared.service.Service.{Service}
use Rattle.spool_rack.specs.Opening.{IsRackOf}
use Rattle.spool_rack.specs.Store.{StoreView}

-- ---- it is ready

-- What the server needs was read, and nothing else happened. It has a door for each worker and the rules of each service, the
-- book is of the records that the keeper had, by what the table says, and the rack of the slots on all disks. The keeper is in
-- the book, and the disks are in the rack. Whatever the files tell, the rules are those of the services of the doors, each once,
-- and one table says all of them and the policy.
pub record IsReadyFor (line : ServerLine) (doors : List Door) (rules : List (Service × RuleBook)) (book : BookView) (rack : StoreView) (old new : WorldView) : Type 0 where
  pub doors_are : doors ≡ doors_of line.plan
  pub inputs : ServerInputs
  pub read : HasInputs line (Ok inputs) old
  pub said : IsSaidOf (services_of line.plan.posts) inputs.site
  pub rules_are : rules ≡ inputs.site.rules
  pub whose_are : whose rules ≡ services_of line.plan.posts
  pub middle : WorldView
  pub only : ReadsOnly line.table true old middle
  pub before : KeeperView
  pub keeper : middle.inputs.keeper ≡ Some before
  pub at_first : book ≡ book_at_first (origin_of inputs) most_entries before
  pub slots : IsRackOf (Unit {0}) old.inputs.disks rack
  pub is : new ≡ record middle { inputs = record (middle.inputs) { keeper = None; disks = [] } }

-- no other words make one ready
abbrev pub IsReady : Option ServerLine → List Door → List (Service × RuleBook) → BookView → StoreView → WorldView → WorldView → Type 0
IsReady None doors rules book rack old new = ⊥
IsReady (Some line) doors rules book rack old new = IsReadyFor line doors rules book rack old new

-- ---- or not

-- the first thing that can't be read refuses, before the slots are come to
pub record Refuses (line : ServerLine) (refusal : Refusal) (old new : WorldView) : Type 0 where
  pub read : HasInputs line (Err refusal) old
  pub only : ReadsOnly line.table (not (is_of_line refusal)) old new

-- All that was to be read could be; then a slot wasn't opened, which this outcome tells, or there was no memory for the slots.
-- Those before it were opened, and nothing else happened: the keeper and all disks are there.
pub record SlotsStop (line : ServerLine) (outcome : Outcome) (old new : WorldView) : Type 0 where
  pub inputs : ServerInputs
  pub read : HasInputs line (Ok inputs) old
  pub middle : WorldView
  pub only : ReadsOnly line.table true old middle
  pub unread : SlotsUnread outcome middle new

-- what can't be read: of the table, of the records, or a slot
abbrev pub CannotRead : ServerLine → Refusal → WorldView → WorldView → Type 0
CannotRead line (Table fault) old new = Refuses line (Table fault) old new
CannotRead line (Rule fault) old new = Refuses line (Rule fault) old new
CannotRead line (Record name at) old new = Refuses line (Record name at) old new
CannotRead line (Slot slot at) old new = SlotsStop line (Unread (Slot slot at)) old new
CannotRead line (Otp refusal) old new = ⊥

-- what the table says was read; then the keeper failed, and nothing else happened
pub record RecordsUnread (line : ServerLine) (old new : WorldView) : Type 0 where
  pub site : HasSite line old
  pub files : AsksTable line.table old.files new.files
  pub before : KeeperView
  pub keeper : old.inputs.keeper ≡ Some before
  pub after : KeeperView
  pub failed : KeeperFailed before after
  pub inputs : new.inputs ≡ record (old.inputs) { keeper = Some after }
  pub output : new.output ≡ old.output
  pub logs : new.logs ≡ old.logs

-- what the table says was read; then memory was wanting for the records
pub record RecordsLack (line : ServerLine) (old new : WorldView) : Type 0 where
  pub site : HasSite line old
  pub only : ReadsOnly line.table true old new

-- memory was wanting: for the words or what the table says, or behind it for the records, or behind these for the slots
abbrev pub Lacks : ServerLine → Step → WorldView → WorldView → Type 0
Lacks line steps.Start old new = (new ≡ old) ⊎ ReadsOnly line.table false old new
Lacks line steps.Table old new = ReadsOnly line.table false old new
Lacks line steps.Rules old new = ReadsOnly line.table false old new
Lacks line steps.Policy old new = ReadsOnly line.table false old new
Lacks line steps.Records old new = RecordsLack line old new
Lacks line steps.Slots old new = SlotsStop line (NoMemory steps.Slots) old new
Lacks line step old new = ⊥

-- why a server isn't ready, and that nothing else was done
abbrev pub StopsFor : ServerLine → Outcome → WorldView → WorldView → Type 0
StopsFor line (Unread refusal) old new = CannotRead line refusal old new
StopsFor line (Failed device.Table) old new = FilesUnread line.table old new
StopsFor line (Failed device.Records) old new = RecordsUnread line old new
StopsFor line (Failed (device.Disk slot)) old new = SlotsStop line (Failed (device.Disk slot)) old new
StopsFor line (NoMemory step) old new = Lacks line step old new
StopsFor line _ old new = ⊥

-- words that ask for no server do nothing
abbrev pub Stops : Option ServerLine → Outcome → WorldView → WorldView → Type 0
Stops None outcome old new = Unused outcome old new
Stops (Some line) outcome old new = StopsFor line outcome old new

-- The server isn't ready, for this outcome: a failure that it names was counted; then its line was given to the log; and the
-- status is the outcome's, whatever became of that line.
pub record IsRefused (line : Option ServerLine) (status : ℕ) (old new : WorldView) : Type 0 where
  pub outcome : Outcome
  pub middle : WorldView
  pub stops : Stops line outcome old middle
  pub rose : SlotsRose outcome old middle
  pub tells : TellsIf (fault_line_of outcome) middle new
  pub status_is : status ≡ status_of outcome

-- ---- what is left

-- The disks are there: as they were; or the slots of all before one were opened, that one's wasn't, and those behind it weren't
-- called.
abbrev pub AreBack : List DiskView → List DiskView → Type 0
AreBack old new = (new ≡ old) ⊎ IsUnopened old new

-- ---- the status

-- a slot is the first that has no reading, behind all else that the server needs
pub record LacksSlot (line : ServerLine) (old new : WorldView) : Type 0 where
  pub inputs : ServerInputs
  pub read : HasInputs line (Ok inputs) old
  pub slot : ℕ
  pub at : ℕ
  pub bad : HasBadSlot slot at old.inputs.disks new.inputs.disks

-- a disk's count rose, where all else that the server needs can be read
pub record DiskFailed (line : ServerLine) (old new : WorldView) : Type 0 where
  pub inputs : ServerInputs
  pub read : HasInputs line (Ok inputs) old
  pub rose : DisksRose old.inputs.disks new.inputs.disks

-- something that the server needs has no reading
abbrev pub IsUnread : ServerLine → WorldView → WorldView → Type 0
IsUnread line old new = ((refusal : Refusal) × HasInputs line (Err refusal) old) ⊎ LacksSlot line old new

-- the files' count rose; or, where what the table says can be read, the keeper's; or behind that a disk's
abbrev pub IsCounted : ServerLine → WorldView → WorldView → Type 0
IsCounted line old new = DeviceRose device.Table old new ⊎ ((HasSite line old × DeviceRose device.Records old new) ⊎ DiskFailed line old new)

-- 3 is where something that the server needs can't be read, 4 where a count of the files, the keeper or a disk rose, and 5 is
-- want of memory
abbrev pub IsStatusFor : ServerLine → ℕ → WorldView → WorldView → Type 0
IsStatusFor line status old new =
    (((status ≡ 3) × IsUnread line old new)
    ⊎ ((status ≡ 4) × IsCounted line old new))
    ⊎ (status ≡ 5)

-- 2 is for words that ask for no server, and for no others
abbrev pub IsStatus : Option ServerLine → ℕ → WorldView → WorldView → Type 0
IsStatus None status old new = status ≡ 2
IsStatus (Some line) status old new = IsStatusFor line status old new

-- ---- step by step
-- No public clause cites these: they say what private functions answer.

-- the keeper of a book is in the world again, and nothing else happened
pub record ShutsBook (book : BookView) (old new : WorldView) : Type 0 where
  pub is : new ≡ record old { inputs = record (old.inputs) { keeper = Some book.keeper } }

-- not all slots were opened; and then the keeper of this book was put back
pub record SlotsUnreadBehind (book : BookView) (outcome : Outcome) (old new : WorldView) : Type 0 where
  pub middle : WorldView
  pub unread : SlotsUnread outcome old middle
  pub shut : ShutsBook book middle new

-- the slots were opened behind these doors and rules and this book, which stand beside them
pub record OpensBehind (doors : List Door) (rules : List (Service × RuleBook)) (book : BookView) (own_doors : List Door) (own_rules : List (Service × RuleBook)) (own_book : BookView) (rack : StoreView) (old new : WorldView) : Type 0 where
  pub doors_are : own_doors ≡ doors
  pub rules_are : own_rules ≡ rules
  pub book_is : own_book ≡ book
  pub slots : OpensRack rack old new

-- what the table with this name says of the services was read, and the book opened by it
pub record OpensSite (name : List ℕ) (services : List Service) (rules : List (Service × RuleBook)) (book : BookView) (old new : WorldView) : Type 0 where
  pub site : SiteRules
  pub middle : WorldView
  pub found : Finds (site_rules_of services) name (Ok site) old.files middle.files
  pub said : IsSaidOf services site
  pub output : middle.output ≡ old.output
  pub logs : middle.logs ≡ old.logs
  pub inputs : middle.inputs ≡ old.inputs
  pub rules_are : rules ≡ site.rules
  pub opened : Opened site.policy book middle new

-- the book wasn't opened by what was read, or nothing could be read, and nothing more was done
abbrev pub StopsBehind : Result SiteRules Outcome → Outcome → WorldView → WorldView → Type 0
StopsBehind (Ok site) outcome old new = Unopened outcome old new
StopsBehind (Err first) outcome old new = (outcome ≡ first) × (new ≡ old)

-- what the table with this name says of the services wasn't read, or the book not opened by it
pub record StopsSite (name : List ℕ) (services : List Service) (outcome : Outcome) (old new : WorldView) : Type 0 where
  pub read : Result SiteRules Outcome
  pub middle : WorldView
  pub found : Finds (site_rules_of services) name read old.files middle.files
  pub output : middle.output ≡ old.output
  pub logs : middle.logs ≡ old.logs
  pub inputs : middle.inputs ≡ old.inputs
  pub stops : StopsBehind read outcome middle new

-- the book was opened, by this policy, and then all slots
pub record OpensBoth (policy : PolicyView) (book : BookView) (rack : StoreView) (old new : WorldView) : Type 0 where
  pub middle : WorldView
  pub opened : Opened policy book old middle
  pub slots : OpensRack rack middle new

-- the book was opened, and not all slots
pub record OpensBookAlone (policy : PolicyView) (outcome : Outcome) (old new : WorldView) : Type 0 where
  pub book : BookView
  pub middle : WorldView
  pub opened : Opened policy book old middle
  pub behind : SlotsUnreadBehind book outcome middle new

-- the book wasn't opened, or not all slots behind it
abbrev pub OpensNotBoth : PolicyView → Outcome → WorldView → WorldView → Type 0
OpensNotBoth policy outcome old new = Unopened outcome old new ⊎ OpensBookAlone policy outcome old new
