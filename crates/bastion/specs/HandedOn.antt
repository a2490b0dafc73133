-- What `smapd` did: which messages it handed on, and what stands in the slots behind that.
use Rattle.std.specs.Prelude.{◌≡◌, ◌≢◌, ℕ, ◌⊎◌, List, [], ◌++◌, map, length, IfSome, Option, Some, None, Result}
use Rattle.fw_outside.specs.SinkView.{Gives, SinkView}
use Rattle.fw_outside.specs.declared.failed.Failed as sink
use Rattle.slot_bytes.specs.SlotView.{mail_view}
use Rattle.smapd_queue.specs.Meeting.{last_turn, meeting_with}
use Rattle.smapd_queue.specs.Round.{HandsOnTelling}
use Rattle.smapd_queue.specs.Turns.{Turn, accepted_of}
use Rattle.smapd_queue.specs.declared.round.Round.{Round}
use Rattle.smapd_queue.specs.declared.round.RoundFault.{RoundFault}
use Rattle.smapd_queue.specs.declared.round.Trouble.{Trouble}
use Rattle.spool_rack.specs.Opening.{AreInOrder, IsRackFault, IsRackOf}
use Rattle.spool_rack.specs.Store.{StoreView}
use Rattle.spool_runs.specs.OnDisks.{RunsSpool}
use Rattle.spool_slots.specs.declared.slot_why.SlotWhy.{SlotWhy}
use Rattle.bastion.specs.HandingOn.{TellsRound}
use Rattle.bastion.specs.Mailing.{slot_fault}
use Rattle.bastion.specs.Outcome.{fault_line_of, status_of}
use Rattle.bastion.specs.WorldView.{Post, WorldView}
use Rattle.bastion.specs.declared.outcome.Outcome.{Outcome}

-- One round was held over the slots of the disks, with at most as many turns as there are slots, and left the log so (`logs`). These
-- are its turns whose lines the log was given whole. If
-- the slots' queues are told, their disks came back, in order of the numbers (`closed`). The messages that the first mailer accepted
-- in it, in order, are those that events of the spool on the disks accepted, which led it from what it was to what it is, and by
-- which none was answered for (`spool`).
pub record HandsRound (post : Post) (turns : List Turn) (answer : Result Round RoundFault) (trouble : Option Trouble) (old new : WorldView) : Type 0 where
  pub first : StoreView
  pub opened : IsRackOf (Unit {0}) old.inputs.disks first
  pub store : StoreView
  pub closed : IfSome store.queues (λ q. AreInOrder q new.inputs.disks)
  pub logs : SinkView
  pub hands : HandsOnTelling (length old.inputs.disks) answer trouble (meeting_with first post.before old.logs) (meeting_with store post.after logs)
  pub turns_are : hands.hands.turns ≡ turns
  pub spool : RunsSpool [] (map mail_view (accepted_of (hands.hands.turns ++ last_turn hands.hands.ending))) old.inputs.disks new.inputs.disks

-- a log was given a line, or failed within it, where there is one; else it is as it was
abbrev pub LineIf : Option (List ℕ) → SinkView → SinkView → Type 0
LineIf None old new = new ≡ old
LineIf (Some text) old new = (told : Result (Unit {0}) sink.Failed) × Gives told text old new

-- A round was held, and the run came to this outcome by it: the output was given the numbers of a round that went to its end, or a
-- front of them where it failed, and behind what the round left in the log its fault line was given, where it has one.
pub record HandsSome (post : Post) (turns : List Turn) (status : ℕ) (old new : WorldView) : Type 0 where
  pub answer : Result Round RoundFault
  pub trouble : Option Trouble
  pub held : HandsRound post turns answer trouble old new
  pub outcome : Outcome
  pub status_is : status ≡ status_of outcome
  pub printed : TellsRound answer trouble outcome old.output new.output
  pub told : LineIf (fault_line_of outcome) held.logs new.logs

-- No round was held: not all slots were opened, for this cause. The log was given the line of that alone, nothing was printed, and
-- the mailers are as they were.
pub record HandsNone (post : Post) (status : ℕ) (old new : WorldView) : Type 0 where
  pub slot : ℕ
  pub why : SlotWhy
  pub fault : IsRackFault (Unit {0}) old.inputs.disks slot why new.inputs.disks
  pub status_is : status ≡ status_of (slot_fault slot why)
  pub told : LineIf (fault_line_of (slot_fault slot why)) old.logs new.logs
  pub mailers : post.after ≡ post.before
  pub output : new.output ≡ old.output
  pub undone : status ≢ 0
  pub spool : RunsSpool [] [] old.inputs.disks new.inputs.disks

-- a round, or none
abbrev pub IsHandedOn : Post → List Turn → ℕ → WorldView → WorldView → Type 0
IsHandedOn post turns status old new = HandsNone post status old new ⊎ HandsSome post turns status old new
