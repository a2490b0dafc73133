-- The work of `smapd`: the slots are opened, the messages of the full ones are handed on in one round, with at most as many turns
-- as there are slots, the disks are given back, and what the round came to is printed.
use Rattle.std.specs.Prelude.{◌≡◌, ℕ, ◌⊎◌, List, ◌++◌, length, codes, IfSome, Option, Some, None, Result, Ok, Err}
use Rattle.std.specs.Fmt.{decimal}
use Rattle.fw_outside.specs.SinkView.{SinkView}
use Rattle.fw_outside.specs.declared.failed.Failed as sink
use Rattle.smapd_queue.specs.Meeting.{meeting_with}
use Rattle.smapd_queue.specs.Round.{HandsOnTelling}
use Rattle.smapd_queue.specs.declared.round.Round.{Round}
use Rattle.smapd_queue.specs.declared.round.RoundFault.{RoundFault}
use Rattle.smapd_queue.specs.declared.round.RoundFault.TheVariants as faults
use Rattle.smapd_queue.specs.declared.round.Trouble.{Trouble}
use Rattle.smapd_queue.specs.declared.round.Trouble.TheVariants as troubles
use Rattle.spool_rack.specs.Opening.{AreInOrder, IsRackOf}
use Rattle.spool_rack.specs.Store.{StoreView}
use Rattle.bastion.specs.Mailing.{SlotsUnread}
use Rattle.bastion.specs.Works.{Prints}
use Rattle.bastion.specs.WorldView.{Post, WorldView}
use Rattle.bastion.specs.declared.outcome.Device.{Device}
use Rattle.bastion.specs.declared.outcome.Device.TheVariants as device
use Rattle.bastion.specs.declared.outcome.Outcome.{Outcome}
use Rattle.bastion.specs.declared.outcome.Outcome.TheVariants.{Failed, NoMemory, Done}
use Rattle.bastion.specs.declared.outcome.Step.TheVariants as steps

-- ---- what a round comes to

-- `accepted A refused R failed F broken B`
abbrev pub round_text : Round → List ℕ
round_text round =
    codes "accepted " ++ decimal round.accepted ++ codes " refused " ++ decimal round.refused ++ codes " failed " ++ decimal round.failed ++ codes " broken " ++ decimal round.broken ++ codes "\n"

abbrev pub device_of : Trouble → Device
device_of troubles.Mailer = device.Mailer
device_of (troubles.Disk slot) = device.Disk slot

-- where a hand failed or a slot broke, the device of the first such turn failed
abbrev pub outcome_after : Option Trouble → Outcome → Outcome
outcome_after None other = other
outcome_after (Some trouble) other = Failed (device_of trouble)

abbrev pub outcome_printed : Result (Unit {0}) sink.Failed → Outcome
outcome_printed (Ok done) = Done
outcome_printed (Err failed) = Failed device.Output

-- what a round comes to that the output was told, or wasn't
abbrev pub outcome_told : Option Trouble → Result (Unit {0}) sink.Failed → Outcome
outcome_told trouble printing = outcome_after trouble (outcome_printed printing)

abbrev pub outcome_faulted : RoundFault → Outcome
outcome_faulted (faults.NoMemory round) = NoMemory steps.Round
outcome_faulted (faults.LogFault round) = Failed device.Log

-- a round that went to its end is printed, and of any other nothing
abbrev pub TellsRound : Result Round RoundFault → Option Trouble → Outcome → SinkView → SinkView → Type 0
TellsRound (Ok round) trouble outcome old new = Prints (outcome_told trouble) (round_text round) outcome old new
TellsRound (Err fault) trouble outcome old new = (outcome ≡ outcome_after trouble (outcome_faulted fault)) × (new ≡ old)

-- ---- the work

-- All slots were opened, and one round handed on messages of the full ones to the first mailer, with at most as many turns as there
-- are slots. Then the disks of all slots were given back, in order of their numbers, and the round was told. The files and the other
-- inputs are as they were.
pub record RoundHeld (post : Post) (outcome : Outcome) (old new : WorldView) : Type 0 where
  pub first : StoreView
  pub opened : IsRackOf (Unit {0}) old.inputs.disks first
  pub store : StoreView
  pub closed : IfSome store.queues (λ q. AreInOrder q new.inputs.disks)
  pub answer : Result Round RoundFault
  pub trouble : Option Trouble
  pub hands : HandsOnTelling (length old.inputs.disks) answer trouble (meeting_with first post.before old.logs) (meeting_with store post.after new.logs)
  pub tells : TellsRound answer trouble outcome old.output new.output
  pub inputs_are : new.inputs ≡ record (old.inputs) { disks = new.inputs.disks }
  pub files : new.files ≡ old.files

-- or not all slots were opened, and the mailers are as they were
abbrev pub HandsMail : Post → Outcome → WorldView → WorldView → Type 0
HandsMail post outcome old new = (SlotsUnread outcome old new × (post.after ≡ post.before)) ⊎ RoundHeld post outcome old new

-- ---- step by step
-- No public clause cites this: it says what a private function answers.

-- a round over these slots, with at most so many turns
pub record ServesRound (post : Post) (turns : ℕ) (first : StoreView) (outcome : Outcome) (old new : WorldView) : Type 0 where
  pub store : StoreView
  pub closed : IfSome store.queues (λ q. AreInOrder q new.inputs.disks)
  pub answer : Result Round RoundFault
  pub trouble : Option Trouble
  pub hands : HandsOnTelling turns answer trouble (meeting_with first post.before old.logs) (meeting_with store post.after new.logs)
  pub tells : TellsRound answer trouble outcome old.output new.output
  pub inputs_are : new.inputs ≡ record (old.inputs) { disks = new.inputs.disks }
  pub files : new.files ≡ old.files
