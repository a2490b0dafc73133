-- The rounds in which a server hands on its mail.
use Rattle.std.specs.Prelude.{◌≡◌, ◌⊎◌, ℕ, ◌+◌, ◌-◌, ◌^◌, ◌<◌, ◌≤◌, min, Bool, true, false, List, [], ◌∷◌, ◌++◌, length, flat_map, sum_by, count_by, Option, Some, Result, Ok, Err}
use Rattle.std.specs.List.{AllByRecursion, Contains}
use Rattle.fw_disk.specs.Moments.{EachImage, Now}
use Rattle.fw_mail.specs.MailerView.{MailerView}
use Rattle.fw_outside.specs.Counts.{Rose}
use Rattle.fw_outside.specs.SinkView.{SinkView}
use Rattle.fw_types.specs.declared.message.Message.{Message}
use Rattle.slot_bytes.specs.Layout.{Mail}
use Rattle.smapd_queue.specs.Meeting.{End, Meeting, last_turn, meeting_with}
use Rattle.smapd_queue.specs.Round.{HandsOn, IsTurn}
use Rattle.smapd_queue.specs.Slots.{IsItsMessage}
use Rattle.smapd_queue.specs.Sums.{MailersGo, released_of}
use Rattle.smapd_queue.specs.Turns.{Turn, accepted_of, broken_by, broken_of, put_aside_of}
use Rattle.smapd_queue.specs.declared.round.Round.{Round}
use Rattle.smapd_queue.specs.declared.round.RoundFault.{RoundFault}
use Rattle.smapd_queue.specs.declared.round.RoundFault.TheVariants as faults
use Rattle.spool_pool.specs.Ends.{IsSettled}
use Rattle.spool_pool.specs.Known.{PassView, bare}
use Rattle.spool_rack.specs.Stock.{count_of, rack_of}
use Rattle.spool_rack.specs.Store.{Handed, Queues, StoreView}
use Rattle.spool_slots.specs.Images.{IsWholeOrAside}
use Rattle.spool_slots.specs.States.{BrokenView, FullView, Keeps}
use Rattle.fwtk_serve.specs.Sessions.{store_at}

-- ---- a round

-- what a round answered, the turns whose lines were given to the log whole, and how it ended
pub record RoundView : Type 0 where
  pub answer : Result Round RoundFault
  pub turns : List Turn
  pub ending : End

-- a round went as `smapd_round` says, with at most so many turns
pub record IsRound (most : ℕ) (round : RoundView) (old new : Meeting) : Type 0 where
  pub hands : HandsOn most round.answer old new
  pub turns_are : round.turns ≡ hands.turns
  pub ending_is : round.ending ≡ hands.ending

-- a round, and those after it
pub record RoundFirst (First More : Meeting → Type 0) : Type 0 where
  pub middle : Meeting
  pub first : First middle
  pub more : More middle

-- one after the other, and nothing else was done
abbrev pub WereRounds : ℕ → List RoundView → Meeting → Meeting → Type 0
WereRounds most [] old new = new ≡ old
WereRounds most (round ∷ more) old new = RoundFirst (λ middle. IsRound most round old middle) (λ middle. WereRounds most more middle new)

-- the turns of all rounds that took a slot, in order, those whose lines weren't given whole among them
abbrev pub turns_of : RoundView → List Turn
turns_of round = round.turns ++ last_turn round.ending

abbrev pub all_turns : List RoundView → List Turn
all_turns rounds = flat_map turns_of rounds

-- ---- what the rounds add up to

-- the numbers that an answer carries
abbrev pub numbers_in : Result Round RoundFault → Round
numbers_in (Ok round) = round
numbers_in (Err (faults.NoMemory round)) = round
numbers_in (Err (faults.LogFault round)) = round

-- memory was wanting
abbrev pub is_starved : Result Round RoundFault → Bool
is_starved (Ok round) = false
is_starved (Err (faults.NoMemory round)) = true
is_starved (Err (faults.LogFault round)) = false

-- all numbers of one kind together, as a count of 32 bits
abbrev pub total_by : (Round → ℕ) → List RoundView → ℕ
total_by number rounds = min (sum_by (λ round. number (numbers_in round.answer)) rounds) (2 ^ 32 - 1)

abbrev pub total_of : List RoundView → Round
total_of rounds = record {
  accepted = total_by (λ round. round.accepted) rounds;
  refused = total_by (λ round. round.refused) rounds;
  failed = total_by (λ round. round.failed) rounds;
  broken = total_by (λ round. round.broken) rounds;
}

-- in how many memory was wanting, as a count of 32 bits
abbrev pub starved_count : List RoundView → ℕ
starved_count rounds = min (count_by (λ round. is_starved round.answer) rounds) (2 ^ 32 - 1)

-- as many turns as there are slots, as a number of 32 bits
abbrev pub turns_for : Queues → ℕ
turns_for q = min (count_of q) (2 ^ 32 - 1)

-- ---- slots that broke

-- the message of a slot is among those that were accepted
pub record WasAccepted (accepted : List Message) (slot : FullView) : Type 0 where
  pub message : Message
  pub among : Contains accepted message
  pub its : IsItsMessage message slot

-- A slot broke in one of these turns, behind which its message had been accepted; or else every image of it is whole, or set
-- aside, with a message that it had.
pub record BrokeSafely (turns : List Turn) (broken : BrokenView) : Type 0 where
  pub turn : Turn
  pub among : Contains turns turn
  pub is : broken_by turn.fate ≡ broken ∷ []
  pub so : WasAccepted (accepted_of turns) turn.slot ⊎ ((m : Mail) → Keeps m turn.slot → Now (EachImage (IsWholeOrAside m)) broken.disk)

-- ---- all of it

-- What a server did with its mail, in rounds of at most so many turns, with the mailers and the log. What its pass tells in the
-- end that was released, was set aside, and broke after it was taken full is what these rounds did, in order; so each message
-- that was released was accepted, by a hand of its own, and the first mailer took just these messages, and those of slots that
-- broke afterwards. A round was held at least once, and the numbers of the report are those of the rounds together. The pass counted
-- that no slot was full; or the numbers come to as many turns as there may be; or the log failed; or memory was wanting.
pub record HandsOnAll (most : ℕ) (round : Round) (starved : ℕ) (mail : PassView) (mailers after : List MailerView) (logs log_after : SinkView) : Type 0 where
  pub rounds : List RoundView
  pub held : 0 < length rounds
  pub home : List (List ℕ)
  pub parts : ℕ
  pub began : Queues
  pub last : StoreView
  pub went : WereRounds most rounds (meeting_with (store_at (bare home parts began)) mailers logs) (meeting_with last after log_after)
  pub released : mail.handed.released ≡ released_of (all_turns rounds)
  pub aside : mail.handed.aside ≡ put_aside_of (all_turns rounds)
  pub broken : mail.handed.broken ≡ broken_of (all_turns rounds)
  pub each : AllByRecursion IsTurn (all_turns rounds)
  pub broke : AllByRecursion (BrokeSafely (all_turns rounds)) mail.handed.broken
  pub took : MailersGo (all_turns rounds) mailers after
  pub round_is : round ≡ total_of rounds
  pub starved_is : starved ≡ starved_count rounds
  pub ends : (0 < mail.no_full) ⊎ (most ≤ round.accepted + round.refused + round.failed + round.broken) ⊎ Rose logs.faults log_after.faults ⊎ (0 < starved)

-- the same by the slots that the rack had: a round might take a turn of each (or 2^32 - 1)
pub record HandsOnSlots (queues : Option Queues) (round : Round) (starved : ℕ) (mail : PassView) (mailers after : List MailerView) (logs log_after : SinkView) : Type 0 where
  pub slots : Queues
  pub told : queues ≡ Some slots
  pub most : ℕ
  pub enough : turns_for slots ≤ most
  pub hands : HandsOnAll most round starved mail mailers after logs log_after

-- ---- the account

abbrev pub of_rack : Queues → Handed → Handed
of_rack q lists = record lists { began = q }

-- What was in the rack that was handed in, what the pass tells that was put, and what is in the rack that is returned stand
-- together: no message is lost, and none stands twice.
pub record Settles (before : Queues) (mail : PassView) (rack : StoreView) : Type 0 where
  pub left : Queues
  pub rack_is : rack ≡ rack_of left
  pub settled : IsSettled (of_rack before mail.handed) left

-- the same by the slots that the rack had
pub record SettlesSlots (queues : Option Queues) (mail : PassView) (rack : StoreView) : Type 0 where
  pub slots : Queues
  pub told : queues ≡ Some slots
  pub settles : Settles slots mail rack
