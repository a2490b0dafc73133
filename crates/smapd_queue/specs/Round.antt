-- What a round of handing on messages does.
use Rattle.std.specs.Prelude.{◌≡◌, ℕ, suc, ◌≤◌, List, [], ◌++◌, length, Option, Result, Ok, Err, IfSome}
use Rattle.std.specs.List.{AllByRecursion}
use Rattle.fw_outside.specs.Counts.{Rose}
use Rattle.spool_rack.specs.Store.{StoreView}
use Rattle.smapd_queue.specs.declared.round.Round.{Round}
use Rattle.smapd_queue.specs.declared.round.RoundFault.{RoundFault}
use Rattle.smapd_queue.specs.declared.round.RoundFault.TheVariants as faults
use Rattle.smapd_queue.specs.declared.round.Trouble.{Trouble}
use Rattle.smapd_queue.specs.Turns.{Turn, broken_of, freed_of, put_aside_of, put_back_of, trouble_of}
use Rattle.smapd_queue.specs.Slots.{IsFateOf, KeepsUnaccepted, RunsBy}
use Rattle.smapd_queue.specs.Meeting.{End, EndsSo, Meeting, TakesTurns, lacked_of, last_turn}
use Rattle.smapd_queue.specs.Meeting.End.{AllTaken, NoneFull, Unlogged, Lacked}
use Rattle.smapd_queue.specs.Sums.{LogGoes, MailersGo, StoreGoes}

-- ---- the answer

-- how many slots were freed, set aside, put back and broken
abbrev pub round_of : List Turn → Round
round_of turns = record {
  accepted = length (freed_of turns);
  refused = length (put_aside_of turns);
  failed = length (put_back_of turns);
  broken = length (broken_of turns);
}

abbrev pub answer_of : End → Round → Result Round RoundFault
answer_of AllTaken round = Ok round
answer_of NoneFull round = Ok round
answer_of (Unlogged turn) round = Err (faults.LogFault round)
answer_of (Lacked slot message) round = Err (faults.NoMemory round)

-- all turns that there may be were taken, or fewer
abbrev pub TurnsFit : End → ℕ → ℕ → Type 0
TurnsFit AllTaken taken most = taken ≡ most
TurnsFit NoneFull taken most = suc taken ≤ most
TurnsFit (Unlogged turn) taken most = suc taken ≤ most
TurnsFit (Lacked slot message) taken most = suc taken ≤ most

-- Where it ended since no slot was full, that was counted, and the full queue is empty where it is told; else the count stays.
abbrev pub NoneIsFull : StoreView → StoreView → Type 0
NoneIsFull old new = Rose old.no_full new.no_full × IfSome new.queues (λ q. q.full ≡ [])

abbrev pub CountsNone : End → StoreView → StoreView → Type 0
CountsNone AllTaken old new = new.no_full ≡ old.no_full
CountsNone NoneFull old new = NoneIsFull old new
CountsNone (Unlogged turn) old new = new.no_full ≡ old.no_full
CountsNone (Lacked slot message) old new = new.no_full ≡ old.no_full

-- ---- the turns

-- a message that a round handed on, or tried to: its slot could be read, what became of it, and what that did to its disk
pub record IsTurn (turn : Turn) : Type 0 where
  pub fate : IsFateOf turn.slot turn.fate
  pub kept : KeepsUnaccepted turn
  pub events : RunsBy turn.slot turn.fate

-- The turns whose line was given whole, from the oldest on, and how it ended: step by step, and then what that comes to.
pub record HandsOn (most : ℕ) (result : Result Round RoundFault) (old new : Meeting) : Type 0 where
  pub turns : List Turn
  pub ending : End
  pub middle : Meeting
  pub took : TakesTurns turns old middle
  pub ends : EndsSo ending middle new
  pub fits : TurnsFit ending (length turns) most
  -- the answer counts these turns, each in one number
  pub answer : result ≡ answer_of ending (round_of turns)
  -- each slot that was taken ended in one way: free after it was accepted, set aside, full again, or broken
  pub each : AllByRecursion IsTurn (turns ++ last_turn ending)
  pub store : StoreGoes (turns ++ last_turn ending) (lacked_of ending) old.store new.store
  pub none : CountsNone ending old.store new.store
  -- what was accepted grew by one message for each hand that was accepted
  pub mailers : MailersGo (turns ++ last_turn ending) old.mailers new.mailers
  -- the log grew by the lines
  pub logs : LogGoes turns ending old.logs new.logs

-- the same, and the device that failed in the first turn in which one did
pub record HandsOnTelling (most : ℕ) (result : Result Round RoundFault) (trouble : Option Trouble) (old new : Meeting) : Type 0 where
  pub hands : HandsOn most result old new
  pub told : trouble ≡ trouble_of (hands.turns ++ last_turn hands.ending)
