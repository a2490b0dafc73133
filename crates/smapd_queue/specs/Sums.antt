-- What the turns of a round come to, in the store, at the mailers and in the log.
use Rattle.std.specs.Prelude.{◌≡◌, ℕ, ◌+◌, ◌-◌, ◌^◌, ◌≤◌, min, true, List, [], ◌∷◌, ◌++◌, length, Option, Some, None}
use Rattle.fw_mail.specs.MailerView.{MailerView}
use Rattle.fw_outside.specs.SinkView.{Cut, SinkView}
use Rattle.fw_outside.specs.ToldList.{grown}
use Rattle.spool_rack.specs.Store.{Handed, Loan, Queues, StoreView}
use Rattle.spool_slots.specs.States.{FullView}
use Rattle.smapd_queue.specs.Turns.{Fate, Turn, accepted_of, broken_of, failed_by, freed_of, line_of, lines_of, put_aside_of, put_back_of, refused_by, taken_of}
use Rattle.smapd_queue.specs.Turns.Fate.{Freed}
use Rattle.smapd_queue.specs.Meeting.{End}
use Rattle.smapd_queue.specs.Meeting.End.{AllTaken, NoneFull, Unlogged, Lacked}

-- a count rose at least so often, as far as it goes
abbrev pub RoseBy : ℕ → ℕ → ℕ → Type 0
RoseBy n before now = min (before + n) (2 ^ 64 - 1) ≤ now

-- ---- the queues of a store that tells them

-- The slots freed, set aside and broken stand at the back of their queues, in order. Those taken came from the front of the
-- full queue, and those put back went to its back.
pub record QueuesGo (turns : List Turn) (lacked : List FullView) (old new : Queues) : Type 0 where
  pub free : new.free ≡ old.free ++ freed_of turns
  pub full : old.full ++ (put_back_of turns ++ lacked) ≡ taken_of turns ++ (lacked ++ new.full)
  pub aside : new.aside ≡ old.aside ++ put_aside_of turns
  pub broken : new.broken ≡ old.broken ++ broken_of turns

abbrev pub ToldQueuesGo : List Turn → List FullView → Option Queues → Option Queues → Type 0
ToldQueuesGo turns lacked None None = Unit {0}
ToldQueuesGo turns lacked (Some old) (Some new) = QueuesGo turns lacked old new
ToldQueuesGo turns lacked _ _ = ⊥

-- ---- the lists of a store that keeps them

-- the loan of a slot that is freed after its message was accepted
abbrev pub released_by : FullView → Fate → List Loan
released_by slot (Freed message free) = record { number = slot.number; was_full = true; taken = Some slot } ∷ []
released_by slot _ = []

abbrev pub released_of : List Turn → List Loan
released_of [] = []
released_of (turn ∷ turns) = released_by turn.slot turn.fate ++ released_of turns

-- it is of the same pool, with as many parts; none is put full that wasn't taken full; the others are listed in order
pub record ListsGo (turns : List Turn) (old new : Handed) : Type 0 where
  pub home : new.home ≡ old.home
  pub parts : new.parts ≡ old.parts
  pub began : new.began ≡ old.began
  pub put : new.put ≡ old.put
  pub released : new.released ≡ old.released ++ released_of turns
  pub aside : new.aside ≡ old.aside ++ put_aside_of turns
  pub broken : new.broken ≡ old.broken ++ broken_of turns

abbrev pub ToldListsGo : List Turn → Option Handed → Option Handed → Type 0
ToldListsGo turns None None = Unit {0}
ToldListsGo turns (Some old) (Some new) = ListsGo turns old new
ToldListsGo turns _ _ = ⊥

-- ---- the store

-- each slot that was taken was put back; no free slot was asked for; and each broken one was counted
pub record StoreGoes (turns : List Turn) (lacked : List FullView) (old new : StoreView) : Type 0 where
  pub queues : ToldQueuesGo turns lacked old.queues new.queues
  pub lists : ToldListsGo turns old.handed new.handed
  pub out : new.out ≡ old.out
  pub no_free : new.no_free ≡ old.no_free
  pub broken : RoseBy (length (broken_of turns)) old.broken new.broken

-- ---- the mailers

-- how often a message was refused, and a hand failed
abbrev pub refusals_of : List Turn → ℕ
refusals_of [] = 0
refusals_of (turn ∷ turns) = refused_by turn.fate + refusals_of turns

abbrev pub failures_of : List Turn → ℕ
failures_of [] = 0
failures_of (turn ∷ turns) = failed_by turn.fate + failures_of turns

-- What the first took grew by just the messages that were accepted, one for each hand, in order, and so did what it tells, where it
-- tells. It counted each refusal and each failure. The others were left alone.
pub record MailersGo (turns : List Turn) (old new : List MailerView) : Type 0 where
  pub first : MailerView
  pub after : MailerView
  pub others : List MailerView
  pub were : old ≡ first ∷ others
  pub are : new ≡ after ∷ others
  pub accepted : after.accepted ≡ grown first.accepted (accepted_of turns)
  pub took : after.took ≡ first.took ++ accepted_of turns
  pub refusals : RoseBy (refusals_of turns) first.refusals after.refusals
  pub faults : RoseBy (failures_of turns) first.faults after.faults

-- ---- the log

-- the lines were given whole, in order, and then no more than a front of this one, which failed
pub record LogFails (turns : List Turn) (turn : Turn) (old new : SinkView) : Type 0 where
  pub middle : SinkView
  pub whole : middle ≡ record old { given = grown old.given (lines_of turns) }
  pub cut : Cut (line_of turn) middle new

-- the lines were given whole, in order; the last one maybe not
abbrev pub LogGoes : List Turn → End → SinkView → SinkView → Type 0
LogGoes turns AllTaken old new = new ≡ record old { given = grown old.given (lines_of turns) }
LogGoes turns NoneFull old new = new ≡ record old { given = grown old.given (lines_of turns) }
LogGoes turns (Unlogged turn) old new = LogFails turns turn old new
LogGoes turns (Lacked slot message) old new = new ≡ record old { given = grown old.given (lines_of turns) }
