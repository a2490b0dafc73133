-- Step by step. No public clause cites these: they say what private functions answer.
use Rattle.std.specs.Prelude.{◌≡◌, ℕ, ◌+◌, true, false, List, ◌∷◌, length, Option, Result, Ok, Err, IfSome}
use Rattle.fw_mail.specs.MailerView.{MailerView}
use Rattle.fw_outside.specs.Counts.{Rose}
use Rattle.fw_types.specs.declared.message.Message.{Message}
use Rattle.fw_types.specs.declared.no_memory.NoMemory.{NoMemory}
use Rattle.spool_rack.specs.Store.{Loan, PutsBroken, StoreView, put_aside, put_free, put_full}
use Rattle.spool_slots.specs.States.{BrokenView, FullView, SlotView}
use Rattle.smapd_queue.specs.declared.queue.Step.{Step}
use Rattle.smapd_queue.specs.declared.queue.Step.TheVariants as steps
use Rattle.smapd_queue.specs.declared.tally.Tally.{Tally}
use Rattle.smapd_queue.specs.declared.word.Word.{Word}
use Rattle.smapd_queue.specs.declared.word.Word.TheVariants as words
use Rattle.smapd_queue.specs.Turns.{Fate, Turn, line_of, or_else, trouble_of}
use Rattle.smapd_queue.specs.Slots.{IsFateOf, IsFreed, IsNotAside, IsNotFreed, IsPutAside}
use Rattle.smapd_queue.specs.Meeting.{FailsToLog, FindsNone, Lacks, MailersLack, MailersMeet, Meeting, PutsBy, TakesTurn, TakesTurns, with_text}
use Rattle.smapd_queue.specs.Round.{round_of}
use Rattle.smapd_queue.specs.Words.{trouble_in, with_one, word_by}

-- ---- a slot that is lent

-- a full slot, which is the one that was taken last
pub record IsLent (slot : FullView) (out : List Loan) : Type 0 where
  pub taken : Option FullView
  pub rest : List Loan
  pub same : IfSome taken (λ full. full ≡ slot)
  pub read : slot.unread ≡ false
  pub are : out ≡ record { number = slot.number; was_full = true; taken = taken } ∷ rest

-- such a slot, whose disk failed when it was read
pub record IsLentUnread (full : FullView) (out : List Loan) : Type 0 where
  pub slot : FullView
  pub lent : IsLent slot out
  pub number : full.number ≡ slot.number
  pub told : full.disk.told ≡ slot.disk.told
  pub rose : Rose slot.disk.faults full.disk.faults

-- it is broken
abbrev pub as_broken : FullView → BrokenView
as_broken full = record { number = full.number; disk = full.disk; from_full = true; from_fault = true }

-- ---- putting it where it belongs

-- its message was accepted
pub record Frees (slot : FullView) (old new : StoreView) : Type 0 where
  pub free : SlotView
  pub freed : IsFreed slot free
  pub puts : new ≡ put_free free old

pub record FailsToFree (slot : FullView) (old new : StoreView) : Type 0 where
  pub broken : BrokenView
  pub freed : IsNotFreed slot broken
  pub puts : PutsBroken broken old new

abbrev pub Accepts : Word → FullView → StoreView → StoreView → Type 0
Accepts words.Accepted slot old new = Frees slot old new
Accepts words.Refused slot old new = ⊥
Accepts words.Failed slot old new = ⊥
Accepts words.Broken slot old new = FailsToFree slot old new

-- its message was refused
pub record SetsAside (slot : FullView) (old new : StoreView) : Type 0 where
  pub aside : SlotView
  pub put : IsPutAside slot aside
  pub puts : new ≡ put_aside aside old

pub record FailsToSetAside (slot : FullView) (old new : StoreView) : Type 0 where
  pub broken : BrokenView
  pub put : IsNotAside slot broken
  pub puts : PutsBroken broken old new

abbrev pub Refuses : Word → FullView → StoreView → StoreView → Type 0
Refuses words.Accepted slot old new = ⊥
Refuses words.Refused slot old new = SetsAside slot old new
Refuses words.Failed slot old new = ⊥
Refuses words.Broken slot old new = FailsToSetAside slot old new

-- ---- handing its message on

pub record HandedOn (word : Word) (slot : FullView) (store now : StoreView) (mailers after : List MailerView) : Type 0 where
  pub fate : Fate
  pub so : IsFateOf slot fate
  pub meets : MailersMeet fate mailers after
  pub puts : PutsBy slot fate store now
  pub word_is : word ≡ word_by fate

-- there was no memory
pub record NotHandedOn (slot : FullView) (store now : StoreView) (mailers after : List MailerView) : Type 0 where
  pub message : Option Message
  pub lack : MailersLack slot message mailers after
  pub puts : now ≡ put_full slot store

abbrev pub HandsOnSo : Result Word NoMemory → FullView → StoreView → StoreView → List MailerView → List MailerView → Type 0
HandsOnSo (Ok word) slot store now mailers after = HandedOn word slot store now mailers after
HandsOnSo (Err _) slot store now mailers after = NotHandedOn slot store now mailers after

-- ---- a step of the round

-- one more turn in a tally
abbrev pub with_turn : Turn → Tally → Tally
with_turn turn tally = record {
  round = with_one (word_by turn.fate) tally.round;
  trouble = or_else tally.trouble (trouble_in turn.slot.number (word_by turn.fate));
}

-- the tally if the line of that turn wasn't given whole
abbrev pub with_trouble : Turn → Tally → Tally
with_trouble turn tally = record { round = tally.round; trouble = or_else tally.trouble (trouble_in turn.slot.number (word_by turn.fate)) }

-- a turn was taken and logged, and counts
pub record Goes (tally counted : Tally) (old new : Meeting) : Type 0 where
  pub turn : Turn
  pub middle : Meeting
  pub takes : TakesTurn turn old middle
  pub logged : new ≡ with_text (line_of turn) middle
  pub counts : counted ≡ with_turn turn tally

pub record StopsAtLog (tally counted : Tally) (old new : Meeting) : Type 0 where
  pub turn : Turn
  pub fails : FailsToLog turn old new
  pub counts : counted ≡ with_trouble turn tally

pub record StopsForMemory (tally counted : Tally) (old new : Meeting) : Type 0 where
  pub slot : FullView
  pub message : Option Message
  pub lacks : Lacks slot message old new
  pub same : counted ≡ tally

pub record StopsEmpty (tally counted : Tally) (old new : Meeting) : Type 0 where
  pub finds : FindsNone old new
  pub same : counted ≡ tally

abbrev pub StepsSo : Step → Tally → Tally → Meeting → Meeting → Type 0
StepsSo steps.Went tally counted old new = Goes tally counted old new
StepsSo steps.NoneFull tally counted old new = StopsEmpty tally counted old new
StepsSo steps.Unlogged tally counted old new = StopsAtLog tally counted old new
StepsSo steps.Lacked tally counted old new = StopsForMemory tally counted old new

-- so far: turns were taken and logged, and so many are left
pub record IsSoFar (most left : ℕ) (tally : Tally) (old now : Meeting) : Type 0 where
  pub turns : List Turn
  pub took : TakesTurns turns old now
  pub number : length turns + left ≡ most
  pub round : tally.round ≡ round_of turns
  pub trouble : tally.trouble ≡ trouble_of turns
