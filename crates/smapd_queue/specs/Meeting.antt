-- What a round meets, and what a turn does to it.
use Rattle.std.specs.Prelude.{◌≡◌, ℕ, List, [], ◌∷◌, Option, Some, None}
use Rattle.fw_mail.specs.MailerView.{HandsFirst, MailerView}
use Rattle.fw_mail.specs.declared.handed.Handed.TheVariants as answers
use Rattle.fw_outside.specs.SinkView.{Cut, SinkView}
use Rattle.fw_outside.specs.ToldList.{grown}
use Rattle.fw_types.specs.declared.message.Message.{Message}
use Rattle.spool_rack.specs.Store.{HasNoFull, HasTakenFull, PutsBroken, StoreView, put_aside, put_free, put_full}
use Rattle.spool_slots.specs.States.{FullView}
use Rattle.smapd_queue.specs.Turns.{Fate, Turn, line_of}
use Rattle.smapd_queue.specs.Turns.Fate.{Freed, NotFreed, PutAside, NotAside, PutBack, Unread}
use Rattle.smapd_queue.specs.Slots.{IsFateOf, IsItsMessage}

-- the store, the mailers and the log
pub record Meeting : Type 0 where
  pub store : StoreView
  pub mailers : List MailerView
  pub logs : SinkView

abbrev pub meeting_with : StoreView → List MailerView → SinkView → Meeting
meeting_with store mailers logs = record { store = store; mailers = mailers; logs = logs }

-- ---- the mailers

-- how the first mailer answered, if it was handed the message
abbrev pub MailersMeet : Fate → List MailerView → List MailerView → Type 0
MailersMeet (Freed message free) old new = HandsFirst answers.Accepted message old new
MailersMeet (NotFreed message broken) old new = HandsFirst answers.Accepted message old new
MailersMeet (PutAside message aside) old new = HandsFirst answers.Refused message old new
MailersMeet (NotAside message broken) old new = HandsFirst answers.Refused message old new
MailersMeet (PutBack message) old new = HandsFirst answers.Failed message old new
MailersMeet (Unread broken) old new = new ≡ old

-- ---- the store

-- a slot that was taken full is put where it belongs by what became of its message
abbrev pub PutsBy : FullView → Fate → StoreView → StoreView → Type 0
PutsBy slot (Freed message free) old new = new ≡ put_free free old
PutsBy slot (NotFreed message broken) old new = PutsBroken broken old new
PutsBy slot (PutAside message aside) old new = new ≡ put_aside aside old
PutsBy slot (NotAside message broken) old new = PutsBroken broken old new
PutsBy slot (PutBack message) old new = new ≡ put_full slot old
PutsBy slot (Unread broken) old new = PutsBroken broken old new

-- ---- a turn

-- The full slot at the front was taken and its message handed to the first mailer; then it was put where it belongs. The log
-- wasn't called.
pub record TakesTurn (turn : Turn) (old new : Meeting) : Type 0 where
  pub lent : StoreView
  pub takes : HasTakenFull turn.slot old.store lent
  pub slot_so : IsFateOf turn.slot turn.fate
  pub mailers : MailersMeet turn.fate old.mailers new.mailers
  pub puts : PutsBy turn.slot turn.fate lent new.store
  pub logs : new.logs ≡ old.logs

-- the log was given a text whole
abbrev pub with_text : List ℕ → Meeting → Meeting
with_text text at = record { store = at.store; mailers = at.mailers; logs = record (at.logs) { given = grown at.logs.given text } }

-- so it was done, its line was given whole, and then there is more
pub record TurnThen (turn : Turn) (More : Meeting → Type 0) (old : Meeting) : Type 0 where
  pub middle : Meeting
  pub takes : TakesTurn turn old middle
  pub more : More (with_text (line_of turn) middle)

-- these turns were taken, one after the other
abbrev pub TakesTurns : List Turn → Meeting → Meeting → Type 0
TakesTurns [] old new = new ≡ old
TakesTurns (turn ∷ turns) old new = TurnThen turn (λ middle. TakesTurns turns middle new) old

-- ---- how a round ends

-- `AllTaken`: there were as many turns as there may be. `NoneFull`: no slot was full. `Unlogged`: the line of a last turn
-- wasn't given whole. `Lacked`: a slot was taken, and there was no memory to read its message, or to hand it over.
pub data End : Type 0 where
  AllTaken : End
  NoneFull : End
  Unlogged : Turn → End
  Lacked : FullView → Option Message → End

-- no slot was full, which is counted
pub record FindsNone (old new : Meeting) : Type 0 where
  pub none : HasNoFull old.store new.store
  pub mailers : new.mailers ≡ old.mailers
  pub logs : new.logs ≡ old.logs

-- a turn was taken, and the log failed within its line
pub record FailsToLog (turn : Turn) (old new : Meeting) : Type 0 where
  pub middle : Meeting
  pub takes : TakesTurn turn old middle
  pub store : new.store ≡ middle.store
  pub mailers : new.mailers ≡ middle.mailers
  pub cut : Cut (line_of turn) middle.logs new.logs

-- there was no memory to hand this message over, or to read one
abbrev pub MailersLack : FullView → Option Message → List MailerView → List MailerView → Type 0
MailersLack slot None old new = new ≡ old
MailersLack slot (Some message) old new = IsItsMessage message slot × HandsFirst answers.NoMemory message old new

-- the full slot at the front was taken, and put back full as it was
pub record Lacks (slot : FullView) (message : Option Message) (old new : Meeting) : Type 0 where
  pub lent : StoreView
  pub takes : HasTakenFull slot old.store lent
  pub mailers : MailersLack slot message old.mailers new.mailers
  pub puts : new.store ≡ put_full slot lent
  pub logs : new.logs ≡ old.logs

abbrev pub EndsSo : End → Meeting → Meeting → Type 0
EndsSo AllTaken old new = new ≡ old
EndsSo NoneFull old new = FindsNone old new
EndsSo (Unlogged turn) old new = FailsToLog turn old new
EndsSo (Lacked slot message) old new = Lacks slot message old new

-- the turn whose line wasn't given whole, if there is one
abbrev pub last_turn : End → List Turn
last_turn AllTaken = []
last_turn NoneFull = []
last_turn (Unlogged turn) = turn ∷ []
last_turn (Lacked slot message) = []

-- the slot that was put back for want of memory, if there is one
abbrev pub lacked_of : End → List FullView
lacked_of AllTaken = []
lacked_of NoneFull = []
lacked_of (Unlogged turn) = []
lacked_of (Lacked slot message) = slot ∷ []
