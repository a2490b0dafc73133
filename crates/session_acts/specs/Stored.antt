-- What the messages that a session deposits come to in the mail store.
use Rattle.std.specs.Prelude.{◌≡◌, ℕ, ◌+◌, ◌-◌, ◌^◌, ◌≤◌, min, List, [], ◌∷◌, length, Option, Some, None, Result, Ok, Err}
use Rattle.session_acts.specs.Acts.{Act, Outcome, Undeposited}
use Rattle.session_acts.specs.Acts.Act.{Deposit}
use Rattle.session_acts.specs.Depositing.{mail_of}
use Rattle.session_acts.specs.World.{World}
use Rattle.session_acts.specs.declared.deposited.Deposited.{Deposited}
use Rattle.session_acts.specs.declared.deposited.Deposited.TheVariants.{NoSlot, NotBegun, Kept, Faulted}
use Rattle.slot_bytes.specs.Layout.{Mail}
use Rattle.smap_lines.specs.Body.{Body, mail_body_of}
use Rattle.spool_rack.specs.Store.{PutGrew}
use Rattle.spool_slots.specs.States.{FullView, Keeps}

-- a message that was kept, the number of its slot, and how many bytes its body was said to have
pub record KeptMail : Type 0 where
  pub number : ℕ
  pub bytes : ℕ
  pub mail : Mail

abbrev pub bytes_in : Option Body → List ℕ
bytes_in None = []
bytes_in (Some body) = body.bytes

-- the body of data that have their end
abbrev pub body_of : List ℕ → List ℕ
body_of data_heard = bytes_in (mail_body_of data_heard)

abbrev pub kept_as : List ℕ → List (List ℕ) → Deposited → List ℕ → List KeptMail
kept_as sender rcpts (Kept number bytes) data_heard = record { number = number; bytes = bytes; mail = mail_of sender rcpts (body_of data_heard) } ∷ []
kept_as sender rcpts _ data_heard = []

abbrev pub kept_by : {words : List ℕ} → List ℕ → List (List ℕ) → Result (Deposited × List ℕ) (Undeposited words) → List KeptMail
kept_by sender rcpts (Ok answer) = kept_as sender rcpts answer.0 answer.1
kept_by sender rcpts (Err halt) = []

-- the messages that were kept
abbrev pub kept : (act : Act) → Outcome act → List KeptMail
kept (Deposit sender rcpts words most) outcome = kept_by sender rcpts outcome
kept act outcome = []

-- these are the messages in these slots, one by one, each with as many bytes of body as was said
abbrev pub AreKept : List KeptMail → List FullView → Type 0
AreKept [] [] = Unit {0}
AreKept (one ∷ more) (slot ∷ slots) = (slot.number ≡ one.number) × Keeps one.mail slot × AreKept more slots × (length one.mail.body ≡ one.bytes)
AreKept _ _ = ⊥

-- slots with these messages were put full, in this order, and no other
pub record PutsMails {Origin : Type 0} (mails : List KeptMail) (old new : World Origin) : Type 0 where
  pub slots : List FullView
  pub grew : PutGrew slots old.store new.store
  pub are : AreKept mails slots

-- each slot that was taken was put back
abbrev pub PutsAllBack : {Origin : Type 0} → World Origin → World Origin → Type 0
PutsAllBack old new = new.store.out ≡ old.store.out

-- ---- what is counted

abbrev pub unslotted_as : List ℕ → Deposited → List (List ℕ)
unslotted_as sender NoSlot = sender ∷ []
unslotted_as sender _ = []

abbrev pub unslotted_by : {words : List ℕ} → List ℕ → Result (Deposited × List ℕ) (Undeposited words) → List (List ℕ)
unslotted_by sender (Ok answer) = unslotted_as sender answer.0
unslotted_by sender (Err halt) = []

-- the senders of the messages for which no slot was free
abbrev pub unslotted : (act : Act) → Outcome act → List (List ℕ)
unslotted (Deposit sender rcpts words most) outcome = unslotted_by sender outcome
unslotted act outcome = []

abbrev pub faulted_as : List ℕ → Deposited → List (List ℕ)
faulted_as sender NotBegun = sender ∷ []
faulted_as sender Faulted = sender ∷ []
faulted_as sender _ = []

abbrev pub faulted_by : {words : List ℕ} → List ℕ → Result (Deposited × List ℕ) (Undeposited words) → List (List ℕ)
faulted_by sender (Ok answer) = faulted_as sender answer.0
faulted_by sender (Err halt) = []

-- the senders of the messages at which the disk of a slot failed, and that was told
abbrev pub faulted : (act : Act) → Outcome act → List (List ℕ)
faulted (Deposit sender rcpts words most) outcome = faulted_by sender outcome
faulted act outcome = []

-- each of these was counted, as far as the count goes
abbrev pub CountsUnslotted : {Origin : Type 0} → List (List ℕ) → World Origin → World Origin → Type 0
CountsUnslotted senders old new = min (old.store.no_free + length senders) (2 ^ 64 - 1) ≤ new.store.no_free

abbrev pub CountsFaulted : {Origin : Type 0} → List (List ℕ) → World Origin → World Origin → Type 0
CountsFaulted senders old new = min (old.store.broken + length senders) (2 ^ 64 - 1) ≤ new.store.broken
