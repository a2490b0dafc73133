-- A mailer in memory, which hands nothing on and answers as it is told.
use Rattle.std.specs.Prelude.{◌≡◌, ℕ, List, [], ◌∷◌, ◌++◌, get_or, Some}
use Rattle.fw_outside.specs.Counts.{counted}
use Rattle.fw_types.specs.declared.message.Message.{Message}
use Rattle.fw_mail.specs.declared.handed.Handed.{Handed}
use Rattle.fw_mail.specs.declared.handed.Handed.TheVariants.{Accepted, Refused, Failed, NoMemory}
use Rattle.fw_mail.specs.MailerView.{MailerView}

-- the answers by the numbers of the calls, how many calls there were, the messages that were accepted, and the counts of
-- refusals and of failures
pub record MemMailerView : Type 0 where
  pub answers : List Handed
  pub calls : ℕ
  pub accepted : List Message
  pub refusals : ℕ
  pub faults : ℕ

-- it tells all
abbrev pub mailer_view_of : MemMailerView → MailerView
mailer_view_of m = record { accepted = Some m.accepted; took = m.accepted; refusals = m.refusals; faults = m.faults }

-- what the next call is told to answer: the answer at its number, and past them that it accepts
abbrev pub answer_told : MemMailerView → Handed
answer_told m = get_or m.answers m.calls Accepted

-- one more call was made
abbrev pub next_call : MemMailerView → MemMailerView
next_call m = record m { calls = counted m.calls }

-- one more message was accepted
abbrev pub with_accepted : Message → MemMailerView → MemMailerView
with_accepted message m = record m { accepted = m.accepted ++ message ∷ [] }

-- a call answers as it is told, or for want of memory, and keeps or counts accordingly
abbrev pub AnswersHand : Handed → Handed → Message → MemMailerView → MemMailerView → Type 0
AnswersHand told Accepted message old new = (told ≡ Accepted) × (new ≡ with_accepted message old)
AnswersHand told Refused message old new = (told ≡ Refused) × (new ≡ record old { refusals = counted old.refusals })
AnswersHand told Failed message old new = (told ≡ Failed) × (new ≡ record old { faults = counted old.faults })
AnswersHand Accepted NoMemory message old new = new ≡ old
AnswersHand told NoMemory message old new = (told ≡ NoMemory) × (new ≡ old)
