-- What a mailer means, and what handing a message to it does to that.
use Rattle.std.specs.Prelude.{◌≡◌, ℕ, List, [], ◌∷◌, ◌++◌, Option, Some, None}
use Rattle.fw_outside.specs.Counts.{Rose}
use Rattle.fw_outside.specs.ToldList.{grown}
use Rattle.fw_types.specs.declared.message.Message.{Message}
use Rattle.fw_mail.specs.declared.handed.Handed.{Handed}
use Rattle.fw_mail.specs.declared.handed.Handed.TheVariants.{Accepted, Refused, Failed, NoMemory}

-- The messages that the mailer accepted, in order, where it has them at run time and tells them (`accepted`); the same, which a
-- proof is always told, of every mailer (`took`); how often it refused one, and how often it failed.
pub record MailerView : Type 0 where
  pub accepted : Option (List Message)
  pub took : List Message
  pub refusals : ℕ
  pub faults : ℕ

-- the messages that are shown: those accepted, where they are told, else none
abbrev pub shown_or_none : Option (List Message) → List Message
shown_or_none None = []
shown_or_none (Some accepted) = accepted

abbrev pub shown_of : MailerView → List Message
shown_of m = shown_or_none m.accepted

-- a message was refused, which is counted, and nothing else changed
pub record HandRefused (old new : MailerView) : Type 0 where
  pub count : ℕ
  pub rose : Rose old.refusals count
  pub is : new ≡ record old { refusals = count }

-- the mailer failed, which is counted, and nothing else changed
pub record HandFailed (old new : MailerView) : Type 0 where
  pub count : ℕ
  pub rose : Rose old.faults count
  pub is : new ≡ record old { faults = count }

-- What handing a message over answers and leaves. Where it is accepted, what the mailer took grew by just this message, at its end,
-- and so did what it tells, where it tells; nothing else changed.
abbrev pub Hands : Handed → Message → MailerView → MailerView → Type 0
Hands Accepted message old new = new ≡ record old { accepted = grown old.accepted (message ∷ []); took = old.took ++ message ∷ [] }
Hands Refused message old new = HandRefused old new
Hands Failed message old new = HandFailed old new
Hands NoMemory message old new = new ≡ old

-- what handing a message to the first of some mailers answers and leaves: the others are as they were
pub record HandsFirst (answer : Handed) (message : Message) (old new : List MailerView) : Type 0 where
  pub first : MailerView
  pub others : List MailerView
  pub after : MailerView
  pub was : old ≡ first ∷ others
  pub is : new ≡ after ∷ others
  pub hands : Hands answer message first after
