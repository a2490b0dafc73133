-- A program that mail is handed to, and which command was run.
use Rattle.std.specs.Prelude.{◌≡◌, ℕ, Bool, true, false, ◌==◌, ◌∷◌, [], List, Option, Some, None, pos, codes, length, if◌then◌else◌}
use Rattle.std.specs.List.{list_any}
use Rattle.std.specs.Process.{exit_code}
use Rattle.fw_types.specs.declared.message.Message.{Message}
use Rattle.fw_mail.specs.MailerView.{MailerView}
use Rattle.fw_mail.specs.declared.handed.Handed.{Handed}
use Rattle.fw_mail.specs.declared.handed.Handed.TheVariants.{Accepted, Refused, Failed, NoMemory}
use Rattle.real_links.specs.Programs.{RanAs}
use Rattle.real_links.specs.declared.ran.Ran.{Ran}

-- a mailer that tells a program only its counts
abbrev pub untold_mailer : List Message → ℕ → ℕ → MailerView
untold_mailer took refusals faults = record { accepted = None; took = took; refusals = refusals; faults = faults }

-- the word for a sender: `<>` where there is none
abbrev pub sender_word : List ℕ → List ℕ
sender_word from = if length from == 0 then codes "<>" else from

-- the arguments with which a message is handed over
abbrev pub mail_args : Message → List (List ℕ)
mail_args message = codes "-f" ∷ sender_word message.from ∷ message.rcpts

abbrev pub is_zero : ℕ → Bool
is_zero b = b == 0

-- a program could take the text for an option, or can't be given it
abbrev pub is_unfit : List ℕ → Bool
is_unfit [] = false
is_unfit (b ∷ rest) = if b == 45 then true else list_any is_zero (b ∷ rest)

-- the sender or a recipient is such a text
abbrev pub is_unfit_message : Message → Bool
is_unfit_message message = if is_unfit message.from then true else list_any is_unfit message.rcpts

-- the program was run last with this message's arguments, and ended with this status
abbrev pub MailedAs : List ℕ → Message → ℕ → Option Ran → Type 0
MailedAs program message ending last = RanAs program (mail_args message) ending last

-- the status with which a message was refused: neither of the two that mean something else
pub record RefusedAs (program : List ℕ) (message : Message) (last : Option Ran) : Type 0 where
  pub ending : ℕ
  pub mailed : MailedAs program message ending last
  pub not_accepted : (ending == 0) ≡ false
  pub not_failed : (ending == 75) ≡ false

-- what a program says by its status
abbrev pub Means : Handed → ℕ → Type 0
Means Accepted ending = ending ≡ 0
Means Refused ending = ((ending == 0) ≡ false) × ((ending == 75) ≡ false)
Means Failed ending = ending ≡ 75
Means NoMemory ending = ⊥

-- What a program said of a message that it was handed, by what was run last, before and now. For want of memory it wasn't run.
abbrev pub SaidSo : Handed → List ℕ → Message → Option Ran → Option Ran → Type 0
SaidSo Accepted program message before last = MailedAs program message 0 last
SaidSo Refused program message before last = RefusedAs program message last
SaidSo Failed program message before last = Unit {0}
SaidSo NoMemory program message before last = last ≡ before
