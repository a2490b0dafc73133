-- What asking a book in a turn answers and leaves.
use Rattle.std.specs.Prelude.{◌≡◌, ℕ, List, length, Option, None, Some, Result, Ok, Err}
use Rattle.fw_types.specs.declared.no_memory.NoMemory.{NoMemory}
use Rattle.auth_events.specs.declared.denial.Denial.TheVariants as denials
use Rattle.auth_events.specs.declared.entry.Entry.{Entry}
use Rattle.auth_events.specs.declared.reply.Reply.{Reply}
use Rattle.auth_events.specs.declared.reply.Reply.TheVariants.{Denied}
use Rattle.auth_events.specs.declared.request.Request.{Request}
use Rattle.auth_machine.specs.Answers.{full_of}
use Rattle.auth_machine.specs.Book.{Asked}
use Rattle.auth_machine.specs.Port.{BookOrigin}
use Rattle.auth_port.specs.declared.asking.Answered.{Answered}
use Rattle.auth_port.specs.declared.asking.Answered.TheVariants as answers

-- a reply of a book with so many entries before it, which tells how many fit, or doesn't
abbrev pub answered_at : Option ℕ → ℕ → Reply → Answered
answered_at None place reply = answers.Entered place reply
answered_at (Some told) place reply = answers.Full told

-- the answer as a book gives it
abbrev pub reply_in : Answered → Result Reply NoMemory
reply_in (answers.Entered place reply) = Ok reply
reply_in (answers.Full limit) = Ok (Denied (denials.Full limit))
reply_in answers.NoMemory = Err (record {})

-- the place of an entry is how many stand before it
abbrev pub IsPlaced : Answered → List Entry → Type 0
IsPlaced (answers.Entered place reply) before = (place ≡ length before) × (full_of reply ≡ None)
IsPlaced (answers.Full limit) before = Unit {0}
IsPlaced answers.NoMemory before = Unit {0}

-- what the book answers to this request, and what it leaves of its history, with the place of the entry
pub record AsksInTurn (sid at : ℕ) (request : Request) (before : List Entry) (limit : ℕ) (origin : BookOrigin) (answer : Answered) (now : List Entry) : Type 0 where
  pub asked : Asked sid at request limit origin.origin before (reply_in answer) now
  pub placed : IsPlaced answer before
