-- A port over a book, whose link fails at the calls that it is told.
use Rattle.std.specs.Prelude.{◌≡◌, ℕ, true, false, Result, Ok, Err}
use Rattle.fw_memory.specs.CallsView.{CallsView, comes_at}
use Rattle.fw_outside.specs.Counts.{Grew, counted}
use Rattle.fw_types.specs.declared.no_memory.NoMemory.{NoMemory}
use Rattle.auth_events.specs.Port.{Port}
use Rattle.auth_events.specs.declared.port.PortFault.{PortFault}
use Rattle.auth_events.specs.declared.port.PortFault.TheVariants as faults
use Rattle.auth_events.specs.declared.reply.Reply.{Reply}
use Rattle.auth_events.specs.declared.request.Request.{Request}
use Rattle.auth_machine.specs.Book.{Asked, BookView, CalledBy, KeeperAfter, RoseIfUnkept, edits_records, refused_by}
use Rattle.auth_machine.specs.Port.{BookOrigin, book_port}

-- the book, the calls at which the link fails, how many requests were asked, and how often the link failed
pub record FaultyView : Type 0 where
  pub book : BookView
  pub fails : CallsView
  pub asks : ℕ
  pub faults : ℕ

-- the same port, with these counts
abbrev pub with_counts : {Origin : Type 0} → ℕ → ℕ → Port Origin → Port Origin
with_counts asks faults port = record port { asks = asks; faults = faults }

-- the port of its book, but for the count of requests and of failures of the link
abbrev pub faulty_port : FaultyView → Port BookOrigin
faulty_port p = with_counts p.asks p.faults (book_port p.book)

-- what `Book::ask` answers and leaves of a book
pub record AsksOf (sid at : ℕ) (request : Request) (result : Result Reply NoMemory) (old new : BookView) : Type 0 where
  pub asked : Asked sid at request old.limit old.origin old.history result new.history
  pub keeper_follows : KeeperAfter result sid at request old.origin old.history new.history old.keeper new.keeper
  pub keeper_called : CalledBy result (edits_records sid at request old.origin old.history) old.keeper new.keeper
  pub keeper_failed : RoseIfUnkept result old.keeper new.keeper
  pub refused : new.refused ≡ refused_by result old.refused
  pub limit : new.limit ≡ old.limit
  pub origin : new.origin ≡ old.origin
  pub failed_before : new.failed_before ≡ old.failed_before
  pub called_before : new.called_before ≡ old.called_before
  pub counted : Grew 1 old.asks new.asks

-- the book is asked, and nothing else changes
pub record AsksBook (sid at : ℕ) (request : Request) (result : Result Reply NoMemory) (old new : FaultyView) : Type 0 where
  pub book : AsksOf sid at request result old.book new.book
  pub fails : new.fails ≡ old.fails
  pub asks : new.asks ≡ old.asks
  pub faults : new.faults ≡ old.faults

-- the link fails at this call as told: the call and the failure are counted, and nothing else changes
pub record FailsAsTold (old new : FaultyView) : Type 0 where
  pub told : comes_at old.fails old.asks ≡ true
  pub is : new ≡ record old { asks = counted old.asks; faults = counted old.faults }

-- it isn't told to fail at this call: the call is counted, the book asked, and nothing else changes
pub record AsksItsBook (sid at : ℕ) (request : Request) (result : Result Reply NoMemory) (old new : FaultyView) : Type 0 where
  pub told : comes_at old.fails old.asks ≡ false
  pub asked : AsksBook sid at request result (record old { asks = counted old.asks }) new

-- a call fails exactly as told, and is otherwise answered as the book answers; something strange never comes
abbrev pub AnswersAsTold : Result Reply PortFault → ℕ → ℕ → Request → FaultyView → FaultyView → Type 0
AnswersAsTold (Ok reply) sid at request old new = AsksItsBook sid at request (Ok reply) old new
AnswersAsTold (Err faults.NoMemory) sid at request old new = AsksItsBook sid at request (Err (record {})) old new
AnswersAsTold (Err faults.Link) sid at request old new = FailsAsTold old new
AnswersAsTold (Err faults.Strange) sid at request old new = ⊥
