-- The book: a history, what it stands on, and the keeper of its records.
use Rattle.std.specs.Prelude.{◌≡◌, ℕ, ◌<◌, ◌≤◌, Bool, true, Option, Some, None, List, [], ◌∷◌, ◌++◌, length, Result, Ok, Err}
use Rattle.fw_outside.specs.Counts.{Rose}
use Rattle.fw_outside.specs.KeeperView.{KeeperView}
use Rattle.fw_types.specs.declared.no_memory.NoMemory.{NoMemory}
use Rattle.auth_events.specs.Port.{session_at}
use Rattle.auth_events.specs.declared.entry.Entry.{Entry}
use Rattle.auth_events.specs.declared.denial.Denial.TheVariants.{Full}
use Rattle.auth_events.specs.declared.reply.Reply.{Reply}
use Rattle.auth_events.specs.declared.reply.Reply.TheVariants.{Denied}
use Rattle.auth_events.specs.declared.request.Request.{Request}
use Rattle.auth_machine.specs.Answers.{full_of, is_unkept}
use Rattle.auth_machine.specs.History.{CountsCalls, CountsUnkept, HasRecords, IsLegal, IsSound, Origin, after}
use Rattle.auth_machine.specs.Keeping.{IsCalledIf, KeepsChange, MayBeCalled}
use Rattle.auth_machine.specs.Policy.{PolicyView}
use Rattle.auth_machine.specs.State.{State}
use Rattle.auth_machine.specs.Step.{keeps, proposed}

-- the entries so far, how many fit, the policy and the loaded records, the keeper, how often it had failed and been called when
-- the book was opened, whether a request was answered that the history is full, and how many requests were asked
pub record BookView : Type 0 where
  pub history : List Entry
  pub limit : ℕ
  pub origin : Origin
  pub keeper : KeeperView
  pub failed_before : ℕ
  pub called_before : ℕ
  pub refused : Bool
  pub asks : ℕ

-- the records that were loaded are sound; the history is legal and fits, and is full where a request was refused for that; the
-- state is that after it; the keeper has the records, where it tells; and since it was so, at the opening, it failed at least
-- as often as entries were not kept, and was called as often as entries edit a record, or more, by at most as many as there
-- were requests without an entry
pub record Stands (history : List Entry) (limit : ℕ) (refused : Bool) (asks : ℕ) (origin : Origin) (opening keeper : KeeperView) (policy : PolicyView) (s : State) : Type 0 where
  pub sound : IsSound origin
  pub policy_is : policy ≡ origin.policy
  pub state_is : s ≡ after origin history
  pub legal : IsLegal origin history
  pub within : length history ≤ limit
  pub full : refused ≡ true → length history ≡ limit
  pub records : HasRecords origin history keeper
  pub faults : CountsUnkept opening.faults history keeper
  pub calls : CountsCalls opening.calls origin history asks keeper

-- ---- what asking does

-- one entry more, with this session, moment, request and reply
pub record AddsEntry (sid at : ℕ) (request : Request) (reply : Reply) (limit : ℕ) (before now : List Entry) : Type 0 where
  pub kept : Bool
  pub fits : length before < limit
  pub is : now ≡ before ++ record { sid = session_at request (length before) sid; at = at; request = request; kept = kept; reply = reply } ∷ []

-- nothing was entered, since so many entries are there as fit
pub record IsFullAt (told limit : ℕ) (before now : List Entry) : Type 0 where
  pub limit_is : told ≡ limit
  pub full : length before ≡ limit
  pub is : now ≡ before

-- a reply is entered, unless it says that the history is full
abbrev pub EntersReply : Option ℕ → ℕ → ℕ → Request → Reply → ℕ → List Entry → List Entry → Type 0
EntersReply None sid at request reply limit before now = AddsEntry sid at request reply limit before now
EntersReply (Some told) sid at request reply limit before now = IsFullAt told limit before now

abbrev pub EntersAnswer : ℕ → ℕ → Request → Result Reply NoMemory → ℕ → List Entry → List Entry → Type 0
EntersAnswer sid at request (Ok reply) limit before now = EntersReply (full_of reply) sid at request reply limit before now
EntersAnswer sid at request (Err _) limit before now = now ≡ before

-- what asking answers and leaves of a history: it is legal and fits, whatever the answer, and stands on sound records; where as
-- many entries are there as fit, that is the answer, and never want of memory
pub record Asked (sid at : ℕ) (request : Request) (limit : ℕ) (origin : Origin) (before : List Entry) (result : Result Reply NoMemory) (now : List Entry) : Type 0 where
  pub answers : EntersAnswer sid at request result limit before now
  pub full : length before ≡ limit → result ≡ Ok (Denied (Full limit))
  pub sound : IsSound origin
  pub legal : IsLegal origin now
  pub within : length now ≤ limit

-- whether a request was ever refused, after a reply that tells how many entries fit, or doesn't
abbrev pub refused_after : Option ℕ → Bool → Bool
refused_after None before = before
refused_after (Some told) before = true

abbrev pub refused_by : Result Reply NoMemory → Bool → Bool
refused_by (Ok reply) before = refused_after (full_of reply) before
refused_by (Err _) before = before

-- ---- what it does to the keeper

-- whether the machine has the records edited by this request, the next one after this history
abbrev pub edits_records : ℕ → ℕ → Request → Origin → List Entry → Bool
edits_records sid at request origin before = keeps origin.policy (after origin before) (length before) (session_at request (length before) sid) at request

-- where the machine has it keep a record anew or drop one, the keeper has done so or has failed, and the entry says which;
-- elsewhere it has what it had
pub record KeeperFollows (origin : Origin) (before now : List Entry) (old new : KeeperView) : Type 0 where
  pub entry : Entry
  pub is : now ≡ before ++ entry ∷ []
  pub keeping : KeepsChange (keeps origin.policy (after origin before) (length before) entry.sid entry.at entry.request)
      (proposed origin.policy (after origin before) (length before) entry.sid entry.at entry.request).records entry.kept old new

abbrev pub KeeperAfterReply : Option ℕ → Origin → List Entry → List Entry → KeeperView → KeeperView → Type 0
KeeperAfterReply None origin before now old new = KeeperFollows origin before now old new
KeeperAfterReply (Some told) origin before now old new = new ≡ old

abbrev pub KeeperAfter : Result Reply NoMemory → ℕ → ℕ → Request → Origin → List Entry → List Entry → KeeperView → KeeperView → Type 0
KeeperAfter (Ok reply) sid at request origin before now old new = KeeperAfterReply (full_of reply) origin before now old new
KeeperAfter (Err _) sid at request origin before now old new = MayBeCalled (edits_records sid at request origin before) old new

-- the keeper is called once where a record changes, is made or is deleted, and elsewhere it isn't called
abbrev pub CalledByReply : Option ℕ → Bool → KeeperView → KeeperView → Type 0
CalledByReply None edits old new = IsCalledIf edits old new
CalledByReply (Some told) edits old new = new.calls ≡ old.calls

abbrev pub CalledBy : Result Reply NoMemory → Bool → KeeperView → KeeperView → Type 0
CalledBy (Ok reply) edits old new = CalledByReply (full_of reply) edits old new
CalledBy (Err _) edits old new = Unit {0}

-- what is not kept the keeper has counted
abbrev pub RoseIfUnkept : Result Reply NoMemory → KeeperView → KeeperView → Type 0
RoseIfUnkept (Ok reply) old new = is_unkept reply ≡ true → Rose old.faults new.faults
RoseIfUnkept (Err _) old new = Unit {0}
