-- A book that threads share, as the port of one of them.
use Rattle.std.specs.Prelude.{◌≡◌, ℕ, ◌<◌, Bool, Option, Some, None, List, [], ◌∷◌, ◌++◌, length, Result, Ok, Err}
use mathlib.Core.List.{IsPrefix}
use Rattle.auth_events.specs.Port.{Port, entry_at}
use Rattle.auth_events.specs.declared.entry.Entry.{Entry}
use Rattle.auth_events.specs.declared.port.PortFault.{PortFault}
use Rattle.auth_events.specs.declared.port.PortFault.TheVariants as faults
use Rattle.auth_events.specs.declared.reply.Reply.{Reply}
use Rattle.auth_events.specs.declared.request.Request.{Request}
use Rattle.auth_machine.specs.Answers.{full_of}
use Rattle.auth_machine.specs.History.{IsLegal, IsStep, after}
use Rattle.auth_machine.specs.Port.{BookOrigin, full_at}
use Rattle.turn_lock.specs.Known.{Known, Lock, knowing}

-- what stays as it was when a pass was handed in: the lock, with its book's limit and origin, and what the pass knew
pub record SharedOrigin : Type 0 where
  pub lock : Lock BookOrigin
  pub first : Known Entry BookOrigin

-- a port that has seen this front of the book's history, and made the entries at these places; it doesn't fail
abbrev pub shared_port : SharedOrigin → List Entry → List ℕ → Bool → ℕ → Port SharedOrigin
shared_port origin seen mine refused asks = record {
  seen = seen;
  mine = mine;
  full = full_at origin.lock.limit seen;
  refused = refused;
  asks = asks;
  faults = 0;
  odd = 0;
  origin = origin;
  home = origin.lock.home;
}

-- what a pass knows that has seen this much and made the entries at these places, besides those that it had made at first; it
-- has the parts that it had
abbrev pub knows : SharedOrigin → List Entry → List ℕ → Known Entry BookOrigin
knows origin seen mine = knowing origin.lock origin.first.parts seen (origin.first.mine ++ mine) origin.first.met

-- a pass goes on from what it knew at first: it has seen all that it had seen then, and has those places and these; and what it
-- has seen is legal, if what it had seen then was
pub record GoesOn (origin : SharedOrigin) (mine : List ℕ) (pass : Known Entry BookOrigin) : Type 0 where
  pub is : pass ≡ knows origin pass.seen mine
  pub begins : IsPrefix origin.first.seen pass.seen
  pub legal : IsLegal origin.lock.origin.origin origin.first.seen → IsLegal origin.lock.origin.origin pass.seen

-- what the pass of a port knows
abbrev pub pass_of : Port SharedOrigin → Known Entry BookOrigin
pass_of port = knows port.origin port.seen port.mine

-- ---- one history

-- it is legal from the policy and the records that the book had loaded
abbrev pub SeesLegal : Port SharedOrigin → Type 0
SeesLegal port = IsLegal port.origin.lock.origin.origin port.seen

-- an entry was made, which is the last that was seen; before it stands all that had been seen; it is the machine's step after
-- the entries before it, so its reply is the machine's; and its place is one more of the port's own
pub record MadeEntry (sid at : ℕ) (request : Request) (reply : Reply) (old new : Port SharedOrigin) : Type 0 where
  pub before : List Entry
  pub kept : Bool
  pub begins : IsPrefix old.seen before
  pub room : length before < old.origin.lock.limit
  pub seen : new.seen ≡ before ++ entry_at sid at request kept reply (length before) ∷ []
  pub step : IsStep old.origin.lock.origin.origin.policy (after old.origin.lock.origin.origin before) (length before) (entry_at sid at request kept reply (length before))
  pub legal : SeesLegal new
  pub mine : new.mine ≡ old.mine ++ length before ∷ []

-- no entry was made, since so many were seen as fit
pub record FoundFull (told : ℕ) (old new : Port SharedOrigin) : Type 0 where
  pub limit_is : told ≡ old.origin.lock.limit
  pub full : length new.seen ≡ told
  pub begins : IsPrefix old.seen new.seen
  pub legal : SeesLegal new
  pub mine : new.mine ≡ old.mine

-- no entry was made, for want of memory
pub record LackedMemory (old new : Port SharedOrigin) : Type 0 where
  pub begins : IsPrefix old.seen new.seen
  pub legal : SeesLegal old → SeesLegal new
  pub mine : new.mine ≡ old.mine

abbrev pub RepliesInOne : Option ℕ → ℕ → ℕ → Request → Reply → Port SharedOrigin → Port SharedOrigin → Type 0
RepliesInOne None sid at request reply old new = MadeEntry sid at request reply old new
RepliesInOne (Some told) sid at request reply old new = FoundFull told old new

-- what an answer tells of the one history; no other fault than want of memory comes
abbrev pub AnswersInOne : Result Reply PortFault → ℕ → ℕ → Request → Port SharedOrigin → Port SharedOrigin → Type 0
AnswersInOne (Ok reply) sid at request old new = RepliesInOne (full_of reply) sid at request reply old new
AnswersInOne (Err faults.NoMemory) sid at request old new = LackedMemory old new
AnswersInOne (Err faults.Link) sid at request old new = ⊥
AnswersInOne (Err faults.Strange) sid at request old new = ⊥
