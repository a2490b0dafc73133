-- The passes of all workers, which are met in the end.
use Rattle.std.specs.Prelude.{◌≡◌, ℕ, ◌+◌, ◌-◌, ◌^◌, List, [], ◌∷◌, ◌++◌, map}
use Rattle.std.specs.List.{AllByRecursion}
use Rattle.std.specs.List.Sorted.{IsStrictlyIncreasing}
use Rattle.auth_events.specs.declared.entry.Entry.{Entry}
use Rattle.auth_machine.specs.Port.{BookOrigin}
use Rattle.spool_pool.specs.Known.{PassView, PoolView, met}
use Rattle.spool_pool.specs.Known as pools
use Rattle.turn_lock.specs.Known.{IsPassOf, Known, Lock, knowing}
use Rattle.turn_lock.specs.Places.{NoneTwice}
use Rattle.fwtk_serve.specs.Sessions.{Both}
use mathlib.Core.List.{IsPrefix}

abbrev pub Pass : Type 0
Pass = Known Entry BookOrigin

-- no place stands twice among a pass's own and those of the passes that it met
abbrev pub IsApart : Pass → Type 0
IsApart pass = NoneTwice (pass.mine ++ pass.met)

-- what the first pass of a lock knows: all entries that are there; it has all parts
abbrev pub first_of : Lock BookOrigin → List Entry → Pass
first_of lock seen = knowing lock (2 ^ 64) seen [] []

-- the parts of all these passes
abbrev pub parts_of : List Pass → ℕ
parts_of [] = 0
parts_of (pass ∷ passes) = pass.parts + parts_of passes

-- the places of all these passes
abbrev pub held_by : List Pass → List ℕ
held_by [] = []
held_by (pass ∷ passes) = (pass.mine ++ pass.met) ++ held_by passes

-- a pass that is met: what it saw is a front of what is seen then, and its own places rise
pub record IsMet (seen : List Entry) (pass : Pass) : Type 0 where
  pub begins : IsPrefix pass.seen seen
  pub rise : IsStrictlyIncreasing pass.mine

-- a pass has met all these
pub record MetAll (lock : Lock BookOrigin) (others : List Pass) (old new : Pass) : Type 0 where
  pub seen : List Entry
  pub begins : IsPrefix old.seen seen
  pub met : AllByRecursion (IsMet seen) others
  pub is : new ≡ knowing lock (old.parts + parts_of others) seen old.mine (old.met ++ held_by others)
  pub apart : IsApart new

-- ---- passes of a book and of a pool

-- two passes, of this book and of this pool
pub record AreOf (lock : Lock BookOrigin) (pool : PoolView) (both : Both) : Type 0 where
  pub book : IsPassOf lock both.book
  pub mail : pools.IsPassOf pool both.mail

-- the two after so many were split off, each with one part
abbrev pub less : Lock BookOrigin → ℕ → Both → Both
less lock n both = record {
  book = knowing lock (both.book.parts - n) both.book.seen both.book.mine both.book.met;
  mail = record both.mail { handed = record both.mail.handed { parts = both.mail.handed.parts - n } };
}

-- the pass of the pool once it has met all these, one after the other
abbrev pub met_each : List PassView → PassView → PassView
met_each [] pass = pass
met_each (other ∷ others) pass = met_each others (met pass other)

-- the two have met all these
pub record MeetAll (lock : Lock BookOrigin) (others : List Both) (old new : Both) : Type 0 where
  pub books : MetAll lock (map (λ both. both.book) others) old.book new.book
  pub mail : new.mail ≡ met_each (map (λ both. both.mail) others) old.mail
