-- What a pass knows, and what the calls of a lock do to that.
use Rattle.std.specs.Prelude.{◌≡◌, ◌⊎◌, ℕ, ◌+◌, ◌-◌, min, List, [], ◌∷◌, ◌++◌, length, Option, Some}
use mathlib.Core.List.{IsPrefix}
use Rattle.turn_lock.specs.Entries.{GrowsByOne}
use Rattle.turn_lock.specs.Places.{NoneTwice}

-- which lock it is, how many entries its value had at first, how many fit, and what they stand on
pub record Lock (O : Type 0) : Type 0 where
  pub home : List ℕ
  pub begun : ℕ
  pub limit : ℕ
  pub origin : O

-- the front of the list that a pass has seen, the places of its own entries, rising, and the places of those of the passes
-- that it met, and how many parts of the lock it has; which lock it is of, and that lock's limit and origin
pub record Known (E O : Type 0) : Type 0 where
  pub seen : List E
  pub mine : List ℕ
  pub met : List ℕ
  pub parts : ℕ
  pub home : List ℕ
  pub limit : ℕ
  pub origin : Option O

-- the parts that a pass has left when another is split off, and those that this one has: one, unless none would be left
abbrev pub kept_parts : ℕ → ℕ
kept_parts parts = parts - 1

abbrev pub given_parts : ℕ → ℕ
given_parts parts = min (parts - 1) 1

-- what a call made of the list that it found, and of the pass's own places: nothing, or one entry more, whose place is
-- the pass's own
abbrev pub Made : {E : Type 0} → ℕ → List E → List E → List ℕ → List ℕ → Type 0
Made limit found seen before mine = ((seen ≡ found) × (mine ≡ before)) ⊎ (GrowsByOne limit found seen × (mine ≡ before ++ length found ∷ []))

module _ {E O : Type 0} where
  -- a pass of this lock
  pub record IsPassOf (lock : Lock O) (pass : Known E O) : Type 0 where
    pub home : pass.home ≡ lock.home
    pub limit : pass.limit ≡ lock.limit
    pub origin : pass.origin ≡ Some lock.origin

  -- what a pass knows that has so many parts, and has seen this much
  abbrev pub knowing : Lock O → ℕ → List E → List ℕ → List ℕ → Known E O
  knowing lock parts seen mine met = record { seen = seen; mine = mine; met = met; parts = parts; home = lock.home; limit = lock.limit; origin = Some lock.origin }

  -- a turn: the list that was found begins with all that the pass had seen; the call did to it what it does, and what it
  -- left is what the pass has seen now
  pub record TookTurn (does : List E → ℕ → O → List E → Type 0) (lock : Lock O) (old new : Known E O) : Type 0 where
    pub found : List E
    pub seen : List E
    pub mine : List ℕ
    pub begins : IsPrefix old.seen found
    pub did : does found lock.limit lock.origin seen
    pub made : Made lock.limit found seen old.mine mine
    pub is : new ≡ knowing lock old.parts seen mine old.met

  -- two passes have met: the one has seen what both had, and has the parts of both; and no place is twice among all that the
  -- two had
  pub record Met (lock : Lock O) (old other new : Known E O) : Type 0 where
    pub seen : List E
    pub own_begins : IsPrefix old.seen seen
    pub other_begins : IsPrefix other.seen seen
    pub apart : NoneTwice ((old.mine ++ old.met) ++ (other.mine ++ other.met))
    pub is : new ≡ knowing lock (old.parts + other.parts) seen old.mine (old.met ++ (other.mine ++ other.met))
