-- Places in a list of entries.
use Rattle.std.specs.Prelude.{◌≡◌, ℕ, ◌<◌, ◌≤◌, ◌==◌, List, length, slice_index, EachIndex, count_by}
use Rattle.std.specs.List.Sorted.{IsStrictlyIncreasing}

-- how often a place stands in a list of places
abbrev pub times : ℕ → List ℕ → ℕ
times place places = count_by (λ other. other == place) places

-- no place stands there twice
abbrev pub NoneTwice : List ℕ → Type 0
NoneTwice places = (place : ℕ) → times place places ≤ 1

-- each of them is a place from this one on, before that one
abbrev pub AreWithin : ℕ → ℕ → List ℕ → Type 0
AreWithin from end places = (place : ℕ) → 0 < times place places → (from ≤ place) × (place < end)

-- each place from this one on, before that one, stands there once
abbrev pub Fill : ℕ → ℕ → List ℕ → Type 0
Fill from end places = (place : ℕ) → from ≤ place → place < end → times place places ≡ 1

-- places in a list of entries, each below the next
pub record Places {E : Type 0} (seen : List E) (places : List ℕ) : Type 0 where
  pub rising : IsStrictlyIncreasing places
  pub within : EachIndex places (λ k. slice_index places k < length seen)
