-- Finite maps from names, as lists whose elements have a name each: under a name stands the first element with it.
use Rattle.std.specs.Prelude.{◌≡◌, ℕ, ◌<◌, Bool, true, false, not, List, [], ◌∷◌, length, find, filter, Option, Some, None, is_some, IsTrue, if◌then◌else◌}
use Rattle.std.specs.List.{AllByRecursion, position_or_len}
use Rattle.std.specs.Str.{bytes_eq}
use Rattle.fw_types.specs.Name.{is_before}

module _ {X : Type 0} (key : X → List ℕ) where
  -- the element has this name
  abbrev pub is_named : List ℕ → X → Bool
  is_named name x = bytes_eq (key x) name

  -- what stands under a name
  abbrev pub under : List ℕ → List X → Option X
  under name xs = find (is_named name) xs

  -- where the element with a name stands, or none where there is none
  abbrev pub IsPlaceOf : List ℕ → List X → Option ℕ → Type 0
  IsPlaceOf name xs None = is_some (under name xs) ≡ false
  IsPlaceOf name xs (Some at) = (is_some (under name xs) ≡ true) × (at ≡ position_or_len (is_named name) xs) × (at < length xs)

  -- the element in the place of the one with its name
  abbrev pub replaced : X → List X → List X
  replaced y [] = []
  replaced y (x ∷ xs) = if bytes_eq (key x) (key y) then y ∷ xs else x ∷ replaced y xs

  -- the element behind all those whose names come before its own
  abbrev pub placed : X → List X → List X
  placed y [] = y ∷ []
  placed y (x ∷ xs) = if is_before (key x) (key y) then x ∷ placed y xs else y ∷ x ∷ xs

  -- no element with this name
  abbrev pub without : List ℕ → List X → List X
  without name xs = filter (λ x. not (is_named name x)) xs

  -- in the order of their names, each name once
  abbrev pub Ascends : List X → Type 0
  Ascends [] = Unit {0}
  Ascends (x ∷ xs) = AllByRecursion (λ later. IsTrue (is_before (key x) (key later))) xs × Ascends xs
