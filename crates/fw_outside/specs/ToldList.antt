-- What a device may tell or not: `Some` of a list where it tells, `None` where it doesn't.
use Rattle.std.specs.Prelude.{◌≡◌, List, [], ◌∷◌, ◌++◌, Option, Some, None}

-- a list with more at its end; one that isn't told stays so
abbrev pub grown : {A : Type 0} → Option (List A) → List A → Option (List A)
grown None more = None
grown (Some told) more = Some (told ++ more)

-- these, and then what is left
abbrev pub preceded : {A : Type 0} → List A → Option (List A) → Option (List A)
preceded first None = None
preceded first (Some left) = Some (first ++ left)

-- nothing is left, where it is told
abbrev pub IsOver : {A : Type 0} → Option (List A) → Type 0
IsOver None = Unit {0}
IsOver (Some left) = left ≡ []

-- one more was told; what stopped telling, or never did, says nothing of it
abbrev pub AddsOne : {A : Type 0} → A → Option (List A) → Option (List A) → Type 0
AddsOne one old None = Unit {0}
AddsOne one old (Some told) = grown old (one ∷ []) ≡ Some told
