-- What a call does to a list of entries.
use Rattle.std.specs.Prelude.{◌≡◌, ◌⊎◌, ℕ, ◌<◌, List, [], ◌∷◌, ◌++◌, length}

-- one entry more, for which there was room
pub record GrowsByOne {E : Type 0} (limit : ℕ) (before now : List E) : Type 0 where
  pub entry : E
  pub room : length before < limit
  pub is : now ≡ before ++ entry ∷ []

-- the same list, or one entry more
abbrev pub MayGrow : {E : Type 0} → ℕ → List E → List E → Type 0
MayGrow limit before now = (now ≡ before) ⊎ GrowsByOne limit before now
