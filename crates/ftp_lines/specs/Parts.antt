-- The parts of a text between commas.
-- No public clause cites these: they say what private functions answer.
use Rattle.std.specs.Prelude.{◌≡◌, ℕ, Bool, true, false, List, [], ◌∷◌}

-- the first of these parts, and whether it is the only one
abbrev pub IsFirstPart : List ℕ → Bool → List (List ℕ) → Type 0
IsFirstPart part true parts = parts ≡ part ∷ []
IsFirstPart part false parts = (next : List ℕ) × (more : List (List ℕ)) × (parts ≡ part ∷ next ∷ more)
