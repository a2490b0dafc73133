-- Which texts a pattern stands for. A star is the byte 42.
use Rattle.std.specs.Prelude.{ℕ, List, [], ◌∷◌, Bool, true, false, ◌||◌, ◌&&◌, ◌==◌, not, if◌then◌else◌}
use Rattle.std.specs.List.{list_all}

-- whether the test holds of some suffix of a text: of the whole, of what is left without its first byte, .., of the empty one
abbrev pub some_suffix : (List ℕ → Bool) → List ℕ → Bool
some_suffix test [] = test []
some_suffix test (c ∷ t) = test (c ∷ t) || some_suffix test t

-- whether a text begins with this byte, and the test holds of what follows it
abbrev pub begins_then : ℕ → (List ℕ → Bool) → List ℕ → Bool
begins_then c test [] = false
begins_then c test (d ∷ t) = c == d && test t

abbrev pub is_nothing : List ℕ → Bool
is_nothing [] = true
is_nothing (c ∷ t) = false

-- The three cases: pattern and text are both empty; the pattern is a star and a rest that globs some suffix of the text;
-- both begin with the same byte, no star, and their rests glob.
unfoldable pub glob : List ℕ → List ℕ → Bool
glob [] t = is_nothing t
glob (c ∷ rest) t = if c == 42 then some_suffix (glob rest) t else begins_then c (glob rest) t

-- without a star
abbrev pub is_plain : List ℕ → Bool
is_plain p = list_all (λ b. not (b == 42)) p
