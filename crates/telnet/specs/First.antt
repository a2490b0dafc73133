-- The line that is heard first of a client's text, and the text behind it as it came.
use Rattle.std.specs.Prelude.{◌≡◌, ℕ, ◌<◌, List, [], ◌∷◌, ◌++◌, length, take, Option, Some, None}
use Rattle.telnet.specs.Lines.{lines_heard}

-- a line as it is heard, and what follows it
pub record FirstHeard : Type 0 where
  pub line : Option (List ℕ)
  pub rest : List ℕ

-- the first line of a front, if it has one, and what follows the front; else what a longer front has
abbrev pub first_or : List (Option (List ℕ)) → List ℕ → Option FirstHeard → Option FirstHeard
first_or [] rest longer = longer
first_or (line ∷ lines) rest longer = Some record { line = line; rest = rest }

-- the same of this front, or of the shortest longer one of which a line is heard
abbrev pub first_from : List ℕ → List ℕ → Option FirstHeard
first_from front [] = first_or (lines_heard front) [] None
first_from front (b ∷ rest) = first_or (lines_heard front) (b ∷ rest) (first_from (front ++ b ∷ []) rest)

-- by the shortest front of a text of which a line is heard
abbrev pub first_heard : List ℕ → Option FirstHeard
first_heard text = first_from [] text

-- the first line, and then the lines of what follows it
abbrev pub heard_from : Option FirstHeard → List (Option (List ℕ))
heard_from None = []
heard_from (Some first) = first.line ∷ lines_heard first.rest

-- the first line of a text and what follows it, by the front that ends with the line: no shorter one has a line
pub record IsFirst (text : List ℕ) (first : FirstHeard) : Type 0 where
  pub front : List ℕ
  pub whole : text ≡ front ++ first.rest
  pub heard : lines_heard front ≡ first.line ∷ []
  pub shorter : (n : ℕ) → n < length front → lines_heard (take n front) ≡ []
