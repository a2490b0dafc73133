-- The body of a mail (RFC 821, sections 4.1.1, "DATA", and 4.5.2, "TRANSPARENCY").
use Rattle.std.specs.Prelude.{ℕ, ◌==◌, Bool, true, false, ◌&&◌, ◌||◌, List, [], ◌∷◌, ◌++◌, flat_map, Option, Some, None, if◌then◌else◌}
use Rattle.std.specs.Str.{bytes_eq}

-- the lines of a text, which end at CR LF alone, and what follows the last end
pub record CutText : Type 0 where
  pub lines : List (List ℕ)
  pub rest : List ℕ

-- a byte at the front of the first line, or of the rest where there is no line
abbrev pub at_front : ℕ → List (List ℕ) → List ℕ → CutText
at_front b [] rest = record { lines = []; rest = b ∷ rest }
at_front b (line ∷ lines) rest = record { lines = (b ∷ line) ∷ lines; rest = rest }

unfoldable pub cut : List ℕ → CutText
cut [] = record { lines = []; rest = [] }
cut (b ∷ []) = record { lines = []; rest = b ∷ [] }
cut (b ∷ c ∷ text) =
    if b == 13 && c == 10 then record { lines = [] ∷ (cut text).lines; rest = (cut text).rest }
    else at_front b (cut (c ∷ text)).lines (cut (c ∷ text)).rest

abbrev pub with_end : List ℕ → List ℕ
with_end line = line ++ 13 ∷ 10 ∷ []

-- a line without its first byte where that is a period
abbrev pub without_period : List ℕ → List ℕ
without_period [] = []
without_period (b ∷ line) = if b == 46 then line else b ∷ line

-- a period alone
abbrev pub is_period : List ℕ → Bool
is_period line = bytes_eq line (46 ∷ [])

-- a body, and what follows the line that ends it
pub record Body : Type 0 where
  pub bytes : List ℕ
  pub rest : List ℕ

-- bytes, and then a body
abbrev pub body_after : List ℕ → Option Body → Option Body
body_after given None = None
body_after given (Some body) = Some record { bytes = given ++ body.bytes; rest = body.rest }

-- the body in lines: those before the first that is a period alone, each without a period at its front. What follows it is left.
abbrev pub body_in : List (List ℕ) → List ℕ → Option Body
body_in [] rest = None
body_in (line ∷ lines) rest =
    if is_period line then Some record { bytes = []; rest = flat_map with_end lines ++ rest }
    else body_after (with_end (without_period line)) (body_in lines rest)

-- the same behind some bytes of the first line: it is data as it stands
abbrev pub body_behind : List (List ℕ) → List ℕ → Option Body
body_behind [] rest = None
body_behind (line ∷ lines) rest = body_after (with_end line) (body_in lines rest)

-- the body of a text, if it has its end
abbrev pub mail_body_of : List ℕ → Option Body
mail_body_of text = body_in (cut text).lines (cut text).rest

-- the body of a text, which begins in the middle of a line or not
abbrev pub body_from : Bool → List ℕ → Option Body
body_from true text = body_behind (cut text).lines (cut text).rest
body_from false text = mail_body_of text

-- whether CR LF stands in a text
abbrev pub has_end : List ℕ → Bool
has_end [] = false
has_end (b ∷ []) = false
has_end (b ∷ c ∷ text) = (b == 13 && c == 10) || has_end (c ∷ text)

-- a line as it is sent: one that begins with a period has another before it
abbrev pub sent : List ℕ → List ℕ
sent [] = []
sent (b ∷ line) = if b == 46 then 46 ∷ b ∷ line else b ∷ line

-- a body of lines as it is sent, with its end
abbrev pub sent_body : List (List ℕ) → List ℕ
sent_body lines = flat_map (λ line. with_end (sent line)) lines ++ 46 ∷ 13 ∷ 10 ∷ []
