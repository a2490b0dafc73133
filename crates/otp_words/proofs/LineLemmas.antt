-- How a text is cut into lines.
use Rattle.std.proofs.Common.{◌≡◌, ℕ, ◌+◌, ◌-◌, ◌<◌, ◌≤◌, Bool, true, false, List, [], ◌∷◌, ◌++◌, length, take, refl, sym, ap, ◌∙◌, arith, append_assoc, length-append}
use Rattle.std.specs.Prelude.{cond, ◌==◌, slice_index, All}
use Rattle.std.specs.List.{slice_split, onto_first}
use Rattle.std.specs.Str.Lines.{lines, lines_of_parts, strip_carriage_return}
use Rattle.std.proofs.lemmas.Bool.Decides.{nat_tests}
use Rattle.std.proofs.lemmas.List.{append-nil, length-take-le}
use Rattle.std.proofs.lemmas.List.Splits.{slice_split_at, slice_split_none, slice_split-cons_yes, slice_split-cons_no}
use Rattle.std.proofs.lemmas.List.Elements.{All-push, All-cons}

abbrev pub is_lf : ℕ → Bool
is_lf b = b == 10

-- no byte is an LF
abbrev pub IsOneLine : List ℕ → Type 0
IsOneLine bytes = All (λ b. (b == 10) ≡ false) bytes

-- a list that isn't empty
record Parts (parts : List (List ℕ)) : Type 0 where
  first : List ℕ
  more : List (List ℕ)
  is : parts ≡ first ∷ more

parts_of : (bytes : List ℕ) → Parts (slice_split is_lf bytes)
parts_of [] = record { first = []; more = []; is = refl }
parts_of (b ∷ bytes) = by (is_lf b) refl (parts_of bytes)
  where
    by : (v : Bool) → is_lf b ≡ v → Parts (slice_split is_lf bytes) → Parts (slice_split is_lf (b ∷ bytes))
    by true h p = record { first = []; more = slice_split is_lf bytes; is = slice_split-cons_yes is_lf b bytes h }
    by false h p = record { first = b ∷ p.first; more = p.more; is = slice_split-cons_no is_lf b bytes h ∙ ap (onto_first b) p.is }

lines_of_more : (line : List ℕ) (parts : List (List ℕ)) → Parts parts → lines_of_parts (line ∷ parts) ≡ strip_carriage_return line ∷ lines_of_parts parts
lines_of_more line parts p = rw p.is refl

-- a line that ends in LF, and the lines after it
pub lines_first : (line rest : List ℕ) → IsOneLine line → lines (line ++ 10 ∷ rest) ≡ strip_carriage_return line ∷ lines rest
lines_first line rest one =
    ap lines_of_parts (slice_split_at is_lf line 10 rest one refl) ∙ lines_of_more line (slice_split is_lf rest) (parts_of rest)

not_zero : (n : ℕ) → 0 < n → (n == 0) ≡ false
not_zero n some = grind (arith, nat_tests)

-- the last line, which has no LF
pub lines_one : (line : List ℕ) → IsOneLine line → 0 < length line → lines line ≡ line ∷ []
lines_one line one some = ap lines_of_parts (slice_split_none is_lf line one) ∙ rw (not_zero (length line) some) refl

-- the same, of a text that is that line
pub lines_cut : (text line rest : List ℕ) → text ≡ line ++ 10 ∷ rest → IsOneLine line → lines text ≡ strip_carriage_return line ∷ lines rest
lines_cut text line rest cut one = ap lines cut ∙ lines_first line rest one

pub lines_whole : (text line : List ℕ) → text ≡ line → IsOneLine line → 0 < length text → lines text ≡ line ∷ []
lines_whole text line whole one some = ap lines whole ∙ lines_one line one (rw whole at some)

-- the first line of a text, which has so many bytes at least
pub record FirstLine (text : List ℕ) (long : ℕ) : Type 0 where
  pub first : List ℕ
  pub more : List (List ℕ)
  pub is : lines text ≡ first ∷ more
  pub least : long ≤ length first

stripped_by : (v : Bool) (line : List ℕ) → length (take (length line - 1) line) ≡ length line - 1
    → (length line ≤ length (cond v (take (length line - 1) line) line) + 1) × (length (cond v (take (length line - 1) line) line) ≤ length line)
stripped_by true line h = (omega arith, omega arith)
stripped_by false line h = (omega arith, omega arith)

-- at most one byte is dropped
pub stripped_least : (line : List ℕ) → length line ≤ length (strip_carriage_return line) + 1
stripped_least line = (stripped_by (slice_index line (length line - 1) == 13) line (length-take-le (length line - 1) line (omega arith))).0

pub stripped_most : (line : List ℕ) → length (strip_carriage_return line) ≤ length line
stripped_most line = (stripped_by (slice_index line (length line - 1) == 13) line (length-take-le (length line - 1) line (omega arith))).1

-- bytes without LF are the beginning of one line
pub first_line : (line rest : List ℕ) → IsOneLine line → 0 < length line + length rest → FirstLine (line ++ rest) (length (strip_carriage_return line))
first_line line [] one some =
    let whole = lines_one line one (omega arith) in
    record { first = line; more = []; is = rw (append-nil line) whole; least = stripped_most line }
first_line line (b ∷ rest) one some = by (is_lf b) refl (λ h. first_line (line ++ b ∷ []) rest (All-push (λ b. (b == 10) ≡ false) line b one h) (omega (arith, length-append line (b ∷ []))))
  where
    ends : b ≡ 10 → FirstLine (line ++ b ∷ rest) (length (strip_carriage_return line))
    ends h = record { first = strip_carriage_return line; more = lines rest; is = rw h (lines_first line rest one); least = omega arith }

    lf : is_lf b ≡ true → b ≡ 10
    lf h = grind (arith, nat_tests)

    goes_on : FirstLine ((line ++ b ∷ []) ++ rest) (length (strip_carriage_return (line ++ b ∷ []))) → FirstLine (line ++ b ∷ rest) (length (strip_carriage_return line))
    goes_on longer = record {
      first = longer.first;
      more = longer.more;
      is = rw (sym (append_assoc line (b ∷ []) rest)) longer.is;
      least = omega (arith, longer.least, stripped_most line, stripped_least (line ++ b ∷ []), length-append line (b ∷ []));
    }

    by : (v : Bool) → is_lf b ≡ v → (is_lf b ≡ false → FirstLine ((line ++ b ∷ []) ++ rest) (length (strip_carriage_return (line ++ b ∷ [])))) → FirstLine (line ++ b ∷ rest) (length (strip_carriage_return line))
    by true h more = ends (lf h)
    by false h more = goes_on (more h)

-- a text is one line, or begins with a line and its end
pub record Cut (text : List ℕ) : Type 0 where
  pub line : List ℕ
  pub rest : List ℕ
  pub is : text ≡ line ++ 10 ∷ rest
  pub one : IsOneLine line

pub data Front (text : List ℕ) : Type 0 where
  unended : IsOneLine text → Front text
  ended : Cut text → Front text

pub front_of : (text : List ℕ) → Front text
front_of [] = unended (λ k d lt. absurd (omega arith))
front_of (b ∷ text) = by (is_lf b) refl (front_of text)
  where
    lf : is_lf b ≡ true → b ≡ 10
    lf h = grind (arith, nat_tests)

    one_more : (bytes : List ℕ) → is_lf b ≡ false → IsOneLine bytes → IsOneLine (b ∷ bytes)
    one_more bytes h one = All-cons (λ b. (b == 10) ≡ false) b bytes h one

    by : (v : Bool) → is_lf b ≡ v → Front text → Front (b ∷ text)
    by true h front = ended (record { line = []; rest = text; is = rw (lf h) refl; one = λ k d lt. absurd (omega arith) })
    by false h (unended one) = unended (one_more text h one)
    by false h (ended cut) = ended (record { line = b ∷ cut.line; rest = cut.rest; is = ap (λ t. b ∷ t) cut.is; one = one_more cut.line h cut.one })
