-- How words are kept: in order, and by an index of their numbers.
-- No public clause cites this: it says what private functions know.
use Rattle.std.specs.Prelude.{◌≡◌, ℕ, List, map, position}
use Rattle.std.specs.BTreeMap.{BTreeMap, get}
use Rattle.std.specs.Cmp.Lexicographic.{slice_cmp}
use Rattle.std.specs.Ordering.{nat_cmp}
use Rattle.std.specs.declared.cmp.Ordering.{Ordering}
use Rattle.std.specs.Str.{bytes_eq}
use Rattle.arrayvec.specs.ArrayVec.{ArrayVec}

-- the bytes of words
abbrev pub items_of : List (ArrayVec ℕ) → List (List ℕ)
items_of words = map (λ word. word.items) words

-- the order of words
abbrev pub word_cmp : ArrayVec ℕ → ArrayVec ℕ → Ordering
word_cmp a b = slice_cmp nat_cmp a.items b.items

-- the index has the place of each word, and no others
abbrev pub IsIndex : BTreeMap (ArrayVec ℕ) ℕ → List (List ℕ) → Type 0
IsIndex numbers words = (word : ArrayVec ℕ) → get word_cmp numbers word ≡ position (bytes_eq word.items) words
