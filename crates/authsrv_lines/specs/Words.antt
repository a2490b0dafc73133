-- The words of a line, and the text behind some of them.
use Rattle.std.specs.Prelude.{ℕ, zero, suc, ◌==◌, Bool, true, false, not, List, [], ◌∷◌, length, filter, drop, Option, Some, None}
use Rattle.std.specs.List.{prefix_len, slice_split}
use Rattle.otp_md5.specs.Hexadecimal.{is_blank}

abbrev pub is_some_bytes : List ℕ → Bool
is_some_bytes bytes = not (length bytes == 0)

-- what stands between runs of blanks
unfoldable pub words : List ℕ → List (List ℕ)
words text = filter is_some_bytes (slice_split is_blank text)

-- the text from its first word on
abbrev pub body : List ℕ → List ℕ
body text = drop (prefix_len is_blank text) text

-- how many bytes there are before the first blank
abbrev pub word_len : List ℕ → ℕ
word_len text = prefix_len (λ b. not (is_blank b)) text

-- what follows the first word: nothing, or a blank and more
unfoldable pub after_word : List ℕ → List ℕ
after_word text = drop (word_len (body text)) (body text)

-- what stands behind one blank
abbrev pub behind_blank : List ℕ → Option (List ℕ)
behind_blank [] = None
behind_blank (_ ∷ text) = Some text

-- the TEXT of a line, behind its first n words and just one blank, where that blank stands
abbrev pub text_after : ℕ → List ℕ → Option (List ℕ)
text_after zero rest = behind_blank rest
text_after (suc n) rest = text_after n (after_word rest)

-- ---- so many words and no more

abbrev pub has_none : List (List ℕ) → Bool
has_none [] = true
has_none (_ ∷ _) = false

abbrev pub one_of : List (List ℕ) → Option (List ℕ)
one_of (first ∷ []) = Some first
one_of _ = None

abbrev pub two_of : List (List ℕ) → Option (List ℕ × List ℕ)
two_of (first ∷ second ∷ []) = Some (first, second)
two_of _ = None

abbrev pub one_or_two : List (List ℕ) → Option (List ℕ × Option (List ℕ))
one_or_two (first ∷ []) = Some (first, None)
one_or_two (first ∷ second ∷ []) = Some (first, Some second)
one_or_two _ = None
