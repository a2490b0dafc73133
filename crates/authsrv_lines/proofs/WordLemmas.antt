-- How the words of a text follow each other.
use Rattle.std.proofs.Common.{◌≡◌, ℕ, ◌+◌, ◌<◌, Bool, true, false, suc, List, [], ◌∷◌, length, take, drop, refl, sym, ap, ◌∙◌, arith}
use Rattle.std.specs.Prelude.{filter}
use Rattle.std.specs.List.{prefix_len, slice_split, onto_first}
use Rattle.std.proofs.lemmas.Bool.Decides.{nat_tests}
use Rattle.std.proofs.lemmas.List.Splits.{slice_split-cons_yes, slice_split-cons_no}
use Rattle.otp_md5.specs.Hexadecimal.{is_blank}
use Rattle.authsrv_lines.specs.Words.{is_some_bytes, words, body, word_len}

-- the first part of a text that is cut at its blanks, and the others
record Front (text : List ℕ) : Type 0 where
  more : List (List ℕ)
  parts : slice_split is_blank text ≡ take (word_len text) text ∷ more
  rest : filter is_some_bytes more ≡ words (drop (word_len text) text)

none_taken : (b : ℕ) (text : List ℕ) → is_blank b ≡ true → take (word_len (b ∷ text)) (b ∷ text) ≡ []
none_taken b text h = rw h refl

words_blank : (b : ℕ) (text : List ℕ) → is_blank b ≡ true → words (b ∷ text) ≡ words text
unfolding words
words_blank b text h = ap (filter is_some_bytes) (slice_split-cons_yes is_blank b text h)

none_dropped : (b : ℕ) (text : List ℕ) → is_blank b ≡ true → drop (word_len (b ∷ text)) (b ∷ text) ≡ b ∷ text
none_dropped b text h = rw h refl

front_blank : (b : ℕ) (text : List ℕ) → is_blank b ≡ true → Front (b ∷ text)
unfolding words
front_blank b text h = record {
  more = slice_split is_blank text;
  parts = slice_split-cons_yes is_blank b text h ∙ ap (λ part. part ∷ slice_split is_blank text) (sym (none_taken b text h));
  rest = sym (words_blank b text h) ∙ ap words (sym (none_dropped b text h));
}

one_more : (n : ℕ) → 1 + n ≡ suc n
one_more n = omega arith

front_more : (b : ℕ) (text : List ℕ) → is_blank b ≡ false → Front text → Front (b ∷ text)
unfolding words
front_more b text h f = record {
  more = f.more;
  parts = rw (h, one_more (word_len text)) (ap (onto_first b) f.parts);
  rest = rw (h, one_more (word_len text)) f.rest;
}

front : (text : List ℕ) → Front text
unfolding words
front [] = record { more = []; parts = refl; rest = refl }
front (b ∷ text) = by (is_blank b) refl (front text)
  where
    by : (v : Bool) → is_blank b ≡ v → Front text → Front (b ∷ text)
    by true h f = front_blank b text h
    by false h f = front_more b text h f

words_body : (text : List ℕ) → words (body text) ≡ words text
words_body [] = refl
words_body (b ∷ text) = by (is_blank b) refl (words_body text)
  where
    by : (v : Bool) → is_blank b ≡ v → words (body text) ≡ words text → words (body (b ∷ text)) ≡ words (b ∷ text)
    by true h more = rw (h, one_more (prefix_len is_blank text)) (more ∙ sym (words_blank b text h))
    by false h more = rw h refl

-- what stands behind the blanks begins with none
begins : (text : List ℕ) (b : ℕ) (rest : List ℕ) → body text ≡ b ∷ rest → is_blank b ≡ false
begins [] b rest = λ is. absurd (cc)
begins (a ∷ text) b rest = λ is. by (is_blank a) refl (begins text b rest) is
  where
    here : a ∷ text ≡ b ∷ rest → is_blank a ≡ false → is_blank b ≡ false
    here is h = let same : a ≡ b = cc in rw (sym same) h

    by : (v : Bool) → is_blank a ≡ v → (body text ≡ b ∷ rest → is_blank b ≡ false) → body (a ∷ text) ≡ b ∷ rest → is_blank b ≡ false
    by true h later is = later (rw (h, one_more (prefix_len is_blank text)) at is)
    by false h later is = here (rw h at is) h

some_byte : (b : ℕ) (bytes : List ℕ) → is_some_bytes (b ∷ bytes) ≡ true
some_byte b bytes = grind (arith, nat_tests)

kept : (b : ℕ) (bytes : List ℕ) (more : List (List ℕ)) → filter is_some_bytes ((b ∷ bytes) ∷ more) ≡ (b ∷ bytes) ∷ filter is_some_bytes more
kept b bytes more = rw (some_byte b bytes) refl

word_taken : (b : ℕ) (text : List ℕ) → is_blank b ≡ false → take (word_len (b ∷ text)) (b ∷ text) ≡ b ∷ take (word_len text) text
word_taken b text h = rw (h, one_more (word_len text)) refl

word_dropped : (b : ℕ) (text : List ℕ) → is_blank b ≡ false → drop (word_len (b ∷ text)) (b ∷ text) ≡ drop (word_len text) text
word_dropped b text h = rw (h, one_more (word_len text)) refl

words_more : (b : ℕ) (text : List ℕ) → is_blank b ≡ false → words (b ∷ text) ≡ (b ∷ take (word_len text) text) ∷ words (drop (word_len text) text)
unfolding words
words_more b text h =
    let f = front text in
    let parts = slice_split-cons_no is_blank b text h ∙ ap (onto_first b) f.parts in
    ap (filter is_some_bytes) parts ∙ (kept b (take (word_len text) text) f.more ∙ ap (λ ws. (b ∷ take (word_len text) text) ∷ ws) f.rest)

words_first : (b : ℕ) (text : List ℕ) → is_blank b ≡ false → words (b ∷ text) ≡ take (word_len (b ∷ text)) (b ∷ text) ∷ words (drop (word_len (b ∷ text)) (b ∷ text))
words_first b text h = rw (word_taken b text h, word_dropped b text h) (words_more b text h)

step_by : (text from : List ℕ) → from ≡ body text → 0 < length from → words from ≡ take (word_len from) from ∷ words (drop (word_len from) from)
step_by text [] is some = absurd (omega arith)
step_by text (b ∷ from) is some = words_first b from (begins text b from (sym is))

-- the first word is what stands behind the blanks, up to the next blank
pub words_step : (text from : List ℕ) → from ≡ body text → 0 < length from → words text ≡ take (word_len from) from ∷ words (drop (word_len from) from)
words_step text from is some = sym (words_body text) ∙ (ap words (sym is) ∙ step_by text from is some)

nothing : (from : List ℕ) → length from ≡ 0 → from ≡ []
nothing [] h = refl
nothing (b ∷ from) h = absurd (omega arith)

-- where nothing stands behind the blanks there is no word
pub words_over : (text from : List ℕ) → from ≡ body text → length from ≡ 0 → (words text ≡ []) × (from ≡ [])
unfolding words
words_over text from is none =
    let empty = nothing from none in
    (sym (words_body text) ∙ (ap words (sym is ∙ empty) ∙ refl), empty)
