-- Texts of words with single spaces between.
use Rattle.std.proofs.Common.{◌≡◌, ℕ, ◌<◌, true, false, ◌&&◌, nat_lt, nat_le, List, [], ◌∷◌, ◌++◌, length, refl, ap, ◌∙◌, arith}
use Rattle.std.specs.Prelude.{filter, not, ◌==◌, All}
use Rattle.std.specs.Char.{is_ascii_uppercase}
use Rattle.std.specs.List.{join_with_byte, list_all, slice_split}
use Rattle.std.proofs.lemmas.Bool.{ltb-true}
use Rattle.std.proofs.lemmas.Bool.Decides.{nat_tests}
use Rattle.std.proofs.lemmas.List.Elements.{All-cons}
use Rattle.std.proofs.lemmas.List.Splits.{slice_split_at, slice_split_none}
use Rattle.otp_md5.specs.Hexadecimal.{is_blank}
use Rattle.authsrv_lines.specs.Words.{is_some_bytes, words}
use Rattle.otp_words.specs.Dictionary.{is_capital_word}
use Rattle.otp_words.proofs.ListLemmas.{and_both}

-- a word has bytes, and none of them is a blank
pub record IsText (word : List ℕ) : Type 0 where
  pub some : 0 < length word
  pub whole : All (λ b. is_blank b ≡ false) word

counts : (n : ℕ) → 0 < n → not (n == 0) ≡ true
counts n some = grind (arith, nat_tests)

kept : (word : List ℕ) (more : List (List ℕ)) → IsText word → filter is_some_bytes (word ∷ more) ≡ word ∷ filter is_some_bytes more
kept word more is = rw (counts (length word) is.some) refl

pub first_word : (word rest : List ℕ) → IsText word → words (word ++ 32 ∷ rest) ≡ word ∷ words rest
unfolding words
first_word word rest is = ap (filter is_some_bytes) (slice_split_at is_blank word 32 rest is.whole refl) ∙ kept word (slice_split is_blank rest) is

pub last_word : (word : List ℕ) → IsText word → words word ≡ word ∷ []
unfolding words
last_word word is = ap (filter is_some_bytes) (slice_split_none is_blank word is.whole) ∙ kept word [] is

abbrev pub AreTexts : List (List ℕ) → Type 0
AreTexts [] = Unit {0}
AreTexts (w ∷ ws) = IsText w × AreTexts ws

-- words with one space between are cut into these words
pub joined_words : (ws : List (List ℕ)) → AreTexts ws → words (join_with_byte 32 ws) ≡ ws
unfolding words
joined_words [] is = refl
joined_words (w ∷ []) is = last_word w is.0
joined_words (w ∷ v ∷ ws) is = first_word w (join_with_byte 32 (v ∷ ws)) is.0 ∙ ap (λ more. w ∷ more) (joined_words (v ∷ ws) is.1)

capital_whole : (c : ℕ) → is_ascii_uppercase c ≡ true → is_blank c ≡ false
capital_whole c h = grind (arith, nat_tests)

capitals_whole : (word : List ℕ) → list_all is_ascii_uppercase word ≡ true → All (λ b. is_blank b ≡ false) word
capitals_whole [] h = λ k d lt. absurd (omega arith)
capitals_whole (c ∷ word) h =
    let p = and_both (is_ascii_uppercase c) (list_all is_ascii_uppercase word) h in
    All-cons (λ b. is_blank b ≡ false) c word (capital_whole c p.0) (capitals_whole word p.1)

pub capital_text : (word : List ℕ) → is_capital_word word ≡ true → IsText word
capital_text word h =
    let p = and_both (nat_lt 0 (length word) && nat_le (length word) 4) (list_all is_ascii_uppercase word) h in
    record { some = ltb-true 0 (length word) (and_both (nat_lt 0 (length word)) (nat_le (length word) 4) p.0).0; whole = capitals_whole word p.1 }
