-- What a dictionary is, and that its words are read back.
use Rattle.std.proofs.Common.{◌≡◌, ℕ, zero, suc, ◌+◌, ◌<◌, ◌≤◌, ◌^◌, ◌%◌, Bool, true, false, List, [], ◌∷◌, ◌++◌, length, map, take, refl, sym, ap, ◌∙◌, arith, ◌⊎◌, inl, inr, length-append, append_assoc, get_or}
use Rattle.std.specs.Prelude.{Some, Ok, is_some, Option, None}
use Rattle.std.specs.List.{list_all}
use Rattle.std.specs.Str.{str_to_ascii_uppercase}
use Rattle.std.specs.Str.Lines.{lines}
use Rattle.std.proofs.Math.Seq.{take-append_seam}
use Rattle.std.proofs.lemmas.Bool.{cases_lt, eq-eqb}
use Rattle.std.proofs.lemmas.List.{append-nil, length-map, map-append, get_or-append-add}
use Rattle.std.proofs.lemmas.List.Folds.{list_all-append}
use Rattle.authsrv_lines.specs.Words.{words}
use Rattle.otp_words.specs.Dictionary.{AreApart, IsDictionary, dictionary_of, is_capital_word, is_word, number_of, stands_in, word_at, words_then}
use Rattle.otp_words.specs.Laws.{GoodTo, SaysOf}
use Rattle.otp_words.specs.Phrase.{phrase_of, read_of}
use Rattle.otp_words.specs.SixWords.{six}
use Rattle.otp_words.proofs.ListLemmas.{and_both, apart_push, upper_capital}
use Rattle.otp_words.proofs.LongLemmas.{not_full, then_bad, then_long, then_more, then_twice}
use Rattle.otp_words.proofs.PhraseLemmas.{exact_of}
use Rattle.otp_words.proofs.SixLemmas.{six_digits}
use Rattle.otp_words.proofs.WordLemmas.{AreTexts, capital_text, joined_words}

-- ---- what is written is read

word_capital : (dictionary : List (List ℕ)) (n : ℕ) → list_all is_capital_word dictionary ≡ true → n < length dictionary → is_capital_word (word_at dictionary n) ≡ true
word_capital [] n h within = absurd (omega (arith, within))
word_capital (w ∷ dictionary) zero h within = (and_both (is_capital_word w) (list_all is_capital_word dictionary) h).0
word_capital (w ∷ dictionary) (suc n) h within = word_capital dictionary n (and_both (is_capital_word w) (list_all is_capital_word dictionary) h).1 (omega (arith, within))

abbrev Small : List ℕ → Type 0
Small [] = Unit {0}
Small (n ∷ ns) = (n < 2048) × Small ns

texts_are : (dictionary : List (List ℕ)) (ns : List ℕ) → IsDictionary dictionary → Small ns → AreTexts (map (word_at dictionary) ns)
texts_are dictionary [] is small = tt
texts_are dictionary (n ∷ ns) is small = (capital_text (word_at dictionary n) (word_capital dictionary n is.1.0 (omega (arith, is.0, small.0))), texts_are dictionary ns is small.1)

numbers_are : (dictionary : List (List ℕ)) (ns : List ℕ) → IsDictionary dictionary → Small ns → map (number_of dictionary) (map (word_at dictionary) ns) ≡ map (λ n. Some n) ns
numbers_are dictionary [] is small = refl
numbers_are dictionary (n ∷ ns) is small = rw (is.1.1 n (omega (arith, is.0, small.0)), numbers_are dictionary ns is small.1) refl

rem_small : (n : ℕ) → n % 2048 < 2048
rem_small n = omega arith

six_are_small : (x : ℕ) → Small (six x)
unfolding six
six_are_small x = rw (six_digits _) (rem_small _, (rem_small _, (rem_small _, (rem_small _, (rem_small _, (rem_small _, tt))))))

pub read_back : (dictionary : List (List ℕ)) (x : ℕ) → IsDictionary dictionary → x < 2 ^ 64 → read_of dictionary (phrase_of dictionary x) ≡ Ok x
unfolding phrase_of
read_back dictionary x is small =
    let cut : words (phrase_of dictionary x) ≡ map (word_at dictionary) (six x) = joined_words (map (word_at dictionary) (six x)) (texts_are dictionary (six x) is (six_are_small x)) in
    (exact_of dictionary (phrase_of dictionary x) is.0 x).1 (small, ap (map (number_of dictionary)) cut ∙ numbers_are dictionary (six x) is (six_are_small x))

-- ---- the lines of a dictionary

-- these lines are words, and none of them stands twice
record Good (done : List (List ℕ)) : Type 0 where
  few : length done ≤ 2048
  good : list_all is_word done ≡ true
  apart : AreApart (map str_to_ascii_uppercase done)

good_to : (done ls : List (List ℕ)) (count : ℕ) → count ≡ length done → Good done → GoodTo count (done ++ ls)
good_to done ls count is g =
    let front : take count (done ++ ls) ≡ done = ap (λ n. take n (done ++ ls)) is ∙ take-append_seam done ls in
    (omega (arith, is, length-append done ls), rw front g.good, rw front g.apart)

line_at : (done : List (List ℕ)) (line : List ℕ) (ls : List (List ℕ)) → get_or (done ++ line ∷ ls) (length done) [] ≡ line
line_at done line ls = let n : length done + 0 ≡ length done = omega arith in ap (λ k. get_or (done ++ line ∷ ls) k []) (sym n) ∙ get_or-append-add done (line ∷ ls) 0 []

new_by : (o : Option ℕ) → is_some o ≡ false → o ≡ None
new_by None h = refl
new_by (Some k) h = absurd (cc)

good_more : (done : List (List ℕ)) (line : List ℕ) → length done < 2048 → Good done → is_word line ≡ true → stands_in (str_to_ascii_uppercase line) (map str_to_ascii_uppercase done) ≡ false → Good (done ++ line ∷ [])
good_more done line few g good new = record {
  few = omega (arith, length-append done (line ∷ []), few);
  good = list_all-append is_word done (line ∷ []) ∙ rw (g.good, good) refl;
  apart = rw (map-append str_to_ascii_uppercase done (line ∷ [])) (apart_push (map str_to_ascii_uppercase done) (str_to_ascii_uppercase line) g.apart (upper_capital line good) (new_by _ new));
}

upper_count : (done : List (List ℕ)) → length (map str_to_ascii_uppercase done) ≡ length done
upper_count done = length-map done str_to_ascii_uppercase

at_end : (done : List (List ℕ)) → Good done → (length done < 2048) ⊎ (2048 ≤ length done) → SaysOf (done ++ []) (words_then (map str_to_ascii_uppercase done) [])
at_end done g (inl few) =
    rw (not_full (length (map str_to_ascii_uppercase done)) (omega (arith, upper_count done, few)))
    (good_to done [] (length (map str_to_ascii_uppercase done)) (upper_count done) g, omega (arith, upper_count done, length-append done []), omega (arith, upper_count done, few))
at_end done g (inr full) =
    rw (eq-eqb (length (map str_to_ascii_uppercase done)) 2048 (omega (arith, upper_count done, full, g.few)))
    (good_to done [] 2048 (omega (arith, full, g.few)) g, omega (arith, length-append done [], full, g.few), ap (map str_to_ascii_uppercase) (sym (append-nil done)))

at_line : (done : List (List ℕ)) (line : List ℕ) (ls : List (List ℕ)) (good twice : Bool) → length done < 2048 → Good done → is_word line ≡ good → stands_in (str_to_ascii_uppercase line) (map str_to_ascii_uppercase done) ≡ twice
    → (Good (done ++ line ∷ []) → SaysOf ((done ++ line ∷ []) ++ ls) (words_then (map str_to_ascii_uppercase (done ++ line ∷ [])) ls))
    → SaysOf (done ++ line ∷ ls) (words_then (map str_to_ascii_uppercase done) (line ∷ ls))
at_line done line ls false twice few g bad there more =
    rw (then_bad (map str_to_ascii_uppercase done) line ls (omega (arith, upper_count done, few)) bad)
    (length done, ap (λ n. n + 1) (upper_count done), omega (arith, length-append done (line ∷ ls)), few, good_to done (line ∷ ls) (length done) refl g, rw (line_at done line ls) bad)
at_line done line ls true true few g good there more =
    let front : take (length done) (done ++ line ∷ ls) ≡ done = take-append_seam done (line ∷ ls) in
    rw (then_twice (map str_to_ascii_uppercase done) line ls (omega (arith, upper_count done, few)) good there)
    (length done, ap (λ n. n + 1) (upper_count done), omega (arith, length-append done (line ∷ ls)), few, good_to done (line ∷ ls) (length done) refl g, rw (line_at done line ls, front) there)
at_line done line ls true false few g good there more =
    rw (then_more (map str_to_ascii_uppercase done) line ls (omega (arith, upper_count done, few)) good there)
    (rw (map-append str_to_ascii_uppercase done (line ∷ []), append_assoc done (line ∷ []) ls) at (more (good_more done line few g good there)))

says : (done ls : List (List ℕ)) → Good done → SaysOf (done ++ ls) (words_then (map str_to_ascii_uppercase done) ls)
says done [] g = at_end done g (cases_lt (length done) 2048)
says done (line ∷ ls) g = by (cases_lt (length done) 2048) (says (done ++ line ∷ []) ls)
  where
    by : (length done < 2048) ⊎ (2048 ≤ length done) → (Good (done ++ line ∷ []) → SaysOf ((done ++ line ∷ []) ++ ls) (words_then (map str_to_ascii_uppercase (done ++ line ∷ [])) ls))
        → SaysOf (done ++ line ∷ ls) (words_then (map str_to_ascii_uppercase done) (line ∷ ls))
    by (inl few) more = at_line done line ls (is_word line) (stands_in (str_to_ascii_uppercase line) (map str_to_ascii_uppercase done)) few g refl refl more
    by (inr full) more =
        rw (then_long (map str_to_ascii_uppercase done) line ls (omega (arith, upper_count done, full, g.few)))
        (good_to done (line ∷ ls) 2048 (omega (arith, full, g.few)) g, omega (arith, length-append done (line ∷ ls), full, g.few))

pub says_of : (text : List ℕ) → SaysOf (lines text) (dictionary_of text)
says_of text = says [] (lines text) (record { few = omega arith; good = refl; apart = (refl, λ k within. absurd (omega (arith, within))) })
