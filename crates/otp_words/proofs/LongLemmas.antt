-- A text that is longer than any dictionary shows its fault.
use Rattle.std.proofs.Common.{◌≡◌, ℕ, zero, suc, ◌+◌, ◌*◌, ◌<◌, ◌≤◌, Bool, true, false, List, [], ◌∷◌, ◌++◌, length, refl, sym, ap, ◌∙◌, arith, append_assoc, length-append}
use Rattle.std.specs.Prelude.{◌==◌, nat_lt, nat_le, ◌&&◌, Err}
use Rattle.std.specs.Char.{is_ascii_alphabetic}
use Rattle.std.specs.List.{list_all}
use Rattle.std.specs.Str.{str_to_ascii_uppercase}
use Rattle.std.specs.Str.Lines.{lines, strip_carriage_return}
use Rattle.std.proofs.lemmas.Bool.{eq-eqb, leb-true}
use Rattle.std.proofs.lemmas.Bool.Decides.{nat_tests}
use Rattle.std.proofs.lemmas.List.{append-nil}
use Rattle.otp_words.specs.declared.dict_fault.DictFault.{DictFault}
use Rattle.otp_words.specs.declared.dict_fault.DictFault.TheVariants.{BadWord, Twice, Long}
use Rattle.otp_words.specs.Dictionary.{is_word, stands_in, words_then}
use Rattle.otp_words.proofs.LineLemmas.{Cut, Front, ended, unended, IsOneLine, first_line, front_of, lines_first, stripped_least}
use Rattle.otp_words.proofs.ListLemmas.{and_both}

-- ---- one line

pub then_long : (words : List (List ℕ)) (line : List ℕ) (more : List (List ℕ)) → length words ≡ 2048 → words_then words (line ∷ more) ≡ Err Long
then_long words line more full = rw (eq-eqb (length words) 2048 full) refl

pub not_full : (n : ℕ) → n < 2048 → (n == 2048) ≡ false
not_full n few = grind (arith, nat_tests)

pub then_bad : (words : List (List ℕ)) (line : List ℕ) (more : List (List ℕ)) → length words < 2048 → is_word line ≡ false → words_then words (line ∷ more) ≡ Err (BadWord (length words + 1))
then_bad words line more few bad = rw (not_full (length words) few, bad) refl

pub then_twice : (words : List (List ℕ)) (line : List ℕ) (more : List (List ℕ)) → length words < 2048 → is_word line ≡ true → stands_in (str_to_ascii_uppercase line) words ≡ true
    → words_then words (line ∷ more) ≡ Err (Twice (length words + 1))
then_twice words line more few good twice = rw (not_full (length words) few, good, twice) refl

pub then_more : (words : List (List ℕ)) (line : List ℕ) (more : List (List ℕ)) → length words < 2048 → is_word line ≡ true → stands_in (str_to_ascii_uppercase line) words ≡ false
    → words_then words (line ∷ more) ≡ words_then (words ++ str_to_ascii_uppercase line ∷ []) more
then_more words line more few good new = rw (not_full (length words) few, good, new) refl

false_by : (v : Bool) → (v ≡ true → ⊥) → v ≡ false
false_by true h = absurd (h refl)
false_by false h = refl

pub word_short : (line : List ℕ) → is_word line ≡ true → length line ≤ 4
word_short line h =
    let p = and_both (nat_lt 0 (length line) && nat_le (length line) 4) (list_all is_ascii_alphabetic line) h in
    leb-true (length line) 4 (and_both (nat_lt 0 (length line)) (nat_le (length line) 4) p.0).1

no_word : (line : List ℕ) → 4 < length line → is_word line ≡ false
no_word line long = false_by (is_word line) (λ h. let short = word_short line h in absurd (omega (arith, short, long)))

-- ---- a front that is long enough

-- the fault stands in the front, whatever follows
pub record Settled (words : List (List ℕ)) (front rest : List ℕ) : Type 0 where
  pub fault : DictFault
  pub here : words_then words (lines front) ≡ Err fault
  pub whole : words_then words (lines (front ++ rest)) ≡ Err fault

settled_full : (words : List (List ℕ)) (front rest : List ℕ) → length words ≡ 2048 → 0 < length front → Settled words front rest
settled_full words front rest full some =
    let none : IsOneLine [] = λ k d lt. absurd (omega arith) in
    let here = first_line [] front none (omega arith) in
    let whole = first_line [] (front ++ rest) none (omega (arith, length-append front rest)) in
    record {
      fault = Long;
      here = ap (words_then words) here.is ∙ then_long words here.first here.more full;
      whole = ap (words_then words) whole.is ∙ then_long words whole.first whole.more full;
    }

settled_line : (words : List (List ℕ)) (front rest : List ℕ) → length words < 2048 → 6 < length front → IsOneLine front → Settled words front rest
settled_line words front rest few long one =
    let least = stripped_least front in
    let here = first_line front [] one (omega arith) in
    let whole = first_line front rest one (omega arith) in
    record {
      fault = BadWord (length words + 1);
      here = ap (λ t. words_then words (lines t)) (sym (append-nil front)) ∙ ap (words_then words) here.is ∙ then_bad words here.first here.more few (no_word here.first (omega (arith, least, here.least)));
      whole = ap (words_then words) whole.is ∙ then_bad words whole.first whole.more few (no_word whole.first (omega (arith, least, whole.least)));
    }

-- the lines of a cut text
cut_here : (front : List ℕ) (cut : Cut front) → lines front ≡ strip_carriage_return cut.line ∷ lines cut.rest
cut_here front cut = ap lines cut.is ∙ lines_first cut.line cut.rest cut.one

cut_whole : (front rest : List ℕ) (cut : Cut front) → lines (front ++ rest) ≡ strip_carriage_return cut.line ∷ lines (cut.rest ++ rest)
cut_whole front rest cut =
    ap (λ t. lines (t ++ rest)) cut.is ∙ ap lines (append_assoc cut.line (10 ∷ cut.rest) rest) ∙ lines_first cut.line (cut.rest ++ rest) cut.one

settled_cut : (words : List (List ℕ)) (front rest : List ℕ) (cut : Cut front) (good twice : Bool) → length words < 2048
    → is_word (strip_carriage_return cut.line) ≡ good → stands_in (str_to_ascii_uppercase (strip_carriage_return cut.line)) words ≡ twice
    → (is_word (strip_carriage_return cut.line) ≡ true → Settled (words ++ str_to_ascii_uppercase (strip_carriage_return cut.line) ∷ []) cut.rest rest)
    → Settled words front rest
settled_cut words front rest cut false twice few bad there more = record {
  fault = BadWord (length words + 1);
  here = ap (words_then words) (cut_here front cut) ∙ then_bad words (strip_carriage_return cut.line) (lines cut.rest) few bad;
  whole = ap (words_then words) (cut_whole front rest cut) ∙ then_bad words (strip_carriage_return cut.line) (lines (cut.rest ++ rest)) few bad;
}
settled_cut words front rest cut true true few good there more = record {
  fault = Twice (length words + 1);
  here = ap (words_then words) (cut_here front cut) ∙ then_twice words (strip_carriage_return cut.line) (lines cut.rest) few good there;
  whole = ap (words_then words) (cut_whole front rest cut) ∙ then_twice words (strip_carriage_return cut.line) (lines (cut.rest ++ rest)) few good there;
}
settled_cut words front rest cut true false few good there more =
    let next = more good in
    record {
      fault = next.fault;
      here = ap (words_then words) (cut_here front cut) ∙ then_more words (strip_carriage_return cut.line) (lines cut.rest) few good there ∙ next.here;
      whole = ap (words_then words) (cut_whole front rest cut) ∙ then_more words (strip_carriage_return cut.line) (lines (cut.rest ++ rest)) few good there ∙ next.whole;
    }

rest_long : (front : List ℕ) (cut : Cut front) (room : ℕ) → 6 * suc room < length front → is_word (strip_carriage_return cut.line) ≡ true → 6 * room < length cut.rest
rest_long front cut room long good =
    let short = word_short (strip_carriage_return cut.line) good in
    let least = stripped_least cut.line in
    let whole = ap length cut.is ∙ length-append cut.line (10 ∷ cut.rest) in
    omega (arith, short, least, whole, long)

pub settled : (room : ℕ) (words : List (List ℕ)) (front rest : List ℕ) → length words + room ≡ 2048 → 6 * room < length front → Settled words front rest
settled zero words front rest left long = settled_full words front rest (omega (arith, left)) (omega (arith, long))
settled (suc room) words front rest left long =
    by (front_of front) (λ word more. settled room (words ++ word ∷ []) more rest (omega (arith, length-append words (word ∷ []), left)))
  where
    by : Front front → ((word : List ℕ) (more : List ℕ) → 6 * room < length more → Settled (words ++ word ∷ []) more rest) → Settled words front rest
    by (unended one) next = settled_line words front rest (omega (arith, left)) (omega (arith, long)) one
    by (ended cut) next =
        settled_cut words front rest cut (is_word (strip_carriage_return cut.line)) (stands_in (str_to_ascii_uppercase (strip_carriage_return cut.line)) words) (omega (arith, left)) refl refl
        (λ good. next (str_to_ascii_uppercase (strip_carriage_return cut.line)) cut.rest (rest_long front cut room long good))
