-- How the words of a line follow each other.
use Rattle.std.proofs.Common.{◌≡◌, ℕ, zero, suc, ◌+◌, ◌<◌, ◌≤◌, Bool, true, false, List, [], ◌∷◌, ◌++◌, length, take, drop, refl, sym, ap, ◌∙◌, arith, append_assoc}
use Rattle.std.specs.Prelude.{cond, not, nat_lt, option_map, position, unwrap_or, Option, Some, None}
use Rattle.std.specs.List.{after_first, before_first, list_any, position_or_len}
use Rattle.std.proofs.lemmas.List.Sums.{prefix_len-le-length}
use Rattle.std.proofs.lemmas.Bool.Decides.{nat_tests}
use Rattle.std.proofs.lemmas.Bool.{ltb-true}
use Rattle.std.proofs.lemmas.Option.{cond_some}
use Rattle.host_pattern.specs.declared.word.Word.{Word}
use Rattle.netperm_table.specs.Bytes.{is_blank, is_brace, is_quote, ends_word}
use Rattle.netperm_table.specs.Words.{word_of, with_word, words_after, words_of}

chosen : (n len : ℕ) → n ≤ len → unwrap_or (cond (nat_lt n len) (Some n) None) len ≡ n
chosen n len within = grind (arith, nat_tests)

-- the place of the first that passes, or the length
pub counted : (p : ℕ → Bool) (xs : List ℕ) → unwrap_or (position p xs) (length xs) ≡ position_or_len p xs
counted p xs = chosen (position_or_len p xs) (length xs) (prefix_len-le-length (λ x. not (p x)) xs)

pub counted_within : (p : ℕ → Bool) (xs : List ℕ) → position_or_len p xs ≤ length xs
counted_within p xs = prefix_len-le-length (λ x. not (p x)) xs

any_by : (p : ℕ → Bool) (x : ℕ) (xs : List ℕ) (v : Bool) → p x ≡ v → list_any p xs ≡ nat_lt (position_or_len p xs) (length xs) → list_any p (x ∷ xs) ≡ nat_lt (position_or_len p (x ∷ xs)) (length (x ∷ xs))
any_by p x xs true h more = grind (arith, nat_tests)
any_by p x xs false h more = grind (arith, nat_tests)

-- one passes where the place of the first is within
pub any_within : (p : ℕ → Bool) (xs : List ℕ) → list_any p xs ≡ nat_lt (position_or_len p xs) (length xs)
any_within p [] = refl
any_within p (x ∷ xs) = any_by p x xs (p x) refl (any_within p xs)

-- the first that passes was found, or none passes
pub found : (p : ℕ → Bool) (xs : List ℕ) (at : ℕ) → position p xs ≡ Some at → (list_any p xs ≡ true) × (at ≡ position_or_len p xs) × (at < length xs)
found p xs at h =
    let any = any_within p xs in
    let is = cond_some (nat_lt (position_or_len p xs) (length xs)) (position_or_len p xs) at h in
    (any ∙ is.0, sym is.1, rw (sym is.1) (ltb-true (position_or_len p xs) (length xs) is.0))

none_by : (v : Bool) (n : ℕ) → cond v (Some n) None ≡ None → v ≡ false
none_by true n h = absurd (cc)
none_by false n h = refl

pub none_found : (p : ℕ → Bool) (xs : List ℕ) → position p xs ≡ None → list_any p xs ≡ false
none_found p xs h = any_within p xs ∙ none_by _ (position_or_len p xs) h

one_more : (n : ℕ) → 1 + n ≡ suc n
one_more n = omega arith

-- words that begin later are the words of what stands later
pub words_after-drop : (n : ℕ) (bytes : List ℕ) → words_after n bytes ≡ words_of (drop n bytes)
words_after-drop zero bytes = refl
words_after-drop (suc n) [] = refl
words_after-drop (suc n) (b ∷ bytes) = words_after-drop n bytes

abbrev pub blanks_of : List ℕ → ℕ
blanks_of bytes = position_or_len (λ b. not (is_blank b)) bytes

-- blanks before the first word are no words
pub words_of-blanks : (bytes : List ℕ) → words_of (drop (blanks_of bytes) bytes) ≡ words_of bytes
words_of-blanks [] = refl
words_of-blanks (b ∷ bytes) = by (is_blank b) refl (words_of-blanks bytes)
  where
    by : (v : Bool) → is_blank b ≡ v → words_of (drop (blanks_of bytes) bytes) ≡ words_of bytes → words_of (drop (blanks_of (b ∷ bytes)) (b ∷ bytes)) ≡ words_of (b ∷ bytes)
    by true h more = rw (h, one_more (blanks_of bytes)) more
    by false h more = let none : blanks_of (b ∷ bytes) ≡ 0 = rw h refl in ap (λ n. words_of (drop n (b ∷ bytes))) none

-- what stands after the blanks begins with none
pub no_blank_first : (bytes : List ℕ) (first : ℕ) (more : List ℕ) → drop (blanks_of bytes) bytes ≡ first ∷ more → is_blank first ≡ false
no_blank_first [] first more = λ is. absurd (cc)
no_blank_first (b ∷ bytes) first more = λ is. by (is_blank b) refl (no_blank_first bytes first more) is
  where
    begins : b ∷ bytes ≡ first ∷ more → is_blank b ≡ false → is_blank first ≡ false
    begins is h = let same : b ≡ first = cc in rw (sym same) h

    by : (v : Bool) → is_blank b ≡ v → (drop (blanks_of bytes) bytes ≡ first ∷ more → is_blank first ≡ false) → drop (blanks_of (b ∷ bytes)) (b ∷ bytes) ≡ first ∷ more → is_blank first ≡ false
    by true h later is = later (rw (h, one_more (blanks_of bytes)) at is)
    by false h later is = begins (rw h at is) h

-- a brace is a word of its own
pub brace_word : (first : ℕ) (bytes : List ℕ) → is_blank first ≡ false → is_brace first ≡ true → words_of (first ∷ bytes) ≡ with_word (word_of (first ∷ []) false) (words_of bytes)
brace_word first bytes blank brace = rw (blank, brace) refl

-- another word without quotes goes on to the next blank or brace
pub plain_word : (first : ℕ) (bytes : List ℕ) → is_blank first ≡ false → is_brace first ≡ false → is_quote first ≡ false → words_of (first ∷ bytes) ≡ with_word (word_of (take (position_or_len ends_word (first ∷ bytes)) (first ∷ bytes)) false) (words_of (drop (position_or_len ends_word (first ∷ bytes)) (first ∷ bytes)))
plain_word first bytes blank brace quote =
    let later = words_after-drop (position_or_len ends_word bytes) bytes in
    rw (blank, brace, quote, one_more (position_or_len ends_word bytes), later) refl

-- and has a byte at least
pub plain_some : (first : ℕ) (bytes : List ℕ) → is_blank first ≡ false → is_brace first ≡ false → 0 < position_or_len ends_word (first ∷ bytes)
plain_some first bytes blank brace = rw (blank, brace) (omega arith)

quote_no_end : (first : ℕ) → is_quote first ≡ true → ends_word first ≡ false
quote_no_end first quote = grind (arith, nat_tests)

quote_no_blank : (first : ℕ) → is_quote first ≡ true → is_blank first ≡ false
quote_no_blank first quote = grind (arith, nat_tests)

quote_no_brace : (first : ℕ) → is_quote first ≡ true → is_brace first ≡ false
quote_no_brace first quote = grind (arith, nat_tests)

-- a word in quotes goes on to the next quote
pub quoted_word : (first : ℕ) (bytes : List ℕ) → is_quote first ≡ true → list_any is_quote bytes ≡ true → words_of (first ∷ bytes) ≡ with_word (word_of (before_first is_quote bytes) true) (words_of (after_first is_quote bytes))
quoted_word first bytes quote closed =
    let later = words_after-drop (position_or_len is_quote bytes + 1) bytes in
    rw (quote_no_blank first quote, quote_no_brace first quote, quote, closed, later) refl

pub open_word : (first : ℕ) (bytes : List ℕ) → is_quote first ≡ true → list_any is_quote bytes ≡ false → words_of (first ∷ bytes) ≡ None
open_word first bytes quote open_ = rw (quote_no_blank first quote, quote_no_brace first quote, quote, open_) refl

-- the words so far, and then others
abbrev pub words_then : List Word → Option (List Word) → Option (List Word)
words_then done more = option_map (λ words. done ++ words) more

pub words_then-with_word : (done : List Word) (word : Word) (more : Option (List Word)) → words_then done (with_word word more) ≡ words_then (done ++ word ∷ []) more
words_then-with_word done word None = refl
words_then-with_word done word (Some words) = ap Some (sym (append_assoc done (word ∷ []) words))

pub words_then-nil : (more : Option (List Word)) → words_then [] more ≡ more
words_then-nil None = refl
words_then-nil (Some words) = refl
