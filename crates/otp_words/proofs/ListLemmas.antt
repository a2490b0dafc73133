-- How a list of words and its index grow.
use Rattle.std.proofs.Common.{◌≡◌, ℕ, ◌-◌, ◌<◌, ◌≤◌, Bool, true, false, ◌&&◌, cond, nat_lt, nat_le, List, [], ◌∷◌, ◌++◌, length, map, refl, sym, ap, ◌∙◌, arith, ◌⊎◌, inl, inr, length-append}
use Rattle.std.specs.Prelude.{not, position, Option, Some, None, IfSome}
use Rattle.std.specs.BTreeMap.{BTreeMap, Updates, get}
use Rattle.std.specs.Char.{is_ascii_alphabetic, is_ascii_uppercase, to_ascii_uppercase}
use Rattle.std.specs.List.{list_all}
use Rattle.std.specs.Str.{bytes_eq, str_to_ascii_uppercase}
use Rattle.std.proofs.lemmas.Bool.{cases_lt, leb-true}
use Rattle.std.proofs.lemmas.Bool.Decides.{nat_tests}
use Rattle.std.proofs.lemmas.List.{length-map, map-append, get_or_append_left, get_or-append_right}
use Rattle.std.proofs.lemmas.List.Folds.{list_all-append}
use Rattle.std.proofs.lemmas.Map.Text.{is_eq-slice_cmp}
use Rattle.std.proofs.lemmas.Slice.Eq.{bytes_eq-Decides}
use Rattle.arrayvec.specs.ArrayVec.{ArrayVec}
use Rattle.otp_words.specs.Dictionary.{AreApart, is_capital_word, is_word, number_of, word_at}
use Rattle.otp_words.specs.Indexed.{IsIndex, items_of, word_cmp}
use Rattle.otp_words.proofs.PlaceLemmas.{position_none, position_push, position_stays, position_within}

pub and_both : (a b : Bool) → (a && b) ≡ true → (a ≡ true) × (b ≡ true)
and_both true b h = (refl, h)
and_both false b h = absurd cc

pub and_all : (a b : Bool) → a ≡ true → b ≡ true → (a && b) ≡ true
and_all a b h k = rw (h, k) refl

-- ---- bytes and case

pub same_bytes : (xs : List ℕ) → bytes_eq xs xs ≡ true
same_bytes xs = (bytes_eq-Decides xs xs).1 refl

bytes_are : (xs ys : List ℕ) → bytes_eq xs ys ≡ true → xs ≡ ys
bytes_are xs ys h = (bytes_eq-Decides xs ys).0 h

-- what is true would make two things equal that aren't
false_by : (v : Bool) → (v ≡ true → ⊥) → v ≡ false
false_by true h = absurd (h refl)
false_by false h = refl

pub other_bytes : (xs ys : List ℕ) → bytes_eq xs ys ≡ false → bytes_eq ys xs ≡ false
other_bytes xs ys h = false_by (bytes_eq ys xs) (λ same. let is = bytes_are ys xs same in let yes : bytes_eq xs ys ≡ true = rw is (same_bytes xs) in absurd (let no : true ≡ false = sym yes ∙ h in cc))

stays_capital : (c : ℕ) → is_ascii_uppercase c ≡ true → to_ascii_uppercase c ≡ c
stays_capital c h = grind (arith, nat_tests)

is_capital : (c : ℕ) → is_ascii_alphabetic c ≡ true → is_ascii_uppercase (to_ascii_uppercase c) ≡ true
is_capital c h = grind (arith, nat_tests)

stay_capitals : (word : List ℕ) → list_all is_ascii_uppercase word ≡ true → map to_ascii_uppercase word ≡ word
stay_capitals [] h = refl
stay_capitals (c ∷ word) h =
    let p = and_both (is_ascii_uppercase c) (list_all is_ascii_uppercase word) h in
    rw (stays_capital c p.0, stay_capitals word p.1) refl

are_capitals : (line : List ℕ) → list_all is_ascii_alphabetic line ≡ true → list_all is_ascii_uppercase (map to_ascii_uppercase line) ≡ true
are_capitals [] h = refl
are_capitals (c ∷ line) h =
    let p = and_both (is_ascii_alphabetic c) (list_all is_ascii_alphabetic line) h in
    and_all _ _ (is_capital c p.0) (are_capitals line p.1)

-- a word of capitals is the same in upper case
pub capital_upper : (word : List ℕ) → is_capital_word word ≡ true → str_to_ascii_uppercase word ≡ word
capital_upper word h = stay_capitals word (and_both (nat_lt 0 (length word) && nat_le (length word) 4) (list_all is_ascii_uppercase word) h).1

-- and a word in upper case is one of capitals
pub upper_capital : (line : List ℕ) → is_word line ≡ true → is_capital_word (str_to_ascii_uppercase line) ≡ true
upper_capital line h =
    let p = and_both (nat_lt 0 (length line) && nat_le (length line) 4) (list_all is_ascii_alphabetic line) h in
    rw (length-map line to_ascii_uppercase) (and_all _ _ p.0 (are_capitals line p.1))

pub capital_short : (word : List ℕ) → is_capital_word word ≡ true → length word ≤ 4
capital_short word h =
    let p = and_both (nat_lt 0 (length word) && nat_le (length word) 4) (list_all is_ascii_uppercase word) h in
    leb-true (length word) 4 (and_both (nat_lt 0 (length word)) (nat_le (length word) 4) p.0).1

-- ---- no long word is among them

none_long : (word : List ℕ) (words : List (List ℕ)) → 4 < length word → list_all is_capital_word words ≡ true → list_all (λ x. not (bytes_eq word x)) words ≡ true
none_long word [] long h = refl
none_long word (x ∷ words) long h =
    let p = and_both (is_capital_word x) (list_all is_capital_word words) h in
    let short = capital_short x p.0 in
    let other : bytes_eq word x ≡ false = false_by (bytes_eq word x) (λ same. let is = ap length (bytes_are word x same) in absurd (omega (arith, is, short, long))) in
    rw other (none_long word words long p.1)

pub long_missing : (words : List (List ℕ)) (word : List ℕ) → AreApart words → 4 < length word → number_of words word ≡ None
long_missing words word apart long =
    position_none (bytes_eq (str_to_ascii_uppercase word)) words (none_long (str_to_ascii_uppercase word) words (omega (arith, length-map word to_ascii_uppercase, long)) apart.0)

-- ---- one word more

pub number_within : (words : List (List ℕ)) (word : List ℕ) (k : ℕ) → position (bytes_eq word) words ≡ Some k → k < length words
number_within words word k h = position_within (bytes_eq word) words k h

found_again : (words : List (List ℕ)) (word : List ℕ) (k : ℕ) → AreApart words → is_capital_word word ≡ true → position (bytes_eq word) words ≡ None
    → k < length (words ++ word ∷ []) → (k < length words) ⊎ (length words ≤ k) → number_of (words ++ word ∷ []) (word_at (words ++ word ∷ []) k) ≡ Some k
found_again words word k apart form none within (inl old) =
    let same : word_at (words ++ word ∷ []) k ≡ word_at words k = get_or_append_left words (word ∷ []) [] k old in
    rw same (position_stays (bytes_eq (str_to_ascii_uppercase (word_at words k))) words (word ∷ []) k (apart.1 k old))
found_again words word k apart form none within (inr new) =
    let at : k ≡ length words = omega (arith, length-append words (word ∷ []), within, new) in
    let zero_th : length words - length words ≡ 0 = omega arith in
    let same : word_at (words ++ word ∷ []) (length words) ≡ word = get_or-append_right words (word ∷ []) (length words) (length words) [] refl (omega arith) ∙ rw zero_th refl in
    rw (at, same, capital_upper word form) (position_push (bytes_eq word) words word none ∙ rw (same_bytes word) refl)

pub apart_push : (words : List (List ℕ)) (word : List ℕ) → AreApart words → is_capital_word word ≡ true → position (bytes_eq word) words ≡ None → AreApart (words ++ word ∷ [])
apart_push words word apart form none =
    (list_all-append is_capital_word words (word ∷ []) ∙ rw (apart.0, form) refl, λ k within. found_again words word k apart form none within (cases_lt k (length words)))

still_missing : (o : Option ℕ) (q word : List ℕ) (words : List (List ℕ)) → position (bytes_eq q) words ≡ o → bytes_eq q word ≡ false → position (bytes_eq q) (words ++ word ∷ []) ≡ o
still_missing (Some k) q word words is other = position_stays (bytes_eq q) words (word ∷ []) k is
still_missing None q word words is other = position_push (bytes_eq q) words word is ∙ rw other refl

index_at : (v : Bool) (old : Option ℕ) (q word : List ℕ) (words : List (List ℕ)) → bytes_eq word q ≡ v → old ≡ position (bytes_eq q) words → position (bytes_eq word) words ≡ None
    → cond v (Some (length words)) old ≡ position (bytes_eq q) (words ++ word ∷ [])
index_at true old q word words same is none =
    let eq = bytes_are word q same in
    rw (← eq) (sym (position_push (bytes_eq word) words word none ∙ rw (same_bytes word) refl))
index_at false old q word words other is none = is ∙ sym (still_missing (position (bytes_eq q) words) q word words refl (other_bytes word q other))

pub index_push : (old new : BTreeMap (ArrayVec ℕ) ℕ) (words : List (List ℕ)) (key : ArrayVec ℕ) (word : List ℕ) (n : ℕ) → IsIndex old words → n ≡ length words → key.items ≡ word
    → position (bytes_eq word) words ≡ None → Updates word_cmp old new key (Some n) → IsIndex new (words ++ word ∷ [])
index_push old new words key word n index is same none updates = λ q.
    updates.0 q ∙ ap (λ v. cond v (Some n) (get word_cmp old q)) (is_eq-slice_cmp key.items q.items) ∙ ap (λ m. cond (bytes_eq key.items q.items) (Some m) (get word_cmp old q)) is
    ∙ ap (λ w. cond (bytes_eq w q.items) (Some (length words)) (get word_cmp old q)) same
    ∙ index_at (bytes_eq word q.items) (get word_cmp old q) q.items word words refl (index q) none

pub found_within : (words : List (List ℕ)) (word : List ℕ) (o : Option ℕ) → o ≡ position (bytes_eq word) words → IfSome o (λ n. n < length words)
found_within words word None is = tt
found_within words word (Some n) is = number_within words word n (sym is)

pub items_push : (words : List (ArrayVec ℕ)) (word : ArrayVec ℕ) → items_of (words ++ word ∷ []) ≡ items_of words ++ word.items ∷ []
items_push words word = map-append (λ word. word.items) words (word ∷ [])
