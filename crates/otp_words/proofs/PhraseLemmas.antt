-- Six words and their numbers.
use Rattle.std.proofs.Common.{◌≡◌, ℕ, suc, ◌+◌, ◌<◌, ◌^◌, Bool, true, false, cond, List, [], ◌∷◌, ◌++◌, length, map, take, refl, sym, ap, ◌∙◌, arith, append_assoc, get_or, drop}
use Rattle.std.specs.Prelude.{◌==◌, is_none, position, unwrap_or, Option, Some, None, Result, Ok, Err, ◌↔◌, IsErrAnd}
use Rattle.std.specs.List.{join_with_byte}
use Rattle.std.specs.Option.{option_map, ok_or}
use Rattle.std.specs.Str.{bytes_eq, str_to_ascii_uppercase}
use Rattle.std.proofs.Math.Seq.{take-suc}
use Rattle.std.proofs.lemmas.Bool.{eqb-true, eq-eqb}
use Rattle.std.proofs.lemmas.List.{length-map, map-append, take_all}
use Rattle.authsrv_lines.specs.Words.{words}
use Rattle.otp_words.specs.declared.words_fault.WordsFault.{WordsFault}
use Rattle.otp_words.specs.declared.words_fault.WordsFault.TheVariants.{Count, Check}
use Rattle.otp_words.specs.Dictionary.{number_of, word_at}
use Rattle.otp_words.specs.Phrase.{checked, password_in, password_unless, phrase_of, read_of}
use Rattle.otp_words.specs.SixWords.{password_of, six}
use Rattle.otp_words.proofs.PlaceLemmas.{position_no, position_within, position_yes}
use Rattle.otp_words.proofs.SixLemmas.{back_from_six, six_from_numbers, six_length}

-- ---- the numbers of words

later_none : (o : Option ℕ) → option_map (λ k. suc k) o ≡ None → o ≡ None
later_none None h = refl
later_none (Some k) h = absurd (cc)

all_there : (numbers : List (Option ℕ)) → position is_none numbers ≡ None → numbers ≡ map (λ n. Some n) (map (λ number. unwrap_or number 0) numbers)
all_there [] h = refl
all_there (None ∷ numbers) h = absurd (let no : Some 0 ≡ None = sym (position_yes is_none None numbers refl) ∙ h in cc)
all_there (Some n ∷ numbers) h = ap (λ ns. Some n ∷ ns) (all_there numbers (later_none (position is_none numbers) (sym (position_no is_none (Some n) numbers refl) ∙ h)))

none_missing : (ns : List ℕ) → position is_none (map (λ n. Some n) ns) ≡ None
none_missing [] = refl
none_missing (n ∷ ns) = position_no is_none (Some n) (map (λ n. Some n) ns) refl ∙ ap (option_map (λ k. suc k)) (none_missing ns)

given_back : (ns : List ℕ) → map (λ number. unwrap_or number 0) (map (λ n. Some n) ns) ≡ ns
given_back [] = refl
given_back (n ∷ ns) = ap (λ ms. n ∷ ms) (given_back ns)

-- numbers below 2,048
abbrev Small : List ℕ → Type 0
Small [] = Unit {0}
Small (n ∷ ns) = (n < 2048) × Small ns

small_numbers : (dictionary ws : List (List ℕ)) (ns : List ℕ) → length dictionary ≡ 2048 → map (number_of dictionary) ws ≡ map (λ n. Some n) ns → Small ns
small_numbers dictionary [] [] many h = tt
small_numbers dictionary [] (n ∷ ns) many h = absurd (cc)
small_numbers dictionary (w ∷ ws) [] many h = absurd (cc)
small_numbers dictionary (w ∷ ws) (n ∷ ns) many h =
    let first : number_of dictionary w ≡ Some n = cc in
    let more : map (number_of dictionary) ws ≡ map (λ n. Some n) ns = cc in
    (omega (arith, position_within (bytes_eq (str_to_ascii_uppercase w)) dictionary n first, many), small_numbers dictionary ws ns many more)

six_by : (ns : List ℕ) (x : ℕ) → length ns ≡ 6 → Small ns → password_of ns ≡ Some x → (x < 2 ^ 64) × (ns ≡ six x)
six_by [] x h s is = absurd (omega (arith, h))
six_by (a ∷ []) x h s is = absurd (omega (arith, h))
six_by (a ∷ b ∷ []) x h s is = absurd (omega (arith, h))
six_by (a ∷ b ∷ c ∷ []) x h s is = absurd (omega (arith, h))
six_by (a ∷ b ∷ c ∷ d ∷ []) x h s is = absurd (omega (arith, h))
six_by (a ∷ b ∷ c ∷ d ∷ e ∷ []) x h s is = absurd (omega (arith, h))
six_by (a ∷ b ∷ c ∷ d ∷ e ∷ f ∷ []) x h s is = six_from_numbers a b c d e f x s.0 s.1.0 s.1.1.0 s.1.1.1.0 s.1.1.1.1.0 s.1.1.1.1.1.0 is
six_by (a ∷ b ∷ c ∷ d ∷ e ∷ f ∷ g ∷ rest) x h s is = absurd (omega (arith, h))

-- ---- both ways

checked_ok : (o : Option ℕ) (x : ℕ) → checked o ≡ Ok x → o ≡ Some x
checked_ok None x h = absurd (cc)
checked_ok (Some y) x h = cc

there_by : (dictionary ws : List (List ℕ)) (x : ℕ) (o : Option ℕ) → length dictionary ≡ 2048 → length ws ≡ 6 → position is_none (map (number_of dictionary) ws) ≡ o
    → password_unless o (map (number_of dictionary) ws) ≡ Ok x → (x < 2 ^ 64) × (map (number_of dictionary) ws ≡ map (λ n. Some n) (six x))
there_by dictionary ws x (Some place) many count at h = absurd (cc)
there_by dictionary ws x None many count at h =
    let numbers = map (number_of dictionary) ws in
    let ns = map (λ number. unwrap_or number 0) numbers in
    let all : numbers ≡ map (λ n. Some n) ns = all_there numbers at in
    let long : length ns ≡ 6 = length-map numbers (λ number. unwrap_or number 0) ∙ length-map ws (number_of dictionary) ∙ count in
    let is = six_by ns x long (small_numbers dictionary ws ns many all) (checked_ok (password_of ns) x h) in
    (is.0, all ∙ ap (map (λ n. Some n)) is.1)

count_by : (dictionary ws : List (List ℕ)) (x : ℕ) (v : Bool) → length dictionary ≡ 2048 → (length ws == 6) ≡ v
    → cond v (password_unless (position is_none (map (number_of dictionary) ws)) (map (number_of dictionary) ws)) (Err Count) ≡ Ok x
    → (x < 2 ^ 64) × (map (number_of dictionary) ws ≡ map (λ n. Some n) (six x))
count_by dictionary ws x false many count h = absurd (cc)
count_by dictionary ws x true many count h = there_by dictionary ws x (position is_none (map (number_of dictionary) ws)) many (eqb-true (length ws) 6 count) refl h

in_back : (dictionary ws : List (List ℕ)) (x : ℕ) → x < 2 ^ 64 → map (number_of dictionary) ws ≡ map (λ n. Some n) (six x) → password_in dictionary ws ≡ Ok x
in_back dictionary ws x small is =
    let count : length ws ≡ 6 = sym (length-map ws (number_of dictionary)) ∙ ap length is ∙ length-map (six x) (λ n. Some n) ∙ six_length x in
    rw (eq-eqb (length ws) 6 count, is, none_missing (six x), given_back (six x), back_from_six x small) refl

-- the answer is a password exactly for the words with its six numbers
pub exact_of : (dictionary : List (List ℕ)) (text : List ℕ) → length dictionary ≡ 2048 → (x : ℕ) → (read_of dictionary text ≡ Ok x) ↔ ((x < 2 ^ 64) × (map (number_of dictionary) (words text) ≡ map (λ n. Some n) (six x)))
unfolding read_of
exact_of dictionary text many x = (λ h. count_by dictionary (words text) x (length (words text) == 6) many refl h, λ h. in_back dictionary (words text) x h.0 h.1)

pub exact_by : (dictionary : List (List ℕ)) (text : List ℕ) (result : Result ℕ WordsFault) → length dictionary ≡ 2048 → result ≡ read_of dictionary text → (x : ℕ) → (result ≡ Ok x) ↔ ((x < 2 ^ 64) × (map (number_of dictionary) (words text) ≡ map (λ n. Some n) (six x)))
exact_by dictionary text result many is x =
    let both = exact_of dictionary text many x in
    (λ h. both.0 (sym is ∙ h), λ h. is ∙ both.1 h)

-- ---- the answers of `read_words`

pub wrong_count : (dictionary : List (List ℕ)) (text : List ℕ) → (length (words text) == 6) ≡ false → Err Count ≡ read_of dictionary text
unfolding read_of
wrong_count dictionary text h = rw h refl

pub read_in : (dictionary : List (List ℕ)) (text : List ℕ) (ws : List (List ℕ)) → words text ≡ ws → password_in dictionary ws ≡ read_of dictionary text
unfolding read_of
read_in dictionary text ws is = rw is refl

pub fault_is : {A : Type 0} (r : Result A WordsFault) (e : WordsFault) → IsErrAnd r (λ y. y ≡ e) → r ≡ Err e
fault_is (Ok x) e h = absurd h
fault_is (Err y) e h = ap Err h

pub list_with : (dictionary : List (List ℕ)) (ws : List (List ℕ)) (ns : List ℕ) → length ws ≡ 6 → map (number_of dictionary) ws ≡ map (λ n. Some n) ns → checked (password_of ns) ≡ password_in dictionary ws
list_with dictionary ws ns count numbers = sym (rw (eq-eqb (length ws) 6 count, numbers, none_missing ns, given_back ns) refl)

pub ok_or_is : (o : Option ℕ) (r : Result ℕ WordsFault) → r ≡ ok_or o Check → r ≡ checked o
ok_or_is None r h = h
ok_or_is (Some x) r h = h

-- ---- what is written

join_push : (word : List ℕ) (ws : List (List ℕ)) (more : List ℕ) → join_with_byte 32 (word ∷ (ws ++ more ∷ [])) ≡ join_with_byte 32 (word ∷ ws) ++ 32 ∷ more
join_push word [] more = refl
join_push word (next ∷ ws) more =
    ap (λ t. word ++ 32 ∷ t) (join_push next ws more) ∙ sym (append_assoc word (32 ∷ join_with_byte 32 (next ∷ ws)) (32 ∷ more))

-- the words of the first numbers of a password
abbrev pub front_words : List (List ℕ) → List ℕ → ℕ → List ℕ
front_words dictionary numbers count = join_with_byte 32 (map (word_at dictionary) (take (suc count) numbers))

pub one_word : (dictionary : List (List ℕ)) (numbers : List ℕ) (n : ℕ) → n ≡ get_or numbers 0 0 → 0 < length numbers → word_at dictionary n ≡ front_words dictionary numbers 0
one_word dictionary [] n is some = absurd (omega arith)
one_word dictionary (x ∷ numbers) n is some = ap (word_at dictionary) is

pub next_word_is : (dictionary : List (List ℕ)) (numbers : List ℕ) (i n : ℕ) (out : List ℕ) → i < length (drop 1 numbers) → n ≡ get_or (drop 1 numbers) i 0 → out ≡ front_words dictionary numbers i
    → (out ++ 32 ∷ []) ++ word_at dictionary n ≡ front_words dictionary numbers (i + 1)
next_word_is dictionary [] i n out within is so_far = absurd (omega arith)
next_word_is dictionary (x ∷ numbers) i n out within is so_far =
    let one_more : i + 1 ≡ suc i = omega arith in
    let longer : take (suc i) numbers ≡ take i numbers ++ n ∷ [] = take-suc numbers i 0 within ∙ ap (λ m. take i numbers ++ m ∷ []) (sym is) in
    rw (so_far, one_more, longer, map-append (word_at dictionary) (take i numbers) (n ∷ [])) (append_assoc (join_with_byte 32 (word_at dictionary x ∷ map (word_at dictionary) (take i numbers))) (32 ∷ []) (word_at dictionary n) ∙ sym (join_push (word_at dictionary x) (map (word_at dictionary) (take i numbers)) (word_at dictionary n)))

pub all_written : (dictionary : List (List ℕ)) (x : ℕ) (out : List ℕ) → out ≡ front_words dictionary (six x) 5 → out ≡ phrase_of dictionary x
unfolding phrase_of
all_written dictionary x out is = is ∙ ap (λ ns. join_with_byte 32 (map (word_at dictionary) ns)) (take_all 6 (six x) (omega (arith, six_length x)))
