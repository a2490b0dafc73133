-- A challenge that is written is read as it was.
use Rattle.std.proofs.Common.{◌≡◌, ℕ, suc, ◌<◌, ◌≤◌, ◌^◌, true, false, ◌&&◌, nat_lt, nat_le, List, [], ◌∷◌, ◌++◌, length, map, refl, sym, ap, ◌∙◌, arith, append_assoc, lit<}
use Rattle.std.specs.Prelude.{All, IsTrue, codes, Some}
use Rattle.std.specs.Char.{digit_value, is_ascii_alphanumeric, is_ascii_digit, to_ascii_lowercase}
use Rattle.std.specs.Fmt.{decimal}
use Rattle.std.specs.List.{list_all}
use Rattle.std.specs.Option.{option_map}
use Rattle.std.specs.Str.Parse.{AllDigits}
use Rattle.std.proofs.lemmas.Bool.{le-leb, lt-ltb, ltb-true}
use Rattle.std.proofs.lemmas.Bool.Decides.{nat_tests}
use Rattle.std.proofs.lemmas.Fmt.{decimal_is_IsNumeral, length-decimal-le}
use Rattle.std.proofs.lemmas.List.Elements.{All-cons}
use Rattle.fw_types.specs.Number.{in_range, number_of}
use Rattle.auth_records.specs.Texts.{is_seed, is_seed_byte, is_seed_text, seed_of}
use Rattle.otp_md5.specs.Challenge.{challenge}
use Rattle.otp_md5.specs.Hexadecimal.{is_blank}
use Rattle.otp_md5.specs.Passwords.{password}
use Rattle.authsrv_lines.specs.Words.{words}
use Rattle.otp_words.specs.Challenge.{challenge_in, challenge_of}
use Rattle.otp_words.specs.Laws.{Answers}
use Rattle.otp_words.proofs.ListLemmas.{and_all, and_both}
use Rattle.otp_words.proofs.WordLemmas.{IsText, first_word, last_word}

-- ---- the number

digit_whole : (d : ℕ) → digit_value d < 10 → is_blank d ≡ false
digit_whole d h = grind (arith, nat_tests)

is_digit : (d : ℕ) → digit_value d < 10 → is_ascii_digit d ≡ true
is_digit d h = grind (arith, nat_tests)

digits_whole : (ds : List ℕ) → AllDigits 10 ds → All (λ b. is_blank b ≡ false) ds
digits_whole [] h = λ k d lt. absurd (omega arith)
digits_whole (d ∷ ds) h = All-cons (λ b. is_blank b ≡ false) d ds (digit_whole d h.0) (digits_whole ds h.1)

are_digits : (ds : List ℕ) → AllDigits 10 ds → list_all is_ascii_digit ds ≡ true
are_digits [] h = refl
are_digits (d ∷ ds) h = and_all _ _ (is_digit d h.0) (are_digits ds h.1)

decimal_text : (n : ℕ) → n < 2 ^ 64 → IsText (decimal n)
decimal_text n small = let is = decimal_is_IsNumeral n small in record { some = is.0.0; whole = digits_whole (decimal n) is.0.1 }

decimal_number : (n : ℕ) → n < 2 ^ 32 → number_of (decimal n) ≡ Some n
decimal_number n small =
    let is = decimal_is_IsNumeral n (omega (arith, small)) in
    let short : length (decimal n) ≤ 10 = length-decimal-le 10 n (lit< tt) (omega (arith, small)) (omega (arith, small)) in
    rw (lt-ltb 0 (length (decimal n)) is.0.0, le-leb (length (decimal n)) 10 short, are_digits (decimal n) is.0.1, is.1) refl

in_small : (n : ℕ) → n ≤ 9999 → in_range 0 9999 (Some n) ≡ Some n
in_small n small = rw (le-leb 0 n (omega arith), le-leb n 9999 small) refl

-- ---- the seed

seed_byte_whole : (b : ℕ) → is_seed_byte b ≡ true → is_blank b ≡ false
seed_byte_whole b h = grind (arith, nat_tests)

seed_byte_letter : (b : ℕ) → is_seed_byte b ≡ true → is_ascii_alphanumeric b ≡ true
seed_byte_letter b h = grind (arith, nat_tests)

seed_byte_lower : (b : ℕ) → is_seed_byte b ≡ true → to_ascii_lowercase b ≡ b
seed_byte_lower b h = grind (arith, nat_tests)

seed_whole : (s : List ℕ) → list_all is_seed_byte s ≡ true → All (λ b. is_blank b ≡ false) s
seed_whole [] h = λ k d lt. absurd (omega arith)
seed_whole (b ∷ s) h =
    let p = and_both (is_seed_byte b) (list_all is_seed_byte s) h in
    All-cons (λ b. is_blank b ≡ false) b s (seed_byte_whole b p.0) (seed_whole s p.1)

seed_letters : (s : List ℕ) → list_all is_seed_byte s ≡ true → list_all is_ascii_alphanumeric s ≡ true
seed_letters [] h = refl
seed_letters (b ∷ s) h =
    let p = and_both (is_seed_byte b) (list_all is_seed_byte s) h in
    and_all _ _ (seed_byte_letter b p.0) (seed_letters s p.1)

seed_lower : (s : List ℕ) → list_all is_seed_byte s ≡ true → map to_ascii_lowercase s ≡ s
seed_lower [] h = refl
seed_lower (b ∷ s) h =
    let p = and_both (is_seed_byte b) (list_all is_seed_byte s) h in
    rw (seed_byte_lower b p.0, seed_lower s p.1) refl

seed_text : (s : List ℕ) → is_seed s ≡ true → IsText s
seed_text s h =
    let p = and_both (nat_lt 0 (length s) && nat_le (length s) 16) (list_all is_seed_byte s) h in
    record { some = ltb-true 0 (length s) (and_both (nat_lt 0 (length s)) (nat_le (length s) 16) p.0).0; whole = seed_whole s p.1 }

seed_read : (s : List ℕ) → is_seed s ≡ true → seed_of s ≡ Some s
seed_read s h =
    let p = and_both (nat_lt 0 (length s) && nat_le (length s) 16) (list_all is_seed_byte s) h in
    let is : is_seed_text s ≡ true = and_all _ _ p.0 (seed_letters s p.1) in
    rw (is, seed_lower s p.1) refl

-- ---- the three words

name_text : IsText (codes "otp-md5")
name_text = record { some = omega arith; whole = six_cons }
  where
    six_cons : All (λ b. is_blank b ≡ false) (codes "otp-md5")
    six_cons =
        let P : ℕ → Type 0 = λ b. is_blank b ≡ false in
        let none : All P [] = λ k d lt. absurd (omega arith) in
        All-cons P 111 (116 ∷ 112 ∷ 45 ∷ 109 ∷ 100 ∷ 53 ∷ []) refl (All-cons P 116 (112 ∷ 45 ∷ 109 ∷ 100 ∷ 53 ∷ []) refl (All-cons P 112 (45 ∷ 109 ∷ 100 ∷ 53 ∷ []) refl (All-cons P 45 (109 ∷ 100 ∷ 53 ∷ []) refl
        (All-cons P 109 (100 ∷ 53 ∷ []) refl (All-cons P 100 (53 ∷ []) refl (All-cons P 53 [] refl none))))))

challenge_is : (number : ℕ) (s : List ℕ) → challenge number s ≡ codes "otp-md5" ++ 32 ∷ (decimal number ++ 32 ∷ s)
unfolding challenge
challenge_is number s = append_assoc (codes "otp-md5 " ++ decimal number) (codes " ") s ∙ append_assoc (codes "otp-md5 ") (decimal number) (codes " " ++ s)

three_words : (number : ℕ) (s : List ℕ) → number < 2 ^ 64 → is_seed s ≡ true → words (challenge number s) ≡ codes "otp-md5" ∷ decimal number ∷ s ∷ []
three_words number s small is =
    ap words (challenge_is number s) ∙ first_word (codes "otp-md5") (decimal number ++ 32 ∷ s) name_text
    ∙ ap (λ ws. codes "otp-md5" ∷ ws) (first_word (decimal number) s (decimal_text number small) ∙ ap (λ ws. decimal number ∷ ws) (last_word s (seed_text s is)))

pub challenge_read : (s : List ℕ) (number : ℕ) → IsTrue (is_seed s) → number ≤ 9999 → challenge_of (challenge number s) ≡ Some (number, s)
unfolding challenge_of
challenge_read s number is small =
    ap challenge_in (three_words number s (omega (arith, small)) is) ∙ rw (decimal_number number (omega (arith, small)), in_small number small, seed_read s is) refl

pub opened : (s phrase : List ℕ) (number kept : ℕ) → IsTrue (is_seed s) → number ≤ 9999 → kept ≡ password s phrase (suc number) → Answers (challenge number s) phrase kept
opened s phrase number kept is small keeps =
    (password s phrase number, ap (option_map (λ asked. password asked.1 phrase asked.0)) (challenge_read s number is small), sym keeps)
