-- Texts that are cut at single spaces.
use Rattle.std.proofs.Common.{◌≡◌, ℕ, suc, ◌+◌, ◌<◌, ◌^◌, Bool, true, false, ◌&&◌, List, [], ◌∷◌, ◌++◌, refl, ap, ◌∙◌, arith}
use Rattle.std.specs.Prelude.{IsTrue, not, ◌==◌}
use Rattle.std.specs.List.{list_all}
use Rattle.std.specs.Fmt.{decimal}
use Rattle.std.specs.Char.{digit_value}
use Rattle.std.specs.Str.Parse.{AllDigits}
use Rattle.std.proofs.lemmas.Bool.Decides.{nat_tests}
use Rattle.std.proofs.lemmas.Fmt.{decimal_is_IsNumeral}
use Rattle.fw_types.specs.Bytes.{is_name_byte}
use Rattle.fw_types.specs.Name.{is_name}
use Rattle.authsrv_lines.specs.ReplyReading.{to_space, field, behind, after_two_spaces}

abbrev pub is_other : ℕ → Bool
is_other b = not (b == 32)

-- no byte is a space
abbrev pub IsWord : List ℕ → Type 0
IsWord word = list_all is_other word ≡ true

pub both : (a b : Bool) → (a && b) ≡ true → (a ≡ true) × (b ≡ true)
both true b h = (refl, h)
both false b h = (h, absurd (cc))

both_are : (a b : Bool) → a ≡ true → b ≡ true → (a && b) ≡ true
both_are a b h k = rw (h, k) refl

one_more : (n : ℕ) → 1 + n ≡ suc n
one_more n = omega arith

pub field_is : (word rest : List ℕ) → IsWord word → field (word ++ 32 ∷ rest) ≡ word
field_is [] rest h = refl
field_is (b ∷ word) rest h =
    let p = both (is_other b) (list_all is_other word) h in
    rw (p.0, one_more (to_space (word ++ 32 ∷ rest))) (ap (λ w. b ∷ w) (field_is word rest p.1))

pub behind_is : (word rest : List ℕ) → IsWord word → behind (word ++ 32 ∷ rest) ≡ rest
behind_is [] rest h = refl
behind_is (b ∷ word) rest h =
    let p = both (is_other b) (list_all is_other word) h in
    rw (p.0, one_more (to_space (word ++ 32 ∷ rest))) (behind_is word rest p.1)

-- a word, another, and what follows them
abbrev pub piece : List ℕ → List ℕ → List ℕ → List ℕ
piece word key rest = word ++ 32 ∷ (key ++ 32 ∷ rest)

pub next_is : (word key rest : List ℕ) → IsWord word → IsWord key → after_two_spaces (piece word key rest) ≡ rest
unfolding after_two_spaces
next_is word key rest h k = ap behind (behind_is word (key ++ 32 ∷ rest) h) ∙ behind_is key rest k

-- ---- what has no space

digit_other : (d : ℕ) → digit_value d < 10 → is_other d ≡ true
digit_other d h = grind (arith, nat_tests)

digits_word : (ds : List ℕ) → AllDigits 10 ds → IsWord ds
digits_word [] h = refl
digits_word (d ∷ ds) h = both_are (is_other d) (list_all is_other ds) (digit_other d h.0) (digits_word ds h.1)

pub decimal_word : (n : ℕ) → n < 2 ^ 64 → IsWord (decimal n)
decimal_word n small = digits_word (decimal n) (decimal_is_IsNumeral n small).0.1

name_byte_other : (b : ℕ) → is_name_byte b ≡ true → is_other b ≡ true
name_byte_other b h = grind (arith, nat_tests)

name_bytes_word : (name : List ℕ) → list_all is_name_byte name ≡ true → IsWord name
name_bytes_word [] h = refl
name_bytes_word (b ∷ name) h =
    let p = both (is_name_byte b) (list_all is_name_byte name) h in
    both_are (is_other b) (list_all is_other name) (name_byte_other b p.0) (name_bytes_word name p.1)

pub name_word : (name : List ℕ) → IsTrue (is_name name) → IsWord name
name_word name h = name_bytes_word name (both _ _ (both _ _ h).0).1
