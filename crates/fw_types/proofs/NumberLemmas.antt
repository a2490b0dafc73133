-- The value of at most ten digits, digit by digit.
use Rattle.std.proofs.Common.{◌≡◌, ℕ, ◌+◌, ◌-◌, ◌*◌, ◌<◌, ◌≤◌, ◌^◌, Bool, true, false, ◌&&◌, List, [], ◌∷◌, length, take, get_or, refl, ap, ◌∙◌, arith, lit<}
use Rattle.std.specs.Prelude.{IsTrue, suc, zero}
use Rattle.std.specs.Char.{is_ascii_digit, digit_value}
use Rattle.std.specs.List.{list_all}
use Rattle.std.specs.Str.Parse.{AllDigits, digits_value}
use Rattle.std.proofs.lemmas.Bool.{leb-true}
use Rattle.std.proofs.lemmas.Bool.Decides.{nat_tests}
use Rattle.std.proofs.lemmas.Int.Digits.{digits_value_more}
use Rattle.std.proofs.lemmas.Str.Parse.{digits_value_short, digits_value-take-le, numerals_by_value, tells_digits}
use Rattle.fw_types.specs.Number.{is_number}

both : (a b : Bool) → (a && b) ≡ true → (a ≡ true) × (b ≡ true)
both true b h = (refl, h)
both false b h = (h, absurd (cc))

digit_small : (d : ℕ) → is_ascii_digit d ≡ true → digit_value d < 10
digit_small d h = grind (arith, nat_tests)

digit_is : (d : ℕ) → is_ascii_digit d ≡ true → digit_value d ≡ d - 48
digit_is d h = grind (arith, nat_tests)

all_digits : (ds : List ℕ) → list_all is_ascii_digit ds ≡ true → AllDigits 10 ds
all_digits [] h = tt
all_digits (d ∷ ds) h = let p = both (is_ascii_digit d) (list_all is_ascii_digit ds) h in (digit_small d p.0, all_digits ds p.1)

digit_at : (ds : List ℕ) (i : ℕ) → list_all is_ascii_digit ds ≡ true → i < length ds → is_ascii_digit (get_or ds i 0) ≡ true
digit_at [] i h lt = absurd (omega arith)
digit_at (d ∷ ds) zero h lt = (both (is_ascii_digit d) (list_all is_ascii_digit ds) h).0
digit_at (d ∷ ds) (suc i) h lt = digit_at ds i (both (is_ascii_digit d) (list_all is_ascii_digit ds) h).1 (omega arith)

-- what a number's text says, without its facts' order
pub record Digits (text : List ℕ) : Type 0 where
  pub few : length text ≤ 10
  pub are : list_all is_ascii_digit text ≡ true

pub digits_of : (text : List ℕ) → IsTrue (is_number text) → Digits text
digits_of text h =
    let p = both _ _ h in
    let q = both _ _ p.0 in
    record { few = leb-true (length text) 10 q.1; are = p.1 }

-- the digits up to a place are below ten billion
pub small_up_to : (text : List ℕ) (i : ℕ) → Digits text → digits_value 10 (take i text) < 10000000000
small_up_to text i digits =
    let all : digits_value 10 text < 10 ^ 10 = digits_value_short (numerals_by_value (AllDigits 10) tells_digits) text 10 (all_digits text digits.are) digits.few in
    let part = digits_value-take-le 10 text i (lit< tt) in
    omega arith

pub one_more : (text : List ℕ) (i : ℕ) → Digits text → i < length text → digits_value 10 (take (i + 1) text) ≡ digits_value 10 (take i text) * 10 + (get_or text i 0 - 48)
one_more text i digits lt = digits_value_more 10 text i lt ∙ ap (λ d. digits_value 10 (take i text) * 10 + d) (digit_is (get_or text i 0) (digit_at text i digits.are lt))
