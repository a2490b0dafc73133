-- A number is read from its decimal, and from no other text.
use Rattle.std.proofs.Common.{◌≡◌, ℕ, ◌<◌, ◌≤◌, ◌^◌, Bool, true, false, ◌&&◌, List, refl, sym, ap, ◌∙◌, arith}
use Rattle.std.specs.Prelude.{nat_le, Option, Some, None, Result, Ok}
use Rattle.std.specs.Fmt.{decimal}
use Rattle.std.specs.Str.{bytes_eq, IsUtf8}
use Rattle.std.specs.Str.Parse.{AllDigits, digits_value, ParsesUnsigned}
use Rattle.std.proofs.lemmas.Bool.{leb-true, le-leb}
use Rattle.std.proofs.lemmas.Fmt.{decimal_is_IsNumeral, IsAscii-from_digits}
use Rattle.std.proofs.lemmas.Str.{IsUtf8-from_ascii}
use Rattle.std.proofs.lemmas.Str.Parse.{numerals_by_value, parse_gives, tells_digits}
use Rattle.std.proofs.lemmas.Slice.Eq.{bytes_eq-Decides}
use Rattle.authsrv_lines.specs.Number.{checked, if_decimal, number_up_to}

both : (a b : Bool) → (a && b) ≡ true → (a ≡ true) × (b ≡ true)
both true b h = (refl, h)
both false b h = (h, absurd (cc))

-- what the test says where it passes
record Fits (most : ℕ) (text : List ℕ) (n : ℕ) : Type 0 where
  small : n ≤ most
  is : text ≡ decimal n

fits : (most : ℕ) (text : List ℕ) (n : ℕ) → (nat_le n most && bytes_eq text (decimal n)) ≡ true → Fits most text n
fits most text n h =
    let tests = both _ _ h in
    record { small = leb-true n most tests.0; is = (bytes_eq-Decides text (decimal n)).0 tests.1 }

-- a decimal is that of one number
value_of : (most : ℕ) (text : List ℕ) (n : ℕ) → most < 2 ^ 64 → Fits most text n → digits_value 10 text ≡ n
value_of most text n wide f = ap (digits_value 10) f.is ∙ (decimal_is_IsNumeral n (omega (arith, f.small))).1

pub decimal_read : (most n : ℕ) → most < 2 ^ 64 → n ≤ most → number_up_to most (decimal n) ≡ Some n
unfolding number_up_to
decimal_read most n wide small =
    let value = (decimal_is_IsNumeral n (omega arith)).1 in
    let below = le-leb n most small in
    let same = (bytes_eq-Decides (decimal n) (decimal n)).1 refl in
    rw (value, below, same) refl

none_by : (most : ℕ) (text : List ℕ) (v : Bool) → most < 2 ^ 64 → (nat_le (digits_value 10 text) most && bytes_eq text (decimal (digits_value 10 text))) ≡ false → (n : ℕ) → (nat_le n most && bytes_eq text (decimal n)) ≡ v → if_decimal most text n ≡ None
none_by most text false wide not n h = rw h refl
none_by most text true wide not n h =
    let same = value_of most text n wide (fits most text n h) in
    absurd (let clash : true ≡ false = sym h ∙ rw same at not in cc)

-- whatever reads each decimal as its number reads right once its number's decimal is compared with the text
pub number_is : (most : ℕ) (text : List ℕ) (r : Option ℕ) → most < 2 ^ 64 → ((n : ℕ) → n < 2 ^ 64 → text ≡ decimal n → r ≡ Some n) → checked most text r ≡ number_up_to most text
unfolding number_up_to
number_is most text r wide reads = by (nat_le (digits_value 10 text) most && bytes_eq text (decimal (digits_value 10 text))) refl r reads
  where
    other : (nat_le (digits_value 10 text) most && bytes_eq text (decimal (digits_value 10 text))) ≡ false → (r : Option ℕ) → checked most text r ≡ None
    other h None = refl
    other h (Some n) = none_by most text _ wide h n refl

    by : (v : Bool) → (nat_le (digits_value 10 text) most && bytes_eq text (decimal (digits_value 10 text))) ≡ v → (r : Option ℕ) → ((n : ℕ) → n < 2 ^ 64 → text ≡ decimal n → r ≡ Some n) → checked most text r ≡ if_decimal most text (digits_value 10 text)
    by true h r reads =
        let f = fits most text (digits_value 10 text) h in
        ap (checked most text) (reads (digits_value 10 text) (omega (arith, f.small)) f.is)
    by false h r reads = other h r ∙ rw h refl

-- what `parse` makes of a decimal
pub parsed : {E : Type 0} (text : List ℕ) (n : ℕ) (r : Result ℕ E) → ParsesUnsigned 64 10 text r → n < 2 ^ 64 → text ≡ decimal n → r ≡ Ok n
parsed text n r h small is =
    let own = numerals_by_value (AllDigits 10) tells_digits in
    let spelled = decimal_is_IsNumeral n small in
    let there : ParsesUnsigned 64 10 (decimal n) r = rw is at h in
    let below : digits_value 10 (decimal n) < 2 ^ 64 = rw (spelled.1) small in
    parse_gives own 64 (decimal n) r there spelled.0.1 spelled.0.0 below ∙ ap Ok spelled.1

pub decimal_is_text : (text : List ℕ) (n : ℕ) → n < 2 ^ 64 → text ≡ decimal n → IsUtf8 text
decimal_is_text text n small is =
    let ascii = IsAscii-from_digits (decimal n) (decimal_is_IsNumeral n small).0.1 in
    rw is (IsUtf8-from_ascii (decimal n) ascii)
