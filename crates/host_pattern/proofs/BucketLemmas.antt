-- What stands before a body's first period, and which addresses the body can match.
use Rattle.std.proofs.Common.{◌≡◌, ℕ, zero, suc, ◌+◌, ◌%◌, ◌<◌, ◌≤◌, ◌^◌, Bool, true, false, ◌&&◌, List, [], ◌∷◌, ◌++◌, length, get_or, map, take, refl, sym, ◌∙◌, ap, arith, inl, inr, lit<}
use Rattle.std.specs.Prelude.{IsTrue, nat_lt, Option, Some, None}
use Rattle.std.specs.Char.{is_ascii_digit, digit_value}
use Rattle.std.specs.Fmt.{decimal}
use Rattle.std.specs.List.{list_all, list_any}
use Rattle.std.specs.Str.{bytes_eq}
use Rattle.std.specs.Str.Parse.{AllDigits, digits_value}
use Rattle.std.proofs.lemmas.Bool.{cases_lt, eq-eqb, eqb-true, le-leb, le-ltb, lt-ltb, ltb-true}
use Rattle.std.proofs.lemmas.Bool.Decides.{nat_tests}
use Rattle.std.proofs.lemmas.Fmt.{decimal-digits_value, decimal_by_steps, decimal_digit, decimal_nonempty, first_decimal, length-decimal-le}
use Rattle.std.proofs.lemmas.List.Folds.{list_all-append, list_any_at}
use Rattle.std.proofs.lemmas.List.{length-map, map-append, take_all, take_more}
use Rattle.std.proofs.lemmas.Str.Parse.{numerals_by_value, tells_digits}
use Rattle.std.proofs.lemmas.Option.{cond_some}
use Rattle.std.proofs.lemmas.Slice.Eq.{bytes_eq-Decides}
use Rattle.fw_types.specs.Number.{is_number, number_of}
use Rattle.fw_types.specs.Quad.{octet_of}
use Rattle.host_pattern.specs.declared.bucket.Bucket.{Bucket}
use Rattle.host_pattern.specs.declared.bucket.Bucket.TheVariants.{Octet, Every}
use Rattle.host_pattern.specs.Bucket.{bucket_of, buckets, is_every, is_padded}
use Rattle.host_pattern.specs.Pattern.{Written, body_of, read_as}

-- the bucket of a text at a place
bucket_read : (texts : List (List ℕ)) (at : ℕ) (t : List ℕ) → at < length texts → bucket_of (body_of (get_or texts at t)) ≡ get_or (buckets (map read_as texts)) at Every
bucket_read [] at t within = absurd (omega arith)
bucket_read (x ∷ texts) zero t within = refl
bucket_read (x ∷ texts) (suc at) t within = bucket_read texts at t (omega arith)

-- one text further: its pattern is of an octet
pub octets_further : (texts : List (List ℕ)) (i octet : ℕ) (t : List ℕ) (octets : List ℕ) → i < length texts → t ≡ get_or texts i t → bucket_of (body_of t) ≡ Octet octet
    → map Octet octets ≡ take i (buckets (map read_as texts)) → map Octet (octets ++ octet ∷ []) ≡ take (i + 1) (buckets (map read_as texts))
octets_further texts i octet t octets within is of before =
    let all : List Bucket = buckets (map read_as texts) in
    let here : get_or all i Every ≡ Octet octet = sym (bucket_read texts i t within) ∙ ap (λ x. bucket_of (body_of x)) (sym is) ∙ of in
    let long : i < length all = omega (arith, length-map (map read_as texts) (λ (p : Written). bucket_of p.body), length-map texts read_as) in
    map-append Octet octets (octet ∷ [])
    ∙ ap (λ bs. bs ++ Octet octet ∷ []) before
    ∙ ap (λ b. take i all ++ b ∷ []) (sym here)
    ∙ sym (take_more all i Every long)

-- its pattern belongs to every octet
pub every_at : (texts : List (List ℕ)) (i : ℕ) (t : List ℕ) → i < length texts → t ≡ get_or texts i t → bucket_of (body_of t) ≡ Every → IsTrue (list_any is_every (buckets (map read_as texts)))
every_at texts i t within is of =
    let all : List Bucket = buckets (map read_as texts) in
    let here : get_or all i Every ≡ Every = sym (bucket_read texts i t within) ∙ ap (λ x. bucket_of (body_of x)) (sym is) ∙ of in
    let long : i < length all = omega (arith, length-map (map read_as texts) (λ (p : Written). bucket_of p.body), length-map texts read_as) in
    list_any_at is_every all i Every long (ap is_every here)

pub octets_all : (texts : List (List ℕ)) (i : ℕ) (octets : List ℕ) → length texts ≤ i → map Octet octets ≡ take i (buckets (map read_as texts)) → map Octet octets ≡ buckets (map read_as texts)
octets_all texts i octets past is =
    is ∙ take_all i (buckets (map read_as texts)) (omega (arith, length-map (map read_as texts) (λ (p : Written). bucket_of p.body), length-map texts read_as))

-- a byte has at most three digits
octet_short : (n : ℕ) → n < 256 → length (decimal n) ≤ 3
octet_short n small = length-decimal-le 3 n (lit< tt) (omega arith) (omega arith)

digit_is : (n : ℕ) → n < 10 → is_ascii_digit (48 + n) ≡ true
digit_is n small = grind (arith, nat_tests)

pub all_digits : (n : ℕ) → n < 2 ^ 64 → list_all is_ascii_digit (decimal n) ≡ true
all_digits = decimal_by_steps (λ _ ds. list_all is_ascii_digit ds ≡ true)
    (λ n small. rw (digit_is n small) refl)
    (λ n ds large front. rw (list_all-append is_ascii_digit ds ((48 + n % 10) ∷ []), front, digit_is (n % 10) (omega arith)) refl)

-- a decimal of an octet is a number
decimal_is_number : (n : ℕ) → n < 256 → is_number (decimal n) ≡ true
decimal_is_number n small =
    let wide : n < 2 ^ 64 = omega arith in
    let some : 0 < length (decimal n) = decimal_nonempty n wide in
    let few : length (decimal n) ≤ 10 = omega (arith, octet_short n small) in
    rw (lt-ltb 0 (length (decimal n)) some, le-leb (length (decimal n)) 10 few, all_digits n wide) refl

both : (a b : Bool) → (a && b) ≡ true → (a ≡ true) × (b ≡ true)
both true b h = (refl, h)
both false b h = (h, absurd (cc))

-- where a text is no number, it is no octet
pub no_number : (text : List ℕ) → None ≡ number_of text → None ≡ octet_of text
no_number text h = sym (none_by (octet_of text) (λ n e. is n e))
  where
    none_by : (r : Option ℕ) → ((n : ℕ) → r ≡ Some n → ⊥) → r ≡ None
    none_by None h = refl
    none_by (Some n) h = absurd (h n refl)

    is : (n : ℕ) → octet_of text ≡ Some n → ⊥
    is n e =
        let v : ℕ = digits_value 10 text in
        let read = cond_some (nat_lt v 256 && bytes_eq text (decimal v)) v n e in
        let tests = both _ _ read.0 in
        let same : text ≡ decimal v = (bytes_eq-Decides text (decimal v)).0 tests.1 in
        let number : is_number text ≡ true = ap is_number same ∙ decimal_is_number v (ltb-true v 256 tests.0) in
        let clash = rw number at h in cc

-- a number's text without a zero before other digits is the number's decimal

digit_small : (d : ℕ) → is_ascii_digit d ≡ true → digit_value d < 10
digit_small d h = grind (arith, nat_tests)

are_digits : (ds : List ℕ) → list_all is_ascii_digit ds ≡ true → AllDigits 10 ds
are_digits [] h = tt
are_digits (d ∷ ds) h = let p = both (is_ascii_digit d) (list_all is_ascii_digit ds) h in (digit_small d p.0, are_digits ds p.1)

record Numbered (text : List ℕ) (n : ℕ) : Type 0 where
  some : 0 < length text
  are : list_all is_ascii_digit text ≡ true
  value : digits_value 10 text ≡ n

numbered : (text : List ℕ) (n : ℕ) → number_of text ≡ Some n → Numbered text n
numbered text n h =
    let read = cond_some (is_number text) (digits_value 10 text) n h in
    let p = both _ _ read.0 in
    let q = both _ _ p.0 in
    record { some = ltb-true 0 (length text) q.0; are = p.1; value = read.1 }

pub too_large : (text : List ℕ) (n : ℕ) → number_of text ≡ Some n → 255 < n → None ≡ octet_of text
too_large text n h large =
    let is = numbered text n h in
    let over : nat_lt (digits_value 10 text) 256 ≡ false = le-ltb (digits_value 10 text) 256 (omega (arith, is.value)) in
    rw over refl

pub unpadded : (text : List ℕ) (n : ℕ) → number_of text ≡ Some n → n ≤ 255 → is_padded text ≡ false → Some n ≡ octet_of text
unpadded text n h small plain =
    let is = numbered text n h in
    let v : ℕ = digits_value 10 text in
    let alone : get_or text 0 0 ≡ 48 → length text ≡ 1 = λ zero_first. elim (cases_lt 1 (length text)) [
      | inl long ↦ absurd (let clash = rw (lt-ltb 1 (length text) long, eq-eqb (get_or text 0 0) 48 zero_first) at plain in (cc))
      | inr short ↦ omega (arith, is.some)
    ] in
    let below : v < 256 = omega (arith, is.value) in
    let wide : v < 2 ^ 64 = omega arith in
    let same : decimal v ≡ text = decimal-digits_value (numerals_by_value (AllDigits 10) tells_digits) text (are_digits text is.are) is.some alone wide in
    let equal : bytes_eq text (decimal v) ≡ true = (bytes_eq-Decides text (decimal v)).1 (sym same) in
    rw (lt-ltb v 256 below, equal) (ap Some (sym is.value))

pub padded : (text : List ℕ) → is_padded text ≡ true → None ≡ octet_of text
padded text h = sym (none_by (octet_of text) (λ m e. is m e))
  where
    none_by : (r : Option ℕ) → ((m : ℕ) → r ≡ Some m → ⊥) → r ≡ None
    none_by None e = refl
    none_by (Some m) e = absurd (e m refl)

    is : (m : ℕ) → octet_of text ≡ Some m → ⊥
    is m e =
        let v : ℕ = digits_value 10 text in
        let read = cond_some (nat_lt v 256 && bytes_eq text (decimal v)) v m e in
        let tests = both _ _ read.0 in
        let below : v < 256 = ltb-true v 256 tests.0 in
        let same : text ≡ decimal v = (bytes_eq-Decides text (decimal v)).0 tests.1 in
        let parts = both _ _ h in
        let long : 1 < length text = ltb-true 1 (length text) parts.0 in
        let zero_first : get_or text 0 0 ≡ 48 = eqb-true (get_or text 0 0) 48 parts.1 in
        elim (cases_lt 0 v) [
          | inl some ↦ (
              let first : 48 < get_or (decimal v) 0 0 = first_decimal v some (omega arith) in
              let there : get_or (decimal v) 0 0 ≡ 48 = ap (λ ds. get_or ds 0 0) (sym same) ∙ zero_first in
              omega arith)
          | inr none ↦ (
              let nought : v ≡ 0 = omega arith in
              let short : length text ≡ 1 = ap length (same ∙ ap decimal nought ∙ decimal_digit 0 (lit< tt)) in
              omega arith)
        ]
