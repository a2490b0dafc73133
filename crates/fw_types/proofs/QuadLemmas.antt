-- A text is a dotted quad exactly where its parts between periods are the decimals of four bytes.
use Rattle.std.proofs.Common.{◌≡◌, ℕ, ◌+◌, ◌%◌, ◌<◌, ◌≤◌, ◌^◌, Bool, true, false, ◌&&◌, List, [], ◌∷◌, ◌++◌, length, refl, sym, ◌∙◌, ap, subst, arith, lit<, append_assoc}
use Rattle.std.specs.Prelude.{nat_lt, ◌==◌, Option, Some, None}
use Rattle.std.specs.List.{join_with_byte, slice_split, All}
use Rattle.std.specs.Fmt.{decimal}
use Rattle.std.specs.Str.{bytes_eq}
use Rattle.std.specs.Str.Parse.{digits_value}
use Rattle.std.specs.Net.Text.{dotted_text}
use Rattle.std.specs.Net.Grammar.{IsDotted}
use Rattle.std.proofs.lemmas.Bool.{ltb-true, lt-ltb}
use Rattle.std.proofs.lemmas.Bool.Decides.{nat_tests}
use Rattle.std.proofs.lemmas.Fmt.{decimal_is_IsNumeral, decimal_by_steps, length-decimal-le}
use Rattle.std.proofs.lemmas.List.Elements.{All-push, All-cons, All-nil}
use Rattle.std.proofs.lemmas.List.Splits.{slice_split_at, slice_split_none, join_with_byte-slice_split}
use Rattle.std.proofs.lemmas.Option.{cond_some}
use Rattle.std.proofs.lemmas.Slice.Eq.{bytes_eq-Decides}
use Rattle.fw_types.specs.Quad.{dotted, octet_of, four_of, four_octets, quad_of}

-- a byte has at most three digits
pub octet_short : (n : ℕ) → n < 256 → length (decimal n) ≤ 3
octet_short n small = length-decimal-le 3 n (lit< tt) (omega arith) (omega arith)

pub dotted_joined : (a b c d : ℕ) → dotted_text a b c d ≡ dotted (a ∷ b ∷ c ∷ d ∷ [])
dotted_joined a b c d = simp append_assoc

-- a digit is no period
digit_no_dot : (n : ℕ) → ((48 + n) == 46) ≡ false
digit_no_dot n = grind (arith, nat_tests)

no_dot : (n : ℕ) → n < 2 ^ 64 → All (λ b. (b == 46) ≡ false) (decimal n)
no_dot = decimal_by_steps (λ _ ds. All (λ b. (b == 46) ≡ false) ds)
    (λ n small. All-cons (λ b. (b == 46) ≡ false) (48 + n) [] (digit_no_dot n) (All-nil (λ b. (b == 46) ≡ false)))
    (λ n ds large front. All-push (λ b. (b == 46) ≡ false) ds (48 + n % 10) front (digit_no_dot (n % 10)))

-- the decimal of a byte is read as that byte
octet_of-decimal : (n : ℕ) → n < 256 → octet_of (decimal n) ≡ Some n
octet_of-decimal n small =
    let wide : n < 2 ^ 64 = omega arith in
    let value = (decimal_is_IsNumeral n wide).1 in
    let below = lt-ltb n 256 small in
    let same = (bytes_eq-Decides (decimal n) (decimal n)).1 refl in
    rw (value, below, same) refl

both : (a b : Bool) → (a && b) ≡ true → (a ≡ true) × (b ≡ true)
both true b h = (refl, h)
both false b h = (h, absurd (cc))

-- what is read as a byte is its decimal
octet_is : (t : List ℕ) (n : ℕ) → octet_of t ≡ Some n → (n < 256) × (t ≡ decimal n)
octet_is t n h =
    let read = cond_some (nat_lt (digits_value 10 t) 256 && bytes_eq t (decimal (digits_value 10 t))) (digits_value 10 t) n h in
    let tests = both _ _ read.0 in
    let below : digits_value 10 t < 256 = ltb-true (digits_value 10 t) 256 tests.0 in
    let same : t ≡ decimal (digits_value 10 t) = (bytes_eq-Decides t (decimal (digits_value 10 t))).0 tests.1 in
    (rw (sym read.1) below, same ∙ ap decimal read.1)

-- the text of an address is read as that address
pub quad_of-dotted : (a b c d : ℕ) → a < 256 → b < 256 → c < 256 → d < 256 → quad_of (dotted (a ∷ b ∷ c ∷ d ∷ [])) ≡ Some (a ∷ b ∷ c ∷ d ∷ [])
quad_of-dotted a b c d sa sb sc sd =
    let p : ℕ → Bool = λ x. x == 46 in
    let first = slice_split_at p (decimal a) 46 (decimal b ++ 46 ∷ (decimal c ++ 46 ∷ decimal d)) (no_dot a (omega arith)) refl in
    let second = slice_split_at p (decimal b) 46 (decimal c ++ 46 ∷ decimal d) (no_dot b (omega arith)) refl in
    let third = slice_split_at p (decimal c) 46 (decimal d) (no_dot c (omega arith)) refl in
    let fourth = slice_split_none p (decimal d) (no_dot d (omega arith)) in
    rw (first, second, third, fourth, octet_of-decimal a sa, octet_of-decimal b sb, octet_of-decimal c sc, octet_of-decimal d sd) refl

-- the four numbers of an address
record Four (x y z w : Option ℕ) (addr : List ℕ) : Type 0 where
  a : ℕ
  b : ℕ
  c : ℕ
  d : ℕ
  first : x ≡ Some a
  second : y ≡ Some b
  third : z ≡ Some c
  fourth : w ≡ Some d
  is : a ∷ b ∷ c ∷ d ∷ [] ≡ addr

none_is_none : {P : Type 0} (addr : List ℕ) → None ≡ Some addr → P
none_is_none addr h = cc

some_is : (x y : List ℕ) → Some x ≡ Some y → x ≡ y
some_is x y h = cc

four_are : (x y z w : Option ℕ) (addr : List ℕ) → four_of x y z w ≡ Some addr → Four x y z w addr
four_are (Some a) (Some b) (Some c) (Some d) addr h = record { a = a; b = b; c = c; d = d; first = refl; second = refl; third = refl; fourth = refl; is = some_is _ _ h }
four_are None y z w addr h = none_is_none addr h
four_are (Some a) None z w addr h = none_is_none addr h
four_are (Some a) (Some b) None w addr h = none_is_none addr h
four_are (Some a) (Some b) (Some c) None addr h = none_is_none addr h

spelled : (x y z w : List ℕ) (addr : List ℕ) → Four (octet_of x) (octet_of y) (octet_of z) (octet_of w) addr → IsDotted (join_with_byte 46 (x ∷ y ∷ z ∷ w ∷ [])) addr
spelled x y z w addr four =
    let first = octet_is x four.a four.first in
    let second = octet_is y four.b four.second in
    let third = octet_is z four.c four.third in
    let fourth = octet_is w four.d four.fourth in
    record {
      a = four.a;
      b = four.b;
      c = four.c;
      d = four.d;
      fit = (first.0, second.0, third.0, fourth.0);
      value = sym four.is;
      spelled = rw (first.1, second.1, third.1, fourth.1) (sym (dotted_joined four.a four.b four.c four.d));
    }

parts_spell : (parts : List (List ℕ)) (addr : List ℕ) → four_octets parts ≡ Some addr → IsDotted (join_with_byte 46 parts) addr
parts_spell (x ∷ y ∷ z ∷ w ∷ []) addr h = spelled x y z w addr (four_are _ _ _ _ addr h)
parts_spell [] addr h = none_is_none addr h
parts_spell (x ∷ []) addr h = none_is_none addr h
parts_spell (x ∷ y ∷ []) addr h = none_is_none addr h
parts_spell (x ∷ y ∷ z ∷ []) addr h = none_is_none addr h
parts_spell (x ∷ y ∷ z ∷ w ∷ v ∷ more) addr h = none_is_none addr h

-- what is read as an address is its text
pub quad_is : (t addr : List ℕ) → quad_of t ≡ Some addr → IsDotted t addr
quad_is t addr h =
    let P : List ℕ → Type 0 = λ text. IsDotted text addr in
    subst P (join_with_byte-slice_split 46 t) (parts_spell (slice_split (λ b. b == 46) t) addr h)

pub quad_of-IsDotted : (t addr : List ℕ) → IsDotted t addr → quad_of t ≡ Some addr
quad_of-IsDotted t addr h =
    rw (h.spelled, dotted_joined h.a h.b h.c h.d, h.value) (quad_of-dotted h.a h.b h.c h.d h.fit.0 h.fit.1 h.fit.2 h.fit.3)

-- where no address is written so, none is read
pub quad_of-none : (t : List ℕ) → ((addr : List ℕ) → ¬ (IsDotted t addr)) → quad_of t ≡ None
quad_of-none t none = none_by (quad_of t) (λ addr h. none addr (quad_is t addr h))
  where
    none_by : (r : Option (List ℕ)) → ((addr : List ℕ) → r ≡ Some addr → ⊥) → r ≡ None
    none_by None h = refl
    none_by (Some addr) h = absurd (h addr refl)
