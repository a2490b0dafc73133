-- Six numbers of 11 bits, and the 66 bits that they are.
use Rattle.std.proofs.Common.{◌≡◌, ℕ, suc, ◌+◌, ◌*◌, ◌/◌, ◌%◌, ◌<◌, ◌^◌, Bool, true, false, cond, nat_eq, List, [], ◌∷◌, ◌++◌, length, refl, sym, ap, ◌∙◌, arith}
use Rattle.std.specs.Prelude.{sum, fold, All, Some, None}
use Rattle.std.proofs.lemmas.Bool.{eqb-true, eq-eqb}
use Rattle.std.proofs.lemmas.List.Elements.{All-cons}
use Rattle.otp_words.specs.SixWords.{bits_of, check_of, digits, password_of, six}

fold_push : (a : ℕ) (xs : List ℕ) (y : ℕ) → fold (λ a x. a + x) a (xs ++ y ∷ []) ≡ fold (λ a x. a + x) a xs + y
fold_push a [] y = refl
fold_push a (x ∷ xs) y = fold_push (a + x) xs y

-- one digit more
pub digits_sum : (n k rest : ℕ) → n ≡ suc k → sum (digits 4 n rest) ≡ sum (digits 4 k (rest / 4)) + rest % 4
unfolding digits
digits_sum n k rest is = rw is (fold_push 0 (digits 4 k (rest / 4)) (rest % 4))

pub no_digits : (n rest : ℕ) → n ≡ 0 → sum (digits 4 n rest) ≡ 0
unfolding digits
no_digits n rest is = rw is refl

pub check_small : (password : ℕ) → check_of password < 4
unfolding check_of
check_small password = omega arith

pub check_is : (password total : ℕ) → total ≡ sum (digits 4 32 password) → total % 4 ≡ check_of password
unfolding check_of
check_is password total is = rw is refl

-- the six digits of 66 bits
pub six_digits : (n : ℕ) → digits 2048 6 n ≡ (n / 2048 / 2048 / 2048 / 2048 / 2048 % 2048) ∷ (n / 2048 / 2048 / 2048 / 2048 % 2048) ∷ (n / 2048 / 2048 / 2048 % 2048) ∷ (n / 2048 / 2048 % 2048) ∷ (n / 2048 % 2048) ∷ (n % 2048) ∷ []
unfolding digits
six_digits n = refl

front_bits : (x c : ℕ) → c < 4 → (4 * x + c) / 2048 ≡ x / 512
front_bits x c small = omega arith

last_bits : (x c : ℕ) → c < 4 → (4 * x + c) % 2048 ≡ 4 * (x % 512) + c
last_bits x c small = omega arith

top_small : (x : ℕ) → x < 2 ^ 64 → x / 512 / 2048 / 2048 / 2048 / 2048 % 2048 ≡ x / 512 / 2048 / 2048 / 2048 / 2048
top_small x small = omega arith

pub six_is : (x c : ℕ) → x < 2 ^ 64 → c ≡ check_of x → (x / 512 / 2048 / 2048 / 2048 / 2048) ∷ (x / 512 / 2048 / 2048 / 2048 % 2048) ∷ (x / 512 / 2048 / 2048 % 2048) ∷ (x / 512 / 2048 % 2048) ∷ (x / 512 % 2048) ∷ (4 * (x % 512) + c) ∷ [] ≡ six x
unfolding six
six_is x c small is =
    let few = check_small x in
    let low : c < 4 = omega (arith, is, few) in
    sym (rw (← is, six_digits (4 * x + c), front_bits x c low, last_bits x c low, top_small x small) refl)

-- each of them has 11 bits
pub six_small : (a b c d e f : ℕ) → a < 2048 → b < 2048 → c < 2048 → d < 2048 → e < 2048 → f < 2048 → All (λ n. n < 2048) (a ∷ b ∷ c ∷ d ∷ e ∷ f ∷ [])
six_small a b c d e f ha hb hc hd he hf =
    let P : ℕ → Type 0 = λ n. n < 2048 in
    let none : All P [] = λ k d lt. absurd (omega arith) in
    All-cons P a (b ∷ c ∷ d ∷ e ∷ f ∷ []) ha (All-cons P b (c ∷ d ∷ e ∷ f ∷ []) hb (All-cons P c (d ∷ e ∷ f ∷ []) hc (All-cons P d (e ∷ f ∷ []) hd (All-cons P e (f ∷ []) he (All-cons P f [] hf none)))))

-- the bits of six numbers
pub bits_are : (a b c d e f : ℕ) → bits_of (a ∷ b ∷ c ∷ d ∷ e ∷ f ∷ []) ≡ 2048 * (2048 * (2048 * (2048 * (2048 * a + b) + c) + d) + e) + f
bits_are a b c d e f = omega arith

-- the password of six numbers, where its check bits follow it
pub password_when : (a b c d e f v : ℕ) → v ≡ check_of (512 * (2048 * (2048 * (2048 * (2048 * a + b) + c) + d) + e) + f / 4)
    → password_of (a ∷ b ∷ c ∷ d ∷ e ∷ f ∷ []) ≡ cond (nat_eq (f % 4) v) (Some (512 * (2048 * (2048 * (2048 * (2048 * a + b) + c) + d) + e) + f / 4)) None
unfolding password_of
password_when a b c d e f v is =
    let whole = bits_are a b c d e f in
    let front : bits_of (a ∷ b ∷ c ∷ d ∷ e ∷ f ∷ []) / 4 ≡ 512 * (2048 * (2048 * (2048 * (2048 * a + b) + c) + d) + e) + f / 4 = omega (arith, whole) in
    let last : bits_of (a ∷ b ∷ c ∷ d ∷ e ∷ f ∷ []) % 4 ≡ f % 4 = omega (arith, whole) in
    rw (last, front, ← is) refl

-- ---- both ways

digits_back : (n : ℕ) → n < 2 ^ 66 → bits_of (digits 2048 6 n) ≡ n
digits_back n small = rw (six_digits n) (omega arith)

step_div : (q r : ℕ) → r < 2048 → (2048 * q + r) / 2048 ≡ q
step_div q r small = omega arith

step_mod : (q r : ℕ) → r < 2048 → (2048 * q + r) % 2048 ≡ r
step_mod q r small = omega arith

small_mod : (a : ℕ) → a < 2048 → a % 2048 ≡ a
small_mod a small = omega arith

digits_of_bits : (a b c d e f : ℕ) → a < 2048 → b < 2048 → c < 2048 → d < 2048 → e < 2048 → f < 2048
    → digits 2048 6 (2048 * (2048 * (2048 * (2048 * (2048 * a + b) + c) + d) + e) + f) ≡ a ∷ b ∷ c ∷ d ∷ e ∷ f ∷ []
digits_of_bits a b c d e f ha hb hc hd he hf =
    rw (six_digits (2048 * (2048 * (2048 * (2048 * (2048 * a + b) + c) + d) + e) + f))
    (rw (
      step_div (2048 * (2048 * (2048 * (2048 * a + b) + c) + d) + e) f hf,
      step_mod (2048 * (2048 * (2048 * (2048 * a + b) + c) + d) + e) f hf,
      step_div (2048 * (2048 * (2048 * a + b) + c) + d) e he,
      step_mod (2048 * (2048 * (2048 * a + b) + c) + d) e he,
      step_div (2048 * (2048 * a + b) + c) d hd,
      step_mod (2048 * (2048 * a + b) + c) d hd,
      step_div (2048 * a + b) c hc,
      step_mod (2048 * a + b) c hc,
      step_div a b hb,
      step_mod a b hb,
      small_mod a ha,
    ) refl)

and_back : (bits x c : ℕ) → bits ≡ 4 * x + c → c < 4 → (bits / 4 ≡ x) × (bits % 4 ≡ c)
and_back bits x c is small = (omega (arith, is), omega (arith, is))

-- the six numbers of a password are those of no other, and of it
pub back_from_six : (x : ℕ) → x < 2 ^ 64 → password_of (six x) ≡ Some x
unfolding password_of six
back_from_six x small =
    let few = check_small x in
    let bits : bits_of (six x) ≡ 4 * x + check_of x = digits_back (4 * x + check_of x) (omega (arith, few)) in
    let parts = and_back (bits_of (six x)) x (check_of x) bits few in
    rw (parts.0, parts.1, eq-eqb (check_of x) (check_of x) refl) refl

some_by : (v : Bool) (n x : ℕ) → cond v (Some n) None ≡ Some x → (v ≡ true) × (n ≡ x)
some_by true n x h = (refl, cc)
some_by false n x h = absurd (cc)

six_of_bits : (n x : ℕ) → (n % 4 ≡ check_of x) → (n / 4 ≡ x) → six x ≡ digits 2048 6 n
unfolding six
six_of_bits n x low high =
    let whole : 4 * x + check_of x ≡ n = omega (arith, low, high) in
    ap (digits 2048 6) whole

pub six_from_numbers : (a b c d e f x : ℕ) → a < 2048 → b < 2048 → c < 2048 → d < 2048 → e < 2048 → f < 2048
    → password_of (a ∷ b ∷ c ∷ d ∷ e ∷ f ∷ []) ≡ Some x → (x < 2 ^ 64) × (a ∷ b ∷ c ∷ d ∷ e ∷ f ∷ [] ≡ six x)
unfolding password_of
six_from_numbers a b c d e f x ha hb hc hd he hf is =
    let n = bits_of (a ∷ b ∷ c ∷ d ∷ e ∷ f ∷ []) in
    let whole = bits_are a b c d e f in
    let parts = some_by (nat_eq (n % 4) (check_of (n / 4))) (n / 4) x is in
    let low : n % 4 ≡ check_of x = eqb-true (n % 4) (check_of (n / 4)) parts.0 ∙ ap check_of parts.1 in
    let small : x < 2 ^ 64 = omega (arith, whole, parts.1) in
    (small, sym (six_of_bits n x low parts.1 ∙ ap (digits 2048 6) whole ∙ digits_of_bits a b c d e f ha hb hc hd he hf))

pub six_length : (x : ℕ) → length (six x) ≡ 6
unfolding six digits
six_length x = refl
