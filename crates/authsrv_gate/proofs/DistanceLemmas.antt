-- Names that follow one another come nearer to the last.
use Rattle.std.proofs.Common.{arith, ◌≡◌, refl, sym, subst, ℕ, zero, suc, ◌+◌, ◌<◌, ◌≤◌, Bool, true, false, nat_lt, List, [], ◌∷◌, length, Ordering, Equal, Greater, is_lt, nat_cmp}
use mathlib.Core.Bool.{true≢false}
use Rattle.std.specs.Cmp.Lexicographic.{slice_cmp}
use Rattle.std.specs.List.{AllByRecursion}
use Rattle.std.specs.Cmp.{nat_cmp_is}
use Rattle.std.specs.Ordering.{ordering_then}
use Rattle.std.proofs.lemmas.Bool.{ltb-true, ltb-false}
use Rattle.authsrv_gate.specs.Distance.{rank, times, wide}

pub clash : {A : Type 0} → false ≡ true → A
clash h = absurd (true≢false (sym h))

-- ---- products

pub step_times : (x y w : ℕ) → x < y → times x w + w ≤ times y w
unfolding times
step_times x zero w h = absurd (omega (arith, h))
step_times x (suc y) w h = choose (nat_lt x y) refl (λ less. step_times x y w less)
  where
    choose : (b : Bool) → nat_lt x y ≡ b → (x < y → times x w + w ≤ times y w) → times x w + w ≤ w + times y w
    choose true less rest = let most : times x w + w ≤ times y w = rest (ltb-true x y less) in omega (arith, most)
    choose false past rest =
        let least : y ≤ x = ltb-false x y past in
        let same : x ≡ y = omega (arith, h, least) in
        rw same (omega (arith))

pub positive : (n : ℕ) → 0 < wide n
unfolding wide
positive zero = omega (arith)
positive (suc n) =
    let one : times 0 (wide n) + wide n ≤ times 257 (wide n) = step_times 0 257 (wide n) (omega (arith)) in
    let some : 0 < wide n = positive n in
    omega (arith, one, some)

-- ---- ranks

pub below : (n : ℕ) (text : List ℕ) → AllByRecursion (λ b. b < 256) text → rank n text < wide n
unfolding rank wide
below zero text bytes = omega (arith)
below (suc n) [] bytes = positive (suc n)
below (suc n) (b ∷ text) bytes =
    let first : times b (wide n) + wide n ≤ times 256 (wide n) = step_times b 256 (wide n) bytes.0 in
    let last : times 256 (wide n) + wide n ≤ times 257 (wide n) = step_times 256 257 (wide n) (omega (arith)) in
    let rest : rank n text < wide n = below n text bytes.1 in
    omega (arith, first, last, rest)

less_only : {A : Type 0} (o more : Ordering) → o ≡ Greater → is_lt (ordering_then o more) ≡ true → A
less_only o more is h = clash (subst (λ (z : Ordering). is_lt (ordering_then z more) ≡ true) is h)

more_only : (o more : Ordering) → o ≡ Equal → is_lt (ordering_then o more) ≡ true → is_lt more ≡ true
more_only o more is h = subst (λ (z : Ordering). is_lt (ordering_then z more) ≡ true) is h

-- a text that comes before another one has the lower rank
pub rises : (n : ℕ) (a b : List ℕ) → AllByRecursion (λ x. x < 256) a → length b ≤ n → is_lt (slice_cmp nat_cmp a b) ≡ true → rank n a < rank n b
unfolding rank
rises zero [] [] bytes fits before = clash before
rises zero (x ∷ a) [] bytes fits before = clash before
rises zero a (y ∷ b) bytes fits before = absurd (omega (arith, fits))
rises (suc n) [] [] bytes fits before = clash before
rises (suc n) (x ∷ a) [] bytes fits before = clash before
rises (suc n) [] (y ∷ b) bytes fits before = let some : 0 < wide n = positive n in omega (arith, some)
rises (suc n) (x ∷ a) (y ∷ b) bytes fits before = choose (nat_lt x y) refl (λ before_rest. rises n a b bytes.1 (omega (arith, fits)) before_rest)
  where
    others : (c : Bool) → nat_lt y x ≡ c → nat_lt x y ≡ false → (is_lt (slice_cmp nat_cmp a b) ≡ true → rank n a < rank n b) → wide n + times x (wide n) + rank n a < wide n + times y (wide n) + rank n b
    others true greater past further = less_only (nat_cmp x y) (slice_cmp nat_cmp a b) (sym (nat_cmp_is x y Greater (ltb-true y x greater))) before
    others false most past further =
        let least : y ≤ x = ltb-false x y past in
        let less : x ≤ y = ltb-false y x most in
        let same : x ≡ y = omega (arith, least, less) in
        let rest : rank n a < rank n b = further
        (more_only (nat_cmp x y) (slice_cmp nat_cmp a b) (sym (nat_cmp_is x y Equal same)) before) in
        rw same (omega (arith, rest))

    choose : (c : Bool) → nat_lt x y ≡ c → (is_lt (slice_cmp nat_cmp a b) ≡ true → rank n a < rank n b) → wide n + times x (wide n) + rank n a < wide n + times y (wide n) + rank n b
    choose true less further =
        let more : times x (wide n) + wide n ≤ times y (wide n) = step_times x y (wide n) (ltb-true x y less) in
        let rest : rank n a < wide n = below n a bytes.1 in
        omega (arith, more, rest)
    choose false past further = others (nat_lt y x) refl past further
