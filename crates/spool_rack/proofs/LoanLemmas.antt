-- Finding a loan, and striking it out.
use Rattle.std.proofs.Common.{◌≡◌, ℕ, suc, ◌+◌, ◌<◌, Bool, true, false, cond, not, nat_eq, nat_lt, List, [], ◌∷◌, length, map, Some, None, refl, ap, subst, arith, ◌⊎◌, inl, inr}
use Rattle.std.specs.List.{prefix_len, position, remove}
use Rattle.std.proofs.lemmas.List.{length-map}
use Rattle.std.proofs.lemmas.Bool.Decides.{nat_tests}
use Rattle.spool_rack.specs.Store.{Loan, IsOut, OfLoan, loan_of, struck}
use Rattle.spool_rack.specs.Room.{loan_view}
use Rattle.spool_rack.specs.declared.loans.Lent.{Lent}

pub length_lent : (lent : List Lent) → length (map loan_view lent) ≡ length lent
length_lent lent = length-map lent loan_view

abbrev others : ℕ → Lent → Bool
others n l = not (nat_eq l.number n)

either : (b : Bool) → (b ≡ true) ⊎ (b ≡ false)
either true = inl refl
either false = inr refl

-- without the first of this number
struck_first : (n : ℕ) (l : Lent) (lent : List Lent) → nat_eq l.number n ≡ true
    → map loan_view (remove (l ∷ lent) (prefix_len (others n) (l ∷ lent))) ≡ struck n (map loan_view (l ∷ lent))
struck_first n l lent e = rw e refl

one_more : (n : ℕ) → 1 + n ≡ suc n
one_more n = omega arith

struck_later : (n : ℕ) (l : Lent) (lent : List Lent) → nat_eq l.number n ≡ false
    → map loan_view (remove lent (prefix_len (others n) lent)) ≡ struck n (map loan_view lent)
    → map loan_view (remove (l ∷ lent) (prefix_len (others n) (l ∷ lent))) ≡ struck n (map loan_view (l ∷ lent))
struck_later n l lent e is = rw (e, one_more (prefix_len (others n) lent)) (ap (λ (x : List Loan). loan_view l ∷ x) is)

first_less : (n : ℕ) (l : Lent) (lent : List Lent) → nat_eq l.number n ≡ false
    → prefix_len (others n) (l ∷ lent) < length (l ∷ lent) → prefix_len (others n) lent < length lent
first_less n l lent e lt =
    let is : prefix_len (others n) (l ∷ lent) ≡ 1 + prefix_len (others n) lent = rw e refl in
    omega (arith, lt, is)

struck_at : (n : ℕ) (lent : List Lent) → prefix_len (others n) lent < length lent
    → map loan_view (remove lent (prefix_len (others n) lent)) ≡ struck n (map loan_view lent)
struck_at n [] lt = absurd (omega (arith, lt))
struck_at n (l ∷ lent) lt =
    elim (either (nat_eq l.number n)) [
      | inl e ↦ struck_first n l lent e
      | inr e ↦ struck_later n l lent e (struck_at n lent (first_less n l lent e lt))
    ]

some_is : (A : Type 0) (x y : A) → Some x ≡ Some y → x ≡ y
some_is A x y e = cc

cond_some : (b : Bool) (k at : ℕ) → cond b (Some k) None ≡ Some at → (b ≡ true) × (k ≡ at)
cond_some true k at e = (refl, some_is ℕ k at e)
cond_some false k at e = absurd cc

cond_none : (b : Bool) (k : ℕ) → cond b (Some k) None ≡ None → b ≡ false
cond_none true k e = absurd cc
cond_none false k e = refl

pub struck_is : (n : ℕ) (lent : List Lent) (at : ℕ) → position (λ l. nat_eq l.number n) lent ≡ Some at
    → map loan_view (remove lent at) ≡ struck n (map loan_view lent)
struck_is n lent at e =
    let p = cond_some (nat_lt (prefix_len (others n) lent) (length lent)) (prefix_len (others n) lent) at e in
    let test : nat_lt (prefix_len (others n) lent) (length lent) ≡ true = p.0 in
    let lt : prefix_len (others n) lent < length lent = grind (arith, nat_tests) in
    subst (λ (k : ℕ). map loan_view (remove lent k) ≡ struck n (map loan_view lent)) p.1 (struck_at n lent lt)

out_later : (n : ℕ) (l : Lent) (lent : List Lent) → nat_eq l.number n ≡ false → IsOut n (map loan_view (l ∷ lent))
    → IsOut n (map loan_view lent)
out_later n l lent e is = subst (λ (b : Bool). OfLoan (λ loan. Unit {0}) (cond b (Some (loan_view l)) (loan_of n (map loan_view lent)))) e is

out_less : (n : ℕ) (lent : List Lent) → IsOut n (map loan_view lent) → prefix_len (others n) lent < length lent
out_less n [] is = absurd is
out_less n (l ∷ lent) is =
    elim (either (nat_eq l.number n)) [
      | inl e ↦ let at : prefix_len (others n) (l ∷ lent) ≡ 0 = rw e refl in omega (arith, at)
      | inr e ↦
          let at : prefix_len (others n) (l ∷ lent) ≡ 1 + prefix_len (others n) lent = rw e refl in
          let lt = out_less n lent (out_later n l lent e is) in
          omega (arith, at, lt)
    ]

-- a slot that is out is found
pub out_stands : (n : ℕ) (lent : List Lent) → IsOut n (map loan_view lent)
    → position (λ l. nat_eq l.number n) lent ≡ None → ⊥
out_stands n lent is e =
    let lt = out_less n lent is in
    let none : nat_lt (prefix_len (others n) lent) (length lent) ≡ false = cond_none (nat_lt (prefix_len (others n) lent) (length lent)) (prefix_len (others n) lent) e in
    let some : nat_lt (prefix_len (others n) lent) (length lent) ≡ true = grind (arith, nat_tests) in
    cc (none, some)

pub place_within : (n : ℕ) (lent : List Lent) (at : ℕ) → position (λ l. nat_eq l.number n) lent ≡ Some at
    → at < length lent
place_within n lent at e =
    let p = cond_some (nat_lt (prefix_len (others n) lent) (length lent)) (prefix_len (others n) lent) at e in
    let test : nat_lt (prefix_len (others n) lent) (length lent) ≡ true = p.0 in
    let lt : prefix_len (others n) lent < length lent = grind (arith, nat_tests) in
    omega (arith, lt, p.1)
