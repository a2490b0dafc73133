-- The first place of a byte.
use Rattle.std.proofs.Common.{◌≡◌, ℕ, zero, suc, ◌+◌, ◌<◌, ◌≤◌, Bool, true, false, List, [], ◌∷◌, length, refl, sym, ◌∙◌, arith, inl, inr, ap}
use Rattle.std.specs.Prelude.{Option, Some, None, cond, nat_lt, position, slice_index}
use Rattle.std.specs.List.{position_or_len}
use Rattle.std.proofs.lemmas.Bool.{cases_Bool, lt-ltb, le-ltb}
use Rattle.memchr.specs.Find.{IsFirstByte}

first_at : (p : ℕ → Bool) (xs : List ℕ) (k : ℕ) → k < length xs → p (slice_index xs k) ≡ true → ((j : ℕ) → j < k → p (slice_index xs j) ≡ true → ⊥) → position_or_len p xs ≡ k
first_at p [] k lt is none = absurd (omega arith)
first_at p (x ∷ xs) zero lt is none = rw is refl
first_at p (x ∷ xs) (suc k) lt is none = elim (cases_Bool (p x)) [
  | inl e ↦ absurd (none zero (omega arith) e)
  | inr e ↦ (let rest = first_at p xs k (omega arith) is (λ j less h. none (suc j) (omega arith) h) in rw (e, rest) (omega arith))
]

first_none : (p : ℕ → Bool) (xs : List ℕ) → ((j : ℕ) → j < length xs → p (slice_index xs j) ≡ true → ⊥) → length xs ≤ position_or_len p xs
first_none p [] none = omega arith
first_none p (x ∷ xs) none = elim (cases_Bool (p x)) [
  | inl e ↦ absurd (none zero (omega arith) e)
  | inr e ↦ (let rest = first_none p xs (λ j less h. none (suc j) (omega arith) h) in rw e (omega arith))
]

-- the first byte that passes a test stands where `position` has it
pub first_byte : (p : ℕ → Bool) (xs : List ℕ) (r : Option ℕ) → IsFirstByte p xs r → r ≡ position p xs
first_byte p xs None h = rw (le-ltb (position_or_len p xs) (length xs) (first_none p xs (λ j less is. h j (omega arith) less is))) refl
first_byte p xs (Some k) h =
    let at = first_at p xs k h.0.high h.1 (λ j less is. h.0.before j (omega arith) less is) in
    rw (at, lt-ltb k (length xs) h.0.high) refl
