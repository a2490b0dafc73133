-- What a body without a bad byte is.
use Rattle.std.proofs.Common.{◌≡◌, ℕ, ◌≤◌, ◌<◌, List, [], ◌∷◌, length, Bool, true, false, not, ◌&&◌, ◌==◌, None, Ok, Err, is_ok, sym, IsTrue, refl, arith, position, nat_lt, nat_le, inl, inr}
use Rattle.std.proofs.lemmas.Bool.{cases_Bool, ltb-false, lt-ltb, le-leb, lt-leb, le-ltb, cases_lt, cases_eq, and_left, and_right, ltb-true, leb-true, ne_eqb, and_parts, both_ways}
use Rattle.std.proofs.lemmas.Bool.Decides.{nat_tests}
use Rattle.std.specs.List.{list_all, position_or_len}
use Rattle.host_pattern.specs.declared.fault.PatternFault.TheVariants.{BadMask}
use Rattle.host_pattern.specs.Mask.{is_well_masked}
use Rattle.host_pattern.specs.Pattern.{is_body, is_body_byte, with_body, parsed, written}

all_pass : (f : ℕ → Bool) (xs : List ℕ) → length xs ≤ position_or_len (λ b. not (f b)) xs → list_all f xs ≡ true
all_pass f [] h = refl
all_pass f (x ∷ xs) h = elim (cases_Bool (f x)) [
  | inl e ↦ rw e (all_pass f xs (let h = rw e at h in omega arith))
  | inr e ↦ absurd (let h = rw e at h in omega arith)
]

none_bad : (f : ℕ → Bool) (xs : List ℕ) → None ≡ position (λ b. not (f b)) xs → list_all f xs ≡ true
none_bad f xs h = elim (cases_Bool (nat_lt (position_or_len (λ b. not (f b)) xs) (length xs))) [
  | inl e ↦ absurd (let h = rw e at h in (cc))
  | inr e ↦ all_pass f xs (ltb-false _ _ e)
]

pub good_body : (body copy : List ℕ) → copy ≡ body → 0 < length body → length body ≤ 255 → None ≡ position (λ b. not (is_body_byte b)) body → is_well_masked body ≡ true → IsTrue (is_body copy)
good_body body copy e some few none masked = rw (e, lt-ltb 0 (length body) some, le-leb (length body) 255 few, none_bad is_body_byte body none, masked) refl

pub bad_mask : (negated : Bool) (body : List ℕ) → 0 < length body → length body ≤ 255 → None ≡ position (λ b. not (is_body_byte b)) body → is_well_masked body ≡ false → with_body negated body ≡ Err BadMask
bad_mask negated body some few none masked = rw (ne_eqb (length body) 0 (λ z. omega arith), le-ltb 255 (length body) few, ← none, masked) refl

-- What the reading of patterns comes to.

all_long : (f : ℕ → Bool) (xs : List ℕ) → list_all f xs ≡ true → length xs ≤ position_or_len (λ b. not (f b)) xs
all_long f [] h = omega arith
all_long f (x ∷ xs) h =
    let parts = and_parts _ _ h in
    let rest = all_long f xs parts.1 in
    let one : f x ≡ true = parts.0 in
    rw one (omega arith)

one_short : (f : ℕ → Bool) (xs : List ℕ) → list_all f xs ≡ false → position_or_len (λ b. not (f b)) xs < length xs
one_short f [] h = absurd (both_ways _ h refl)
one_short f (x ∷ xs) h = elim (cases_Bool (f x)) [
  | inl e ↦ (let rest = one_short f xs (rw e at h) in rw e (omega arith))
  | inr e ↦ rw e (omega arith)
]

pub body_is_read : (negated : Bool) (body : List ℕ) → IsTrue (is_body body) → with_body negated body ≡ Ok record { negated = negated; body = body }
body_is_read negated body h =
    let whole = and_parts _ _ h in
    let outer = and_parts _ _ whole.0 in
    let inner = and_parts _ _ outer.0 in
    let masked : is_well_masked body ≡ true = whole.1 in
    let some : 0 < length body = ltb-true _ _ inner.0 in
    let few : length body ≤ 255 = leb-true _ _ inner.1 in
    rw (ne_eqb (length body) 0 (λ z. omega arith), le-ltb 255 (length body) few, le-ltb _ _ (all_long is_body_byte body outer.1), masked) refl

pub reads_bodies : (negated : Bool) (body : List ℕ) → is_ok (with_body negated body) ≡ is_body body
reads_bodies negated body = elim (cases_eq (length body) 0) [
  | inl e ↦ rw e refl
  | inr ne ↦ elim (cases_lt 255 (length body)) [
    | inl long ↦ rw (ne_eqb (length body) 0 ne, lt-ltb 255 (length body) long, lt-ltb 0 (length body) (omega arith), lt-leb (length body) 255 long) refl
    | inr few ↦ elim (cases_Bool (list_all is_body_byte body)) [
      | inl all ↦ elim (cases_Bool (is_well_masked body)) [
        | inl masked ↦ (
            let is : is_body body ≡ true = rw (lt-ltb 0 (length body) (omega arith), le-leb (length body) 255 few, all, masked) refl in
            rw (body_is_read negated body is) (sym is))
        | inr unmasked ↦ rw (ne_eqb (length body) 0 ne, le-ltb 255 (length body) few, le-ltb _ _ (all_long is_body_byte body all), unmasked) (sym (and_right (nat_lt 0 (length body) && nat_le (length body) 255 && list_all is_body_byte body) false refl))
      ]
      | inr one ↦ rw (ne_eqb (length body) 0 ne, le-ltb 255 (length body) few, lt-ltb _ _ (one_short is_body_byte body one), one) (sym (and_left (nat_lt 0 (length body) && nat_le (length body) 255 && false) (is_well_masked body) (and_right (nat_lt 0 (length body) && nat_le (length body) 255) false refl)))
    ]
  ]
]

pub reads_back : (negated : Bool) (body : List ℕ) → IsTrue (is_body body) → parsed (written record { negated = negated; body = body }) ≡ Ok record { negated = negated; body = body }
unfolding parsed
reads_back true body h = body_is_read true body h
reads_back false [] h = body_is_read false [] h
reads_back false (b ∷ body) h =
    let first = and_parts _ _ (and_parts _ _ (and_parts _ _ h).0).1 in
    rw (no_mark b first.0) (body_is_read false (b ∷ body) h)
  where
    no_mark : (b : ℕ) → is_body_byte b ≡ true → (b == 33) ≡ false
    no_mark b h = grind (arith, nat_tests)
