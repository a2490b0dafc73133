-- What patterns with one star, or none, stand for.
use Rattle.std.proofs.Common.{◌≡◌, ℕ, ◌-◌, suc, List, [], ◌∷◌, ◌++◌, length, Bool, true, false, ◌||◌, ◌==◌, nat_eq, IsTrue, refl, sym, ◌∙◌, ap, arith, inl, inr}
use Rattle.std.proofs.lemmas.List.{drop_all}
use Rattle.std.proofs.lemmas.Bool.{and_parts, not-true, false_from_ne_true, cases_lt}
use Rattle.std.specs.List.{starts_with, ends_with}
use Rattle.std.specs.Str.{bytes_eq}
use lib.Pointwise.{pointwise_long}
use Rattle.host_pattern.specs.Glob.{glob, some_suffix, is_nothing, is_plain}

pub plain : (p t : List ℕ) → IsTrue (is_plain p) → glob p t ≡ bytes_eq p t
unfolding glob
plain [] [] h = refl
plain [] (d ∷ t) h = refl
plain (c ∷ p) [] h = rw (not-true (c == 42) (and_parts _ _ h).0) refl
plain (c ∷ p) (d ∷ t) h =
    let parts = and_parts _ _ h in
    let same : glob p t ≡ bytes_eq p t = plain p t parts.1 in
    rw (not-true (c == 42) parts.0, same) refl

nothing_is_last : (t : List ℕ) → some_suffix is_nothing t ≡ true
nothing_is_last [] = refl
nothing_is_last (c ∷ t) = nothing_is_last t

pub at_end : (p t : List ℕ) → IsTrue (is_plain p) → glob (p ++ 42 ∷ []) t ≡ starts_with nat_eq t p
unfolding glob
at_end [] t h = nothing_is_last t
at_end (c ∷ p) [] h = rw (not-true (c == 42) (and_parts _ _ h).0) refl
at_end (c ∷ p) (d ∷ t) h =
    let parts = and_parts _ _ h in
    let same : glob (p ++ 42 ∷ []) t ≡ starts_with nat_eq t p = at_end p t parts.1 in
    rw (not-true (c == 42) parts.0, same) refl

other_length : (a b : List ℕ) → (length a ≡ length b → ⊥) → bytes_eq a b ≡ false
other_length a b ne = false_from_ne_true (bytes_eq a b) (λ e. ne (pointwise_long nat_eq a b e))

or_nothing : (b : Bool) → (b || false) ≡ b
or_nothing true = refl
or_nothing false = refl

ends : (p t : List ℕ) → IsTrue (is_plain p) → some_suffix (glob p) t ≡ ends_with nat_eq t p
ends p [] h = plain p [] h ∙ ap (λ s. bytes_eq p s) (sym (drop_all (0 - length p) [] (omega arith)))
ends p (c ∷ t) h = elim (cases_lt (length t) (length p)) [
  | inl short ↦ (
      let whole : suc (length t) - length p ≡ 0 = omega arith in
      let none : length t - length p ≡ 0 = omega arith in
      let rest : some_suffix (glob p) t ≡ false = ends p t h ∙ rw none (other_length p t (λ e. omega arith)) in
      rw (whole, rest, plain p (c ∷ t) h) (or_nothing (bytes_eq p (c ∷ t))))
  | inr long ↦ (
      let one : suc (length t) - length p ≡ suc (length t - length p) = omega arith in
      let first : glob p (c ∷ t) ≡ false = plain p (c ∷ t) h ∙ other_length p (c ∷ t) (λ e. omega arith) in
      rw (one, first) (ends p t h))
]

pub at_beginning : (p t : List ℕ) → IsTrue (is_plain p) → glob (42 ∷ p) t ≡ ends_with nat_eq t p
unfolding glob
at_beginning p t h = ends p t h
