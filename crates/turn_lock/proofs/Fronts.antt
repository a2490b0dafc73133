-- Fronts of one list.
use Rattle.std.proofs.Common.{◌≡◌, ◌≤◌, Bool, true, false, List, [], ◌∷◌, ◌++◌, length, refl, ap, sym, subst, ◌∙◌, arith, append_assoc, length-append}
use mathlib.Core.List.{IsPrefix}
use Rattle.std.specs.Prelude.{nat_lt, if◌then◌else◌}
use Rattle.std.proofs.lemmas.Bool.{ltb-true, ltb-false}
use Rattle.turn_lock.specs.Views.{longer}

module _ {E : Type 0} where
  pub front_self : (xs : List E) → IsPrefix xs xs
  front_self [] = ([], refl)
  front_self (x ∷ xs) = let r = front_self xs in (r.0, ap (λ ys. x ∷ ys) r.1)

  -- the same list is a front
  pub front_same : (xs ys : List E) → xs ≡ ys → IsPrefix xs ys
  front_same xs ys is = subst (IsPrefix xs) is (front_self xs)

  pub front_trans : (xs ys zs : List E) → IsPrefix xs ys → IsPrefix ys zs → IsPrefix xs zs
  front_trans xs ys zs p q = (p.0 ++ q.0, sym (append_assoc xs p.0 q.0) ∙ (ap (λ w. w ++ q.0) p.1 ∙ q.1))

  pub front_length : (xs ys : List E) → IsPrefix xs ys → length xs ≤ length ys
  front_length xs ys p = omega (arith, sym (ap length p.1) ∙ length-append xs p.0)

  either_front : (b : Bool) (xs ys zs : List E) → IsPrefix xs zs → IsPrefix ys zs → IsPrefix (if b then ys else xs) zs
  either_front true xs ys zs p q = q
  either_front false xs ys zs p q = p

  pub longer_front : (xs ys zs : List E) → IsPrefix xs zs → IsPrefix ys zs → IsPrefix (longer xs ys) zs
  longer_front xs ys zs p q = either_front (nat_lt (length xs) (length ys)) xs ys zs p q

  either_long : (b : Bool) (xs ys : List E) → nat_lt (length xs) (length ys) ≡ b → (length xs ≤ length (if b then ys else xs)) × (length ys ≤ length (if b then ys else xs))
  either_long true xs ys is = let lt = ltb-true (length xs) (length ys) is in (omega (arith, lt), omega arith)
  either_long false xs ys is = (omega arith, ltb-false (length xs) (length ys) is)

  pub longer_long : (xs ys : List E) → (length xs ≤ length (longer xs ys)) × (length ys ≤ length (longer xs ys))
  longer_long xs ys = either_long (nat_lt (length xs) (length ys)) xs ys refl
