-- Sums over the views of all passes, and facts of each.
use Rattle.std.proofs.Common.{◌≡◌, ◌≢◌, ℕ, zero, suc, ◌+◌, ◌≤◌, ⊎_elim, List, [], ◌∷◌, ◌++◌, set, ap, sym, subst, arith}
use mathlib.Core.Option.{some, some-injective, some-ne-none}
use lib.ListN.{get_elem?}
use Rattle.std.specs.List.{sum_by}
use Rattle.std.proofs.lemmas.List.Sums.{sum_by-cons}
use Rattle.atomic_table.proofs.Lists.{at_set, at_snoc}

module _ {W : Type 0} where
  -- one of them is changed
  pub sum_changed : (f : W → ℕ) (views : List W) (id : ℕ) (v w : W) → get_elem? views id ≡ some v → sum_by f (set views id w) + f v ≡ sum_by f views + f w
  sum_changed f [] id v w at = absurd (some-ne-none v (sym at))
  sum_changed f (x ∷ xs) zero v w at = omega (arith, sum_by-cons f w xs, sum_by-cons f x xs, ap f (some-injective x v at))
  sum_changed f (x ∷ xs) (suc i) v w at = omega (arith, sum_by-cons f x (set xs i w), sum_by-cons f x xs, sum_changed f xs i v w at)

  -- each is at most the sum
  pub sum_has : (f : W → ℕ) (views : List W) (id : ℕ) (v : W) → get_elem? views id ≡ some v → f v ≤ sum_by f views
  sum_has f [] id v at = absurd (some-ne-none v (sym at))
  sum_has f (x ∷ xs) zero v at = omega (arith, sum_by-cons f x xs, ap f (some-injective x v at))
  sum_has f (x ∷ xs) (suc i) v at = omega (arith, sum_by-cons f x xs, sum_has f xs i v at)

  -- what holds of each holds of each still, once it holds of the one that is changed
  pub each_changed : (P : ℕ → W → Type 0) (views : List W) (id : ℕ) (w : W) → P id w → ((j : ℕ) (v : W) → j ≢ id → get_elem? views j ≡ some v → P j v)
      → (j : ℕ) (v : W) → get_elem? (set views id w) j ≡ some v → P j v
  each_changed P views id w here others j v at = ⊎_elim (λ t. subst (λ (k : ℕ). P k v) (sym t.0) (subst (P id) t.1 here)) (λ t. others j v t.0 t.1) (at_set views id j w v at)

  pub each_more : (P : ℕ → W → Type 0) (views : List W) (w : W) → ((j : ℕ) → P j w) → ((j : ℕ) (v : W) → get_elem? views j ≡ some v → P j v)
      → (j : ℕ) (v : W) → get_elem? (views ++ w ∷ []) j ≡ some v → P j v
  each_more P views w here others j v at = ⊎_elim (others j v) (λ is. subst (P j) is (here j)) (at_snoc views w v j at)
