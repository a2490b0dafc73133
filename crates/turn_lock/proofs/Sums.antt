-- Sums over the views of all seats, and facts of each.
use Rattle.std.proofs.Common.{◌≡◌, ◌≢◌, ℕ, zero, suc, ◌+◌, ◌≤◌, ⊎_elim, List, [], ◌∷◌, ◌++◌, set, refl, ap, sym, subst, arith}
use mathlib.Core.Option.{some, some-injective, some-ne-none}
use lib.ListN.{get_elem?}
use Rattle.std.specs.List.{sum_by}
use Rattle.std.proofs.lemmas.List.Sums.{sum_by-cons}
use Rattle.atomic_table.proofs.Lists.{at_set, at_snoc}

module _ {W : Type 0} where
  -- one of them is changed
  pub sum_changed : (f : W → ℕ) (views : List W) (id : ℕ) (v w : W) → get_elem? views id ≡ some v → sum_by f (set views id w) + f v ≡ sum_by f views + f w
  sum_changed f [] id v w at = absurd (some-ne-none v (sym at))
  sum_changed f (x ∷ xs) zero v w at = omega (arith, sum_by-cons f w xs, sum_by-cons f x xs, ap f (some-injective x v at))
  sum_changed f (x ∷ xs) (suc i) v w at = omega (arith, sum_by-cons f x (set xs i w), sum_by-cons f x xs, sum_changed f xs i v w at)

  -- each is at most the sum
  pub sum_has : (f : W → ℕ) (views : List W) (id : ℕ) (v : W) → get_elem? views id ≡ some v → f v ≤ sum_by f views
  sum_has f [] id v at = absurd (some-ne-none v (sym at))
  sum_has f (x ∷ xs) zero v at = omega (arith, sum_by-cons f x xs, ap f (some-injective x v at))
  sum_has f (x ∷ xs) (suc i) v at = omega (arith, sum_by-cons f x xs, sum_has f xs i v at)

  pub sum_none : (f : W → ℕ) (views : List W) → ((id : ℕ) (v : W) → get_elem? views id ≡ some v → f v ≡ 0) → sum_by f views ≡ 0
  sum_none f [] each = refl
  sum_none f (x ∷ xs) each = omega (arith, sum_by-cons f x xs, each 0 x refl, sum_none f xs (λ id v at. each (suc id) v at))

  -- what holds of each seat holds of each still, once it holds of the one that is changed
  pub each_changed : (P : ℕ → W → Type 0) (views : List W) (id : ℕ) (w : W) → P id w → ((j : ℕ) (v : W) → j ≢ id → get_elem? views j ≡ some v → P j v)
      → (j : ℕ) (v : W) → get_elem? (set views id w) j ≡ some v → P j v
  each_changed P views id w here others j v at = ⊎_elim (λ t. subst (λ (k : ℕ). P k v) (sym t.0) (subst (P id) t.1 here)) (λ t. others j v t.0 t.1) (at_set views id j w v at)

  pub each_more : (P : ℕ → W → Type 0) (views : List W) (w : W) → ((j : ℕ) → P j w) → ((j : ℕ) (v : W) → get_elem? views j ≡ some v → P j v)
      → (j : ℕ) (v : W) → get_elem? (views ++ w ∷ []) j ≡ some v → P j v
  each_more P views w here others j v at = ⊎_elim (others j v) (λ is. subst (P j) is (here j)) (at_snoc views w v j at)

  -- where one of them is the sum, and those that are nothing come to nothing by another count too, that one is the sum there too
  pub sum_alone : (f g : W → ℕ) (views : List W) (id : ℕ) (v : W) → get_elem? views id ≡ some v → sum_by f views ≤ f v
      → (f v ≤ sum_by f views → (j : ℕ) (u : W) → get_elem? views j ≡ some u → f u ≡ 0 → g u ≡ 0) → sum_by g views ≡ g v
  sum_alone f g [] id v at alone none = absurd (some-ne-none v (sym at))
  sum_alone f g (x ∷ xs) zero v at alone none =
      let here : x ≡ v = some-injective x v at in
      let nothing = none (sum_has f (x ∷ xs) 0 v at) in
      let rest : sum_by f xs ≡ 0 = omega (arith, sum_by-cons f x xs, ap f here, alone) in
      let others : sum_by g xs ≡ 0 = sum_none g xs (λ j u there. let m = sum_has f xs j u there in nothing (suc j) u there (omega (arith, m, rest))) in
      omega (arith, sum_by-cons g x xs, ap g here, others)
  sum_alone f g (x ∷ xs) (suc i) v at alone none =
      let has = sum_has f xs i v at in
      let nothing = none (sum_has f (x ∷ xs) (suc i) v at) in
      let sum = sum_by-cons f x xs in
      let first : g x ≡ 0 = nothing 0 x refl (omega (arith, sum, has, alone)) in
      let rest = sum_alone f g xs i v at (omega (arith, sum, alone)) (λ _ j u there. nothing (suc j) u there) in
      omega (arith, sum_by-cons g x xs, first, rest)
