-- What all passes have put or taken, up to order.
use Rattle.std.proofs.Common.{◌≡◌, ◌≢◌, ℕ, zero, suc, List, [], ◌∷◌, ◌++◌, set, refl, ap, sym, subst, ◌∙◌, arith}
use mathlib.Core.Option.{some, some-injective, some-ne-none}
use lib.ListN.{get_elem?}
use Rattle.std.specs.List.{flat_map}
use Rattle.std.specs.List.Sorted.{IsPermutation}
use Rattle.std.proofs.lemmas.List.{append-nil, append_assoc}
use Rattle.std.proofs.lemmas.Grind.{flat_map-append}
use Rattle.std.proofs.lemmas.List.Sorted.{IsPermutation-refl, IsPermutation-sym, IsPermutation-trans, IsPermutation-append_left, IsPermutation-append_right, IsPermutation-append_comm}

module _ {X : Type 0} where
  pub same : (xs ys : List X) → xs ≡ ys → IsPermutation xs ys
  same xs ys e = subst (IsPermutation xs) e (IsPermutation-refl xs)

  -- an item moves over a list
  pub shift : (xs ys : List X) (x : X) → IsPermutation ((xs ++ ys) ++ x ∷ []) ((xs ++ x ∷ []) ++ ys)
  shift xs ys x =
      let there = IsPermutation-append_right xs (ys ++ x ∷ []) ((x ∷ []) ++ ys) (IsPermutation-append_comm ys (x ∷ [])) in
      let front = same ((xs ++ ys) ++ x ∷ []) (xs ++ (ys ++ x ∷ [])) (append_assoc xs ys (x ∷ [])) in
      let back = same (xs ++ ((x ∷ []) ++ ys)) ((xs ++ x ∷ []) ++ ys) (sym (append_assoc xs (x ∷ []) ys)) in
      IsPermutation-trans _ _ _ front (IsPermutation-trans _ _ _ there back)

  pub unshift : (xs ys : List X) (x : X) → IsPermutation ((xs ++ x ∷ []) ++ ys) ((xs ++ ys) ++ x ∷ [])
  unshift xs ys x = IsPermutation-sym _ _ (shift xs ys x)

module _ {W : Type 0} where
  pub set_both : (views : List W) (i j : ℕ) (v w : W) → j ≢ i → set (set views i v) j w ≡ set (set views j w) i v
  set_both [] i j v w apart = refl
  set_both (x ∷ xs) zero zero v w apart = absurd (apart refl)
  set_both (x ∷ xs) zero (suc j) v w apart = refl
  set_both (x ∷ xs) (suc i) zero v w apart = refl
  set_both (x ∷ xs) (suc i) (suc j) v w apart = ap (λ l. x ∷ l) (set_both xs i j v w (λ e. apart (ap suc e)))

module _ {W X : Type 0} (f : W → List X) where
  -- one view has more
  pub with_more : (views : List W) (id : ℕ) (v w : W) (extra : List X) → get_elem? views id ≡ some v → f w ≡ f v ++ extra
      → IsPermutation (flat_map f views ++ extra) (flat_map f (set views id w))
  with_more [] id v w extra at e = absurd (some-ne-none v (sym at))
  with_more (x ∷ xs) zero v w extra at e =
      let rest = flat_map f xs in
      let front = same ((f x ++ rest) ++ extra) (f x ++ (rest ++ extra)) (append_assoc (f x) rest extra) in
      let there = IsPermutation-append_right (f x) (rest ++ extra) (extra ++ rest) (IsPermutation-append_comm rest extra) in
      let is : f x ++ extra ≡ f w = ap (λ y. f y ++ extra) (some-injective x v at) ∙ sym e in
      let back = same (f x ++ (extra ++ rest)) (f w ++ rest) (sym (append_assoc (f x) extra rest) ∙ ap (λ l. l ++ rest) is) in
      IsPermutation-trans _ _ _ front (IsPermutation-trans _ _ _ there back)
  with_more (x ∷ xs) (suc i) v w extra at e =
      let front = same ((f x ++ flat_map f xs) ++ extra) (f x ++ (flat_map f xs ++ extra)) (append_assoc (f x) (flat_map f xs) extra) in
      IsPermutation-trans _ _ _ front (IsPermutation-append_right (f x) _ _ (with_more xs i v w extra at e))

  -- one view has the same
  pub with_same : (views : List W) (id : ℕ) (v w : W) → get_elem? views id ≡ some v → f w ≡ f v → flat_map f (set views id w) ≡ flat_map f views
  with_same [] id v w at e = absurd (some-ne-none v (sym at))
  with_same (x ∷ xs) zero v w at e = ap (λ l. l ++ flat_map f xs) (e ∙ sym (ap f (some-injective x v at)))
  with_same (x ∷ xs) (suc i) v w at e = ap (λ l. f x ++ l) (with_same xs i v w at e)

  -- one view has nothing any more
  pub with_none : (views : List W) (id : ℕ) (v w : W) → get_elem? views id ≡ some v → f w ≡ []
      → IsPermutation (flat_map f views) (f v ++ flat_map f (set views id w))
  with_none [] id v w at e = absurd (some-ne-none v (sym at))
  with_none (x ∷ xs) zero v w at e =
      let rest = flat_map f xs in
      let one : f x ++ rest ≡ f v ++ rest = ap (λ y. f y ++ rest) (some-injective x v at) in
      let two : rest ≡ f w ++ rest = sym (ap (λ l. l ++ rest) e) in
      same (f x ++ rest) (f v ++ (f w ++ rest)) (one ∙ ap (λ l. f v ++ l) two)
  with_none (x ∷ xs) (suc i) v w at e =
      let rest = flat_map f (set xs i w) in
      let front = IsPermutation-append_right (f x) _ _ (with_none xs i v w at e) in
      let one = same (f x ++ (f v ++ rest)) ((f x ++ f v) ++ rest) (sym (append_assoc (f x) (f v) rest)) in
      let two = IsPermutation-append_left rest _ _ (IsPermutation-append_comm (f x) (f v)) in
      let back = same ((f v ++ f x) ++ rest) (f v ++ (f x ++ rest)) (append_assoc (f v) (f x) rest) in
      IsPermutation-trans _ _ _ front (IsPermutation-trans _ _ _ one (IsPermutation-trans _ _ _ two back))

  -- one view hands all to another
  pub with_moved : (views : List W) (id other : ℕ) (v w both gone : W) → get_elem? views other ≡ some w → get_elem? (set views other gone) id ≡ some v
      → other ≢ id → f both ≡ f v ++ f w → f gone ≡ [] → IsPermutation (flat_map f views) (flat_map f (set (set views id both) other gone))
  with_moved views id other v w both gone there here apart e none =
      let left = set views other gone in
      let front = with_none views other w gone there none in
      let turn = IsPermutation-append_comm (f w) (flat_map f left) in
      let more = with_more left id v both (f w) here e in
      let is = same (flat_map f (set left id both)) (flat_map f (set (set views id both) other gone)) (ap (flat_map f) (sym (set_both views id other both gone apart))) in
      IsPermutation-trans _ _ _ front (IsPermutation-trans _ _ _ turn (IsPermutation-trans _ _ _ more is))

  all_none : (views : List W) → ((j : ℕ) (u : W) → get_elem? views j ≡ some u → f u ≡ []) → flat_map f views ≡ []
  all_none [] none = refl
  all_none (x ∷ xs) none = ap (λ l. l ++ flat_map f xs) (none 0 x refl) ∙ all_none xs (λ j u at. none (suc j) u at)

  -- all others have nothing
  pub alone : (views : List W) (id : ℕ) (v : W) → get_elem? views id ≡ some v → ((j : ℕ) (u : W) → j ≢ id → get_elem? views j ≡ some u → f u ≡ []) → flat_map f views ≡ f v
  alone [] id v at none = absurd (some-ne-none v (sym at))
  alone (x ∷ xs) zero v at none =
      ap (λ l. f x ++ l) (all_none xs (λ j u there. none (suc j) u (λ e. omega (arith, e)) there)) ∙ append-nil (f x) ∙ ap f (some-injective x v at)
  alone (x ∷ xs) (suc i) v at none =
      ap (λ l. l ++ flat_map f xs) (none 0 x (λ e. omega (arith, e)) refl) ∙ alone xs i v at (λ j u apart there. none (suc j) u (λ e. apart (omega (arith, e))) there)

  -- one more view, which has nothing
  pub with_new : (views : List W) (w : W) → f w ≡ [] → flat_map f (views ++ w ∷ []) ≡ flat_map f views
  with_new views w e = flat_map-append f views (w ∷ []) ∙ ap (λ l. flat_map f views ++ (l ++ [])) e ∙ append-nil (flat_map f views)
