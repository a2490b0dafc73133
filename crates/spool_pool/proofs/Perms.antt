-- Lists up to order: what is taken from both, and what is made of each member.
use Rattle.std.proofs.Common.{◌≡◌, ℕ, zero, suc, ◌<◌, ◌⊎◌, inl, inr, Bool, true, false, eqb, List, [], ◌∷◌, ◌++◌, length, get_or, set, refl, ap, sym, subst, ◌∙◌, arith}
use mathlib.Core.List.{Permᴰ}
use mathlib.Core.List.Permᴰ
use mathlib.Core.List.{cons≢nil, head-eq_of_cons-eq, tail-eq_of_cons-eq}
use Rattle.std.specs.List.{flat_map}
use Rattle.std.specs.List.Sorted.{IsPermutation}
use Rattle.std.specs.Prelude.{swap}
use Rattle.std.proofs.lemmas.Bool.{eqb-true, eqb-false}
use Rattle.std.proofs.lemmas.List.{length-set, get_or-set_other, set-get_or, append_assoc}
use Rattle.std.proofs.lemmas.List.Sorted.{IsPermutation-refl, IsPermutation-trans, IsPermutation-cons, IsPermutation-keeps, IsPermutation-append_left, IsPermutation-append_right, IsPermutation-append_comm, IsPermutation-middle}

-- two numbers are one, or not
which : (a b : ℕ) → (a ≡ b) ⊎ (a ≡ b → ⊥)
which a b = by_test (eqb a b) refl
  where
    by_test : (w : Bool) → eqb a b ≡ w → (a ≡ b) ⊎ (a ≡ b → ⊥)
    by_test true e = inl (eqb-true a b e)
    by_test false e = inr (eqb-false a b e)

module _ {X : Type 0} where
  pub same : (xs ys : List X) → xs ≡ ys → IsPermutation xs ys
  same xs ys e = subst (IsPermutation xs) e (IsPermutation-refl xs)

  -- where an item of one list stands in the other, and what the others are
  pub record Found (x : X) (rest ys : List X) : Type 0 where
    pub front : List X
    pub behind : List X
    pub is : front ++ x ∷ behind ≡ ys
    pub others : Permᴰ rest (front ++ behind)

  find : {s t : List X} → Permᴰ s t → (x : X) (l r : List X) → l ++ x ∷ r ≡ s → Found x (l ++ r) t
  find Permᴰ.nil x [] r e = absurd (cons≢nil e)
  find Permᴰ.nil x (u ∷ l) r e = absurd (cons≢nil e)
  find (Permᴰ.cons {b = b} {l₂ = t₂} e p) x [] r at = record {
    front = [];
    behind = t₂;
    is = ap (λ y. y ∷ t₂) (head-eq_of_cons-eq at ∙ e);
    others = subst (λ l. Permᴰ l t₂) (sym (tail-eq_of_cons-eq at)) p;
  }
  find (Permᴰ.cons {b = b} e p) x (u ∷ l) r at =
      let f = find p x l r (tail-eq_of_cons-eq at) in record {
        front = b ∷ f.front;
        behind = f.behind;
        is = ap (λ k. b ∷ k) f.is;
        others = Permᴰ.cons (head-eq_of_cons-eq at ∙ e) f.others;
      }
  find (Permᴰ.swap {a' = a'} {l = t} one two) x [] r at = record {
    front = a' ∷ [];
    behind = t;
    is = ap (λ y. a' ∷ y ∷ t) (head-eq_of_cons-eq at ∙ one);
    others = subst (λ k. Permᴰ k (a' ∷ t)) (sym (tail-eq_of_cons-eq at)) (Permᴰ.cons two (Permᴰ.refl t));
  }
  find (Permᴰ.swap {b' = b'} {l = t} one two) x (u ∷ []) r at = record {
    front = [];
    behind = b' ∷ t;
    is = ap (λ y. y ∷ b' ∷ t) (head-eq_of_cons-eq (tail-eq_of_cons-eq at) ∙ two);
    others = Permᴰ.cons (head-eq_of_cons-eq at ∙ one) (subst (λ k. Permᴰ k t) (sym (tail-eq_of_cons-eq (tail-eq_of_cons-eq at))) (Permᴰ.refl t));
  }
  find (Permᴰ.swap {a' = a'} {b' = b'} one two) x (u ∷ v ∷ l) r at = record {
    front = a' ∷ b' ∷ l;
    behind = r;
    is = ap (λ k. a' ∷ b' ∷ k) (tail-eq_of_cons-eq (tail-eq_of_cons-eq at));
    others = Permᴰ.swap (head-eq_of_cons-eq at ∙ one) (head-eq_of_cons-eq (tail-eq_of_cons-eq at) ∙ two);
  }
  find (Permᴰ.trans p q) x l r at =
      let f = find p x l r at in
      let g = find q x f.front f.behind f.is in
      record { front = g.front; behind = g.behind; is = g.is; others = Permᴰ.trans f.others g.others }

  -- the same item is taken from both
  less_at : (x : X) (s t l r : List X) → l ++ x ∷ r ≡ x ∷ t → Permᴰ s (l ++ r) → Permᴰ s t
  less_at x s t [] r is p = subst (Permᴰ s) (tail-eq_of_cons-eq is) p
  less_at x s t (u ∷ l) r is p =
      let there = subst (λ y. l ++ y ∷ r ≡ t) (sym (head-eq_of_cons-eq is)) (tail-eq_of_cons-eq is) in
      subst (Permᴰ s) there (Permᴰ.trans p (Permᴰ.symm (Permᴰ.middle u l r)))

  less : (x : X) (s t : List X) → Permᴰ (x ∷ s) (x ∷ t) → Permᴰ s t
  less x s t p = let f = find p x [] s refl in less_at x s t f.front f.behind f.is f.others

  put_at : (l : List X) (i : ℕ) (d y : X) → i < length l → Permᴰ (get_or l i d ∷ set l i y) (y ∷ l)
  put_at [] i d y lt = absurd (omega (arith, lt))
  put_at (x ∷ l) zero d y lt = Permᴰ.swap refl refl
  put_at (x ∷ l) (suc i) d y lt = Permᴰ.trans (Permᴰ.swap refl refl) (Permᴰ.trans (Permᴰ.cons refl (put_at l i d y (omega (arith, lt)))) (Permᴰ.swap refl refl))

  swapped_apart : (l : List X) (i j : ℕ) (d : X) → i < length l → j < length l → (j ≡ i → ⊥) → Permᴰ l (set (set l i (get_or l j d)) j (get_or l i d))
  swapped_apart l i j d p q apart =
      let a = get_or l j d in
      let b = get_or l i d in
      let m = set l i a in
      let one : Permᴰ (b ∷ m) (a ∷ l) = put_at l i d a p in
      let two : Permᴰ (get_or m j d ∷ set m j b) (b ∷ m) = put_at m j d b (omega (arith, q, length-set l i a)) in
      let is : get_or m j d ≡ a = get_or-set_other l i j a d apart in
      less a l (set m j b) (Permᴰ.symm (Permᴰ.trans (subst (λ y. Permᴰ (y ∷ set m j b) (b ∷ m)) is two) one))

  -- an item that changes places with itself stays where it is
  stays : (d : X) (l : List X) (i j : ℕ) → i ≡ j → d ∷ l ≡ swap (d ∷ l) i j
  stays d l i j e =
      let same : set (d ∷ l) i (get_or (d ∷ l) i d) ≡ d ∷ l = set-get_or (d ∷ l) i d in
      let twice : set (set (d ∷ l) i (get_or (d ∷ l) i d)) i (get_or (d ∷ l) i d) ≡ d ∷ l = ap (λ (m : List X). set m i (get_or (d ∷ l) i d)) same ∙ same in
      subst (λ (k : ℕ). d ∷ l ≡ set (set (d ∷ l) i (get_or (d ∷ l) k d)) k (get_or (d ∷ l) i d)) e (sym twice)

  swapped : (l : List X) (i j : ℕ) → i < length l → j < length l → Permᴰ l (swap l i j)
  swapped [] i j p q = absurd (omega (arith, p))
  swapped (d ∷ l) i j p q = by_case (which j i)
    where
      by_case : (j ≡ i) ⊎ (j ≡ i → ⊥) → Permᴰ (d ∷ l) (swap (d ∷ l) i j)
      by_case (inl e) = subst (Permᴰ (d ∷ l)) (stays d l i j (sym e)) (Permᴰ.refl (d ∷ l))
      by_case (inr apart) = swapped_apart (d ∷ l) i j d p q apart

  pub derived : (xs ys : List X) → IsPermutation xs ys → Permᴰ xs ys
  derived xs ys p = IsPermutation-keeps xs (Permᴰ xs) (Permᴰ.refl xs) (λ l i j lt lt' d. Permᴰ.trans d (swapped l i j lt lt')) ys p

  flipped : (a b : X) (l : List X) → IsPermutation (a ∷ b ∷ l) (b ∷ a ∷ l)
  flipped a b l = IsPermutation-middle (a ∷ []) b l

  pub underived : {xs ys : List X} → Permᴰ xs ys → IsPermutation xs ys
  underived Permᴰ.nil = IsPermutation-refl []
  underived (Permᴰ.cons {a = a} {l₁ = s} {l₂ = t} e p) = subst (λ y. IsPermutation (a ∷ s) (y ∷ t)) e (IsPermutation-cons a s t (underived p))
  underived (Permᴰ.swap {a = a} {b = b} {l = l} one two) = subst (λ (y : X × X). IsPermutation (a ∷ b ∷ l) (y.0 ∷ y.1 ∷ l)) (λ i. (two i, one i)) (flipped a b l)
  underived (Permᴰ.trans p q) = IsPermutation-trans _ _ _ (underived p) (underived q)

  -- an item of the one list stands in the other
  pub record Taken (x : X) (rest ys : List X) : Type 0 where
    pub front : List X
    pub behind : List X
    pub is : front ++ x ∷ behind ≡ ys
    pub others : IsPermutation rest (front ++ behind)

  pub taken : (x : X) (xs ys : List X) → IsPermutation (x ∷ xs) ys → Taken x xs ys
  taken x xs ys p = let f = find (derived (x ∷ xs) ys p) x [] xs refl in record { front = f.front; behind = f.behind; is = f.is; others = underived f.others }

  -- two lists that are one list up to order begin with the same member, or each has the other's first further on
  pub record Crossed (x y : X) (xs ys : List X) : Type 0 where
    pub rest : List X
    pub here : IsPermutation xs (y ∷ rest)
    pub there : IsPermutation ys (x ∷ rest)

  heads_at : (x y : X) (xs ys l r : List X) → l ++ x ∷ r ≡ y ∷ ys → IsPermutation xs (l ++ r) → ((x ≡ y) × IsPermutation xs ys) ⊎ Crossed x y xs ys
  heads_at x y xs ys [] r is p = inl (head-eq_of_cons-eq is, subst (IsPermutation xs) (tail-eq_of_cons-eq is) p)
  heads_at x y xs ys (u ∷ l) r is p = inr record {
    rest = l ++ r;
    here = subst (λ z. IsPermutation xs (z ∷ (l ++ r))) (head-eq_of_cons-eq is) p;
    there = subst (λ k. IsPermutation k (x ∷ (l ++ r))) (tail-eq_of_cons-eq is) (IsPermutation-middle l x r);
  }

  pub heads : (x y : X) (xs ys : List X) → IsPermutation (x ∷ xs) (y ∷ ys) → ((x ≡ y) × IsPermutation xs ys) ⊎ Crossed x y xs ys
  heads x y xs ys p = let f = taken x xs (y ∷ ys) p in heads_at x y xs ys f.front f.behind f.is f.others

module _ {X Y : Type 0} where
  -- what is made of each, one after the other, of lists that are one up to order
  pub made : (f : X → List Y) {xs ys : List X} → Permᴰ xs ys → IsPermutation (flat_map f xs) (flat_map f ys)
  made f Permᴰ.nil = IsPermutation-refl []
  made f (Permᴰ.cons {a = a} {l₁ = s} {l₂ = t} e p) = subst (λ y. IsPermutation (f a ++ flat_map f s) (f y ++ flat_map f t)) e (IsPermutation-append_right (f a) _ _ (made f p))
  made f (Permᴰ.swap {a = a} {b = b} {l = l} one two) =
      let rest = flat_map f l in
      let front = same (f a ++ (f b ++ rest)) ((f a ++ f b) ++ rest) (sym (append_assoc (f a) (f b) rest)) in
      let turn = IsPermutation-append_left rest (f a ++ f b) (f b ++ f a) (IsPermutation-append_comm (f a) (f b)) in
      let back = same ((f b ++ f a) ++ rest) (f b ++ (f a ++ rest)) (append_assoc (f b) (f a) rest) in
      subst (λ (y : X × X). IsPermutation (f a ++ (f b ++ rest)) (f y.0 ++ (f y.1 ++ rest))) (λ i. (two i, one i)) (IsPermutation-trans _ _ _ front (IsPermutation-trans _ _ _ turn back))
  made f (Permᴰ.trans p q) = IsPermutation-trans _ _ _ (made f p) (made f q)

  pub flat_map_permuted : (f : X → List Y) (xs ys : List X) → IsPermutation xs ys → IsPermutation (flat_map f xs) (flat_map f ys)
  flat_map_permuted f xs ys p = made f (derived xs ys p)
