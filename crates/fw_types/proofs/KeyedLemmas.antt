-- What stands under each name after an element was put in, replaced or dropped, and what becomes of the order.
use Rattle.std.proofs.Common.{◌≡◌, ℕ, suc, ◌+◌, ◌<◌, ◌≤◌, Bool, true, false, cond, not, nat_lt, List, [], ◌∷◌, ◌++◌, length, find, Option, Some, None, IsTrue, is_some, unwrap_or, Ordering, Less, Equal, Greater, is_eq, is_lt, nat_cmp, refl, sym, ap, subst, ◌∙◌, arith}
use mathlib.Core.Bool.{true≢false}
use Rattle.std.specs.Cmp.Lexicographic.{slice_cmp, nat_list_cmp_total, nat_list_eq_equiv}
use Rattle.std.specs.List.{AllByRecursion, position, position_or_len, insert, slice_set}
use Rattle.std.specs.Ordering.{ordering_reverse}
use Rattle.std.proofs.lemmas.Bool.{ltb-true, ltb-false}
use Rattle.std.proofs.lemmas.List.Folds.{find-append}
use Rattle.std.proofs.lemmas.List.Sums.{prefix_len-le-length}
use Rattle.std.specs.Option.{option_or}
use Rattle.std.proofs.lemmas.Map.Text.{is_eq-slice_cmp}
use Rattle.std.proofs.lemmas.Slice.Eq.{bytes_eq-Decides}
use Rattle.std.specs.Str.{bytes_eq}
use Rattle.fw_types.specs.Name.{is_before}
use Rattle.fw_types.specs.Keyed.{is_named, under, IsPlaceOf, replaced, placed, without, Ascends}

-- ---- choices

clash : {A : Type 0} → false ≡ true → A
clash h = absurd (true≢false (sym h))

when_same : {A : Type 0} (u : Bool) (a b c : A) → cond u a c ≡ cond u a (cond u b c)
when_same true a b c = refl
when_same false a b c = refl

when_other : {A : Type 0} (t u : Bool) (a b c : A) → (t ≡ true → u ≡ false) → cond t b (cond u a c) ≡ cond u a (cond t b c)
when_other true true a b c h = clash (sym (h refl))
when_other true false a b c h = refl
when_other false true a b c h = refl
when_other false false a b c h = refl

-- ---- names

turned : (m n : List ℕ) → bytes_eq m n ≡ bytes_eq n m
turned m n = nat_list_eq_equiv.symm m n

as_one : (m n k : List ℕ) → bytes_eq m n ≡ true → bytes_eq m k ≡ bytes_eq n k
as_one m n k same = nat_list_eq_equiv.congr m n k same

-- a name that is one of two different names isn't the other
apart : (m n k : List ℕ) → bytes_eq m n ≡ false → bytes_eq m k ≡ true → bytes_eq k n ≡ false
apart m n k other same = sym (as_one m k n same) ∙ other

less : (o : Ordering) → is_lt o ≡ true → o ≡ Less
less Less h = refl
less Equal h = clash h
less Greater h = clash h

greater : (o : Ordering) → is_lt o ≡ false → is_eq o ≡ false → is_lt (ordering_reverse o) ≡ true
greater Less h e = clash (sym h)
greater Equal h e = clash (sym e)
greater Greater h e = refl

-- a name that comes before another which comes before a third comes before that one
through : (m n k : List ℕ) → is_before m n ≡ true → is_before n k ≡ true → is_before m k ≡ true
through m n k first then_ = ap is_lt (nat_list_cmp_total.trans m n k (less (slice_cmp nat_cmp m n) first) (less (slice_cmp nat_cmp n k) then_))

-- a name that doesn't come before another, and is another one, stands behind it
after_it : (m n : List ℕ) → is_before m n ≡ false → bytes_eq m n ≡ false → is_before n m ≡ true
after_it m n behind other =
    ap is_lt (nat_list_cmp_total.antisymm n m) ∙ greater (slice_cmp nat_cmp m n) behind (is_eq-slice_cmp m n ∙ other)

-- ---- places

some_step : {X : Type 0} (s : Bool) (x : X) (n len : ℕ) (found : Option X) → cond (not s) (1 + n) 0 < suc len → (n < len → is_some found ≡ true) → is_some (cond s (Some x) found) ≡ true
some_step true x n len found within rest = refl
some_step false x n len found within rest = rest (omega (arith, within))

some_found : {X : Type 0} (p : X → Bool) (xs : List X) → position_or_len p xs < length xs → is_some (find p xs) ≡ true
some_found p [] within = absurd (omega (arith, within))
some_found p (x ∷ xs) within = some_step (p x) x (position_or_len p xs) (length xs) (find p xs) within (some_found p xs)

none_step : {X : Type 0} (s : Bool) (x : X) (n len : ℕ) (found : Option X) → suc len ≤ cond (not s) (1 + n) 0 → (len ≤ n → is_some found ≡ false) → is_some (cond s (Some x) found) ≡ false
none_step true x n len found past rest = absurd (omega (arith, past))
none_step false x n len found past rest = rest (omega (arith, past))

none_found : {X : Type 0} (p : X → Bool) (xs : List X) → length xs ≤ position_or_len p xs → is_some (find p xs) ≡ false
none_found p [] past = refl
none_found p (x ∷ xs) past = none_step (p x) x (position_or_len p xs) (length xs) (find p xs) past (none_found p xs)

pub place_or_len : {X : Type 0} (p : X → Bool) (xs : List X) → unwrap_or (position p xs) (length xs) ≡ position_or_len p xs
place_or_len p xs = choose (nat_lt (position_or_len p xs) (length xs)) refl
  where
    choose : (b : Bool) → nat_lt (position_or_len p xs) (length xs) ≡ b → unwrap_or (cond b (Some (position_or_len p xs)) None) (length xs) ≡ position_or_len p xs
    choose true within = refl
    choose false past =
        let most : position_or_len p xs ≤ length xs = prefix_len-le-length (λ x. not (p x)) xs in
        let least : length xs ≤ position_or_len p xs = ltb-false (position_or_len p xs) (length xs) past in
        omega (arith, most, least)

pub position_is_place : {X : Type 0} (key : X → List ℕ) (name : List ℕ) (xs : List X) → IsPlaceOf key name xs (position (is_named key name) xs)
position_is_place key name xs = choose (nat_lt (position_or_len (is_named key name) xs) (length xs)) refl
  where
    choose : (b : Bool) → nat_lt (position_or_len (is_named key name) xs) (length xs) ≡ b → IsPlaceOf key name xs (cond b (Some (position_or_len (is_named key name) xs)) None)
    choose true within = (some_found (is_named key name) xs (ltb-true (position_or_len (is_named key name) xs) (length xs) within), refl, ltb-true (position_or_len (is_named key name) xs) (length xs) within)
    choose false past = none_found (is_named key name) xs (ltb-false (position_or_len (is_named key name) xs) (length xs) past)

module _ {X : Type 0} (key : X → List ℕ) where
  pub place_is_some : (name : List ℕ) (xs : List X) (r : Option ℕ) → IsPlaceOf key name xs r → is_some (under key name xs) ≡ is_some r
  place_is_some name xs None place = place
  place_is_some name xs (Some at) place = place.0

  -- ---- replaced

  replace_step : (s : Bool) (y x : X) (xs : List X) (k : List ℕ) → bytes_eq (key x) (key y) ≡ s
      → (s ≡ false → under key k (replaced key y xs) ≡ cond (bytes_eq k (key y)) (Some y) (under key k xs))
      → under key k (cond s (y ∷ xs) (x ∷ replaced key y xs)) ≡ cond (bytes_eq k (key y)) (Some y) (under key k (x ∷ xs))
  replace_step true y x xs k s rest =
      let same : bytes_eq (key x) k ≡ bytes_eq k (key y) = as_one (key x) (key y) k s ∙ turned (key y) k in
      rw (same, turned (key y) k) (when_same (bytes_eq k (key y)) (Some y) (Some x) (under key k xs))
  replace_step false y x xs k s rest =
      rw (rest refl) (when_other (bytes_eq (key x) k) (bytes_eq k (key y)) (Some y) (Some x) (under key k xs) (apart (key x) (key y) k s))

  there_behind : (s : Bool) (x : X) (found : Option X) → s ≡ false → is_some (cond s (Some x) found) ≡ true → is_some found ≡ true
  there_behind true x found s there = clash (sym s)
  there_behind false x found s there = there

  pub under_replaced : (y : X) (xs : List X) (k : List ℕ) → is_some (under key (key y) xs) ≡ true
      → under key k (replaced key y xs) ≡ cond (bytes_eq k (key y)) (Some y) (under key k xs)
  under_replaced y [] k there = clash there
  under_replaced y (x ∷ xs) k there =
      replace_step (bytes_eq (key x) (key y)) y x xs k refl
      (λ s. under_replaced y xs k (there_behind (bytes_eq (key x) (key y)) x (under key (key y) xs) s there))

  -- ---- placed

  place_step : (before : Bool) (y x : X) (xs : List X) (k : List ℕ) → bytes_eq (key x) (key y) ≡ false
      → under key k (placed key y xs) ≡ cond (bytes_eq k (key y)) (Some y) (under key k xs)
      → under key k (cond before (x ∷ placed key y xs) (y ∷ x ∷ xs)) ≡ cond (bytes_eq k (key y)) (Some y) (under key k (x ∷ xs))
  place_step true y x xs k other rest =
      rw rest (when_other (bytes_eq (key x) k) (bytes_eq k (key y)) (Some y) (Some x) (under key k xs) (apart (key x) (key y) k other))
  place_step false y x xs k other rest = rw (turned (key y) k) refl

  no_first : (s : Bool) (x : X) (found : Option X) → is_some (cond s (Some x) found) ≡ false → s ≡ false
  no_first true x found none = clash (sym none)
  no_first false x found none = refl

  none_behind : (s : Bool) (x : X) (found : Option X) → is_some (cond s (Some x) found) ≡ false → is_some found ≡ false
  none_behind true x found none = clash (sym none)
  none_behind false x found none = none

  pub under_placed : (y : X) (xs : List X) (k : List ℕ) → is_some (under key (key y) xs) ≡ false
      → under key k (placed key y xs) ≡ cond (bytes_eq k (key y)) (Some y) (under key k xs)
  under_placed y [] k none = rw (turned (key y) k) refl
  under_placed y (x ∷ xs) k none =
      place_step (is_before (key x) (key y)) y x xs k
      (no_first (bytes_eq (key x) (key y)) x (under key (key y) xs) none)
      (under_placed y xs k (none_behind (bytes_eq (key x) (key y)) x (under key (key y) xs) none))

  -- ---- without

  drop_step : (s : Bool) (x : X) (xs : List X) (name k : List ℕ) → bytes_eq (key x) name ≡ s
      → under key k (without key name xs) ≡ cond (bytes_eq k name) None (under key k xs)
      → under key k (cond (not s) (x ∷ without key name xs) (without key name xs)) ≡ cond (bytes_eq k name) None (under key k (x ∷ xs))
  drop_step true x xs name k s rest =
      let same : bytes_eq (key x) k ≡ bytes_eq k name = as_one (key x) name k s ∙ turned name k in
      rw (rest, same) (when_same (bytes_eq k name) None (Some x) (under key k xs))
  drop_step false x xs name k s rest =
      rw rest (when_other (bytes_eq (key x) k) (bytes_eq k name) None (Some x) (under key k xs) (apart (key x) name k s))

  always : (found : Option X) (u : Bool) → found ≡ cond u found found
  always found true = refl
  always found false = refl

  pub under_without : (name : List ℕ) (xs : List X) (k : List ℕ) → under key k (without key name xs) ≡ cond (bytes_eq k name) None (under key k xs)
  under_without name [] k = always None (bytes_eq k name)
  under_without name (x ∷ xs) k = drop_step (bytes_eq (key x) name) x xs name k refl (under_without name xs k)

  -- ---- one more at the end

  add_step : (t u : Bool) (y x : X) (found : Option X) → (t ≡ true → u ≡ false) → cond t (Some x) (cond u (Some y) found) ≡ cond u (Some y) (cond t (Some x) found)
  add_step t u y x found h = when_other t u (Some y) (Some x) found h

  pub under_added : (y : X) (xs : List X) (k : List ℕ) → is_some (under key (key y) xs) ≡ false
      → under key k (xs ++ y ∷ []) ≡ cond (bytes_eq k (key y)) (Some y) (under key k xs)
  under_added y [] k none = rw (turned (key y) k) refl
  under_added y (x ∷ xs) k none =
      rw (under_added y xs k (none_behind (bytes_eq (key x) (key y)) x (under key (key y) xs) none))
      (add_step (bytes_eq (key x) k) (bytes_eq k (key y)) y x (under key k xs)
      (apart (key x) (key y) k (no_first (bytes_eq (key x) (key y)) x (under key (key y) xs) none)))

  -- ---- what the code does

  set_step : (s : Bool) (y x : X) (xs : List X) (i : ℕ) → i ≡ cond (not s) (1 + position_or_len (is_named key (key y)) xs) 0
      → (s ≡ false → slice_set xs (position_or_len (is_named key (key y)) xs) y ≡ replaced key y xs)
      → slice_set (x ∷ xs) i y ≡ cond s (y ∷ xs) (x ∷ replaced key y xs)
  set_step true y x xs i is rest = rw is refl
  set_step false y x xs i is rest =
      let next : i ≡ suc (position_or_len (is_named key (key y)) xs) = omega (arith, is) in
      rw next (ap (λ (zs : List X). x ∷ zs) (rest refl))

  pub set_is_replaced : (y : X) (xs : List X) → slice_set xs (position_or_len (is_named key (key y)) xs) y ≡ replaced key y xs
  set_is_replaced y [] = refl
  set_is_replaced y (x ∷ xs) = set_step (bytes_eq (key x) (key y)) y x xs _ refl (λ s. set_is_replaced y xs)

  insert_step : (before : Bool) (y x : X) (xs : List X) (i : ℕ) → i ≡ cond (not (not before)) (1 + position_or_len (λ z. not (is_before (key z) (key y))) xs) 0
      → insert xs (position_or_len (λ z. not (is_before (key z) (key y))) xs) y ≡ placed key y xs
      → insert (x ∷ xs) i y ≡ cond before (x ∷ placed key y xs) (y ∷ x ∷ xs)
  insert_step true y x xs i is rest =
      let next : i ≡ suc (position_or_len (λ z. not (is_before (key z) (key y))) xs) = omega (arith, is) in
      rw next (ap (λ (zs : List X). x ∷ zs) rest)
  insert_step false y x xs i is rest = rw is refl

  pub insert_is_placed : (y : X) (xs : List X) → insert xs (position_or_len (λ z. not (is_before (key z) (key y))) xs) y ≡ placed key y xs
  insert_is_placed y [] = refl
  insert_is_placed y (x ∷ xs) = insert_step (is_before (key x) (key y)) y x xs _ refl (insert_is_placed y xs)

  -- ---- the order

  before_all : (y x : X) (xs : List X) → is_before (key y) (key x) ≡ true → AllByRecursion (λ later. IsTrue (is_before (key x) (key later))) xs
      → AllByRecursion (λ later. IsTrue (is_before (key y) (key later))) xs
  before_all y x [] first all = tt
  before_all y x (z ∷ zs) first all = (through (key y) (key x) (key z) first all.0, before_all y x zs first all.1)

  all_choose : (P : X → Type 0) (y x : X) (xs zs : List X) (before : Bool) → P y → AllByRecursion P (x ∷ xs) → AllByRecursion P zs → AllByRecursion P (cond before (x ∷ zs) (y ∷ x ∷ xs))
  all_choose P y x xs zs true one all rest = (all.0, rest)
  all_choose P y x xs zs false one all rest = (one, all)

  all_placed : (P : X → Type 0) (y : X) (xs : List X) → P y → AllByRecursion P xs → AllByRecursion P (placed key y xs)
  all_placed P y [] one all = (one, tt)
  all_placed P y (x ∷ xs) one all = all_choose P y x xs (placed key y xs) (is_before (key x) (key y)) one all (all_placed P y xs one all.1)

  order_choose : (y x : X) (xs : List X) (before : Bool) → is_before (key x) (key y) ≡ before → bytes_eq (key x) (key y) ≡ false
      → Ascends key (x ∷ xs) → Ascends key (placed key y xs) → Ascends key (cond before (x ∷ placed key y xs) (y ∷ x ∷ xs))
  order_choose y x xs true first other ordered rest = (all_placed (λ later. IsTrue (is_before (key x) (key later))) y xs first ordered.0, rest)
  order_choose y x xs false first other ordered rest =
      let y_first = after_it (key x) (key y) first other in
      ((y_first, before_all y x xs y_first ordered.0), ordered)

  pub placed_ascends : (y : X) (xs : List X) → is_some (under key (key y) xs) ≡ false → Ascends key xs → Ascends key (placed key y xs)
  placed_ascends y [] none ordered = (tt, tt)
  placed_ascends y (x ∷ xs) none ordered =
      order_choose y x xs (is_before (key x) (key y)) refl (no_first (bytes_eq (key x) (key y)) x (under key (key y) xs) none) ordered
      (placed_ascends y xs (none_behind (bytes_eq (key x) (key y)) x (under key (key y) xs) none) ordered.1)

  -- ---- one more with a name that stands already

  shadow : (u : Bool) (y : X) (name k : List ℕ) (xs : List X) → bytes_eq name k ≡ u → is_some (under key name xs) ≡ true → option_or (under key k xs) (cond u (Some y) None) ≡ under key k xs
  shadow true y name k xs same there =
      let one : name ≡ k = (bytes_eq-Decides name k).0 same in
      kept (under key k xs) (subst (λ (n : List ℕ). is_some (under key n xs) ≡ true) one there)
    where
      kept : (found : Option X) → is_some found ≡ true → option_or found (Some y) ≡ found
      kept None none = clash none
      kept (Some x) some = refl
  shadow false y name k xs other there = nothing (under key k xs)
    where
      nothing : (found : Option X) → option_or found None ≡ found
      nothing None = refl
      nothing (Some x) = refl

  pub under_shadowed : (y : X) (xs : List X) (k : List ℕ) → is_some (under key (key y) xs) ≡ true → under key k (xs ++ y ∷ []) ≡ under key k xs
  under_shadowed y xs k there = find-append (is_named key k) xs (y ∷ []) ∙ shadow (bytes_eq (key y) k) y (key y) k xs refl there

  -- the same stands under each name where one more is added to lists under whose names the same stands
  pub same_added : (y : X) (xs ys : List X) (k : List ℕ) → under key k xs ≡ under key k ys → under key k (xs ++ y ∷ []) ≡ under key k (ys ++ y ∷ [])
  same_added y xs ys k same =
      find-append (is_named key k) xs (y ∷ []) ∙ ap (λ (found : Option X). option_or found (cond (bytes_eq (key y) k) (Some y) None)) same ∙ sym (find-append (is_named key k) ys (y ∷ []))
