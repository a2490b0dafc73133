-- Finding a name among elements that stand in the order of their names, and putting one in its place.
use Rattle.std.proofs.Common.{◌≡◌, ℕ, zero, suc, ◌+◌, ◌<◌, ◌≤◌, Bool, true, false, cond, not, List, [], ◌∷◌, length, get_or, Option, Some, None, IsTrue, is_some, Ordering, Less, Equal, Greater, is_eq, is_lt, nat_cmp, refl, sym, ap, subst, ◌∙◌, arith}
use mathlib.Core.Bool.{true≢false}
use Rattle.std.specs.Cmp.Lexicographic.{slice_cmp, nat_list_cmp_total, nat_list_eq_equiv}
use Rattle.std.specs.List.{AllByRecursion, insert, position_or_len, slice_get, slice_set}
use Rattle.std.specs.List.Sorted.{IsPartitionPoint, IsPartitionedBy}
use Rattle.std.specs.Ordering.{ordering_reverse}
use Rattle.std.specs.Str.{bytes_eq}
use Rattle.std.proofs.lemmas.List.Sums.{position_or_len_is}
use Rattle.std.proofs.lemmas.Map.Text.{is_eq-slice_cmp}
use Rattle.std.proofs.lemmas.Slice.Eq.{bytes_eq-Decides}
use Rattle.fw_types.specs.Keyed.{Ascends, is_named, placed, under, without}
use Rattle.fw_types.specs.Name.{is_before}
use Rattle.fw_types.proofs.KeyedLemmas.{insert_is_placed}
use Rattle.auth_records.specs.Spelling.{Fields}
use Rattle.auth_machine.specs.MachineState.{if_named}
use Rattle.auth_machine.specs.State.{record_at, record_name}

clash : {A : Type 0} → false ≡ true → A
clash h = absurd (true≢false (sym h))

-- ---- names

less : (o : Ordering) → is_lt o ≡ true → o ≡ Less
less Less h = refl
less Equal h = clash h
less Greater h = clash h

-- a name that comes before another which comes before a third comes before that one
through : (m n k : List ℕ) → is_before m n ≡ true → is_before n k ≡ true → is_before m k ≡ true
through m n k first after = ap is_lt (nat_list_cmp_total.trans m n k (less (slice_cmp nat_cmp m n) first) (less (slice_cmp nat_cmp n k) after))

not_equal : (o : Ordering) (b : Bool) → is_lt o ≡ true → is_eq o ≡ b → b ≡ false
not_equal Less b h e = sym e
not_equal Equal b h e = clash h
not_equal Greater b h e = clash h

-- a name that comes before another isn't that one
other : (m n : List ℕ) → is_before m n ≡ true → bytes_eq m n ≡ false
other m n before = not_equal (slice_cmp nat_cmp m n) (bytes_eq m n) before (is_eq-slice_cmp m n)

turned : (m n : List ℕ) → bytes_eq m n ≡ bytes_eq n m
turned m n = nat_list_eq_equiv.symm m n

reversed : (o : Ordering) → is_lt o ≡ false → is_eq o ≡ false → is_lt (ordering_reverse o) ≡ true
reversed Less h e = clash (sym h)
reversed Equal h e = clash (sym e)
reversed Greater h e = refl

-- one that neither comes before another nor is that one comes after it
after_it : (m n : List ℕ) → is_before m n ≡ false → bytes_eq m n ≡ false → is_before n m ≡ true
after_it m n behind differ = ap is_lt (nat_list_cmp_total.antisymm n m) ∙ reversed (slice_cmp nat_cmp m n) behind (is_eq-slice_cmp m n ∙ differ)

turned_before : (o : Ordering) → is_lt o ≡ true → is_lt (ordering_reverse o) ≡ false
turned_before Less h = refl
turned_before Equal h = clash h
turned_before Greater h = clash h

-- two names don't come before each other
one_way : (m n : List ℕ) → is_before m n ≡ true → is_before n m ≡ false
one_way m n before = ap is_lt (nat_list_cmp_total.antisymm n m) ∙ turned_before (slice_cmp nat_cmp m n) before

module _ {X : Type 0} (key : X → List ℕ) where
  -- ---- where a name belongs

  at_place : (P : X → Type 0) (xs : List X) (i : ℕ) (d : X) → i < length xs → AllByRecursion P xs → P (get_or xs i d)
  at_place P [] i d within all = absurd (omega (arith, within))
  at_place P (x ∷ xs) zero d within all = all.0
  at_place P (x ∷ xs) (suc i) d within all = at_place P xs i d (omega (arith, within)) all.1

  -- those that come before a name stand in front of all others
  pub parted : (name : List ℕ) (xs : List X) → Ascends key xs → IsPartitionedBy (λ x. is_before (key x) name) xs
  parted name [] ordered i j d most within passes = absurd (omega (arith, within))
  parted name (x ∷ xs) ordered zero zero d most within passes = passes
  parted name (x ∷ xs) ordered zero (suc j) d most within passes =
      through (key x) (key (get_or xs j d)) name (at_place (λ z. IsTrue (is_before (key x) (key z))) xs j d (omega (arith, within)) ordered.0) passes
  parted name (x ∷ xs) ordered (suc i) zero d most within passes = absurd (omega (arith, most))
  parted name (x ∷ xs) ordered (suc i) (suc j) d most within passes = parted name xs ordered.1 i j d (omega (arith, most)) (omega (arith, within)) passes

  pub place_is : (name : List ℕ) (xs : List X) (i : ℕ) → i ≤ length xs → IsPartitionPoint (λ x. is_before (key x) name ≡ true) (λ x. is_before (key x) name ≡ false) xs i
      → i ≡ position_or_len (λ x. not (is_before (key x) name)) xs
  place_is name [] i within point = omega (arith, within)
  place_is name (x ∷ xs) i within point =
      sym (position_or_len_is (λ z. not (is_before (key z) name)) (x ∷ xs) i x within (λ k h. ap not (point.0 k x (omega arith) h)) (λ h. ap not (point.1 i x (omega arith) h)))

  -- ---- what stands there

  -- none of those that come after a name has it
  none_later : (name : List ℕ) (xs : List X) → AllByRecursion (λ z. IsTrue (is_before name (key z))) xs → under key name xs ≡ None
  none_later name [] all = refl
  none_later name (z ∷ zs) all = choose (bytes_eq (key z) name) (turned (key z) name ∙ other name (key z) all.0) (none_later name zs all.1)
    where
      choose : (b : Bool) → b ≡ false → under key name zs ≡ None → cond b (Some z) (under key name zs) ≡ None
      choose false e rest = rest
      choose true e rest = clash (sym e)

  later_than : (m n : List ℕ) (xs : List X) → is_before m n ≡ true → AllByRecursion (λ z. IsTrue (is_before n (key z))) xs → AllByRecursion (λ z. IsTrue (is_before m (key z))) xs
  later_than m n [] before all = tt
  later_than m n (z ∷ zs) before all = (through m n (key z) before all.0, later_than m n zs before all.1)

  -- what has the name stands where it belongs
  pub found_there : (name : List ℕ) (xs : List X) → Ascends key xs → under key name xs ≡ if_named key name (slice_get xs (position_or_len (λ x. not (is_before (key x) name)) xs))
  found_there name [] ordered = refl
  found_there name (x ∷ xs) ordered = choose (is_before (key x) name) refl _ refl (found_there name xs ordered.1)
    where
      differs : (b : Bool) → b ≡ false → cond b (Some x) (under key name xs) ≡ under key name xs
      differs false e = refl
      differs true e = clash (sym e)

      here : (b : Bool) → bytes_eq (key x) name ≡ b → is_before (key x) name ≡ false → cond b (Some x) (under key name xs) ≡ cond b (Some x) None
      here true e behind = refl
      here false e behind = none_later name xs (later_than name (key x) xs (after_it (key x) name behind e) ordered.0)

      choose : (before : Bool) → is_before (key x) name ≡ before → (i : ℕ) → i ≡ cond (not (not before)) (1 + position_or_len (λ z. not (is_before (key z) name)) xs) 0
          → under key name xs ≡ if_named key name (slice_get xs (position_or_len (λ z. not (is_before (key z) name)) xs))
          → under key name (x ∷ xs) ≡ if_named key name (slice_get (x ∷ xs) i)
      choose true e i is rest =
          let next : i ≡ suc (position_or_len (λ z. not (is_before (key z) name)) xs) = omega (arith, is) in
          rw next (differs (bytes_eq (key x) name) (other (key x) name e) ∙ rest)
      choose false e i is rest = rw is (here (bytes_eq (key x) name) refl e)

  -- ---- putting one in its place

  none_dropped : (name : List ℕ) (xs : List X) → under key name xs ≡ None → without key name xs ≡ xs
  none_dropped name [] none = refl
  none_dropped name (x ∷ xs) none = choose (bytes_eq (key x) name) none (none_dropped name xs)
    where
      choose : (b : Bool) → cond b (Some x) (under key name xs) ≡ None → (under key name xs ≡ None → without key name xs ≡ xs) → cond (not b) (x ∷ without key name xs) (without key name xs) ≡ x ∷ xs
      choose false e rest = ap (λ (zs : List X). x ∷ zs) (rest e)
      choose true e rest = absurd (cc)

  -- one whose name isn't there is put in where it belongs
  pub inserted : (y : X) (xs : List X) → under key (key y) xs ≡ None → insert xs (position_or_len (λ z. not (is_before (key z) (key y))) xs) y ≡ placed key y (without key (key y) xs)
  inserted y xs none = insert_is_placed key y xs ∙ ap (placed key y) (sym (none_dropped (key y) xs none))

  first_of : (y : X) (xs : List X) → AllByRecursion (λ z. IsTrue (is_before (key y) (key z))) xs → placed key y xs ≡ y ∷ xs
  first_of y [] all = refl
  first_of y (z ∷ zs) all = choose (is_before (key z) (key y)) (one_way (key y) (key z) all.0)
    where
      choose : (b : Bool) → b ≡ false → cond b (z ∷ placed key y zs) (y ∷ z ∷ zs) ≡ y ∷ z ∷ zs
      choose false e = refl
      choose true e = clash (sym e)

  placed_behind : (y x : X) (xs : List X) → is_before (key x) (key y) ≡ true → placed key y (x ∷ xs) ≡ x ∷ placed key y xs
  placed_behind y x xs e = rw e refl

  without_other : (name : List ℕ) (x : X) (xs : List X) → bytes_eq (key x) name ≡ false → without key name (x ∷ xs) ≡ x ∷ without key name xs
  without_other name x xs e = rw e refl

  without_it : (name : List ℕ) (x : X) (xs : List X) → bytes_eq (key x) name ≡ true → without key name (x ∷ xs) ≡ without key name xs
  without_it name x xs e = rw e refl

  further_on : (name : List ℕ) (x found : X) (xs : List X) → bytes_eq (key x) name ≡ false → under key name (x ∷ xs) ≡ Some found → under key name xs ≡ Some found
  further_on name x found xs e there = sym (ap (λ (b : Bool). cond b (Some x) (under key name xs)) e) ∙ there

  -- and one whose name is there takes the place of the one that has it
  pub in_place : (y : X) (xs : List X) (found : X) → Ascends key xs → under key (key y) xs ≡ Some found
      → slice_set xs (position_or_len (λ z. not (is_before (key z) (key y))) xs) y ≡ placed key y (without key (key y) xs)
  in_place y [] found ordered there = absurd (cc)
  in_place y (x ∷ xs) found ordered there = choose (is_before (key x) (key y)) refl _ refl (in_place y xs found ordered.1)
    where
      here : (b : Bool) → bytes_eq (key x) (key y) ≡ b → is_before (key x) (key y) ≡ false → y ∷ xs ≡ placed key y (without key (key y) (x ∷ xs))
      here true e behind =
          let later : AllByRecursion (λ z. IsTrue (is_before (key y) (key z))) xs = subst (λ (n : List ℕ). AllByRecursion (λ z. IsTrue (is_before n (key z))) xs) ((bytes_eq-Decides (key x) (key y)).0 e) ordered.0 in
          sym (first_of y xs later) ∙ ap (placed key y) (sym (none_dropped (key y) xs (none_later (key y) xs later)) ∙ sym (without_it (key y) x xs e))
      here false e behind =
          let none : under key (key y) xs ≡ None = none_later (key y) xs (later_than (key y) (key x) xs (after_it (key x) (key y) behind e) ordered.0) in
          let some : under key (key y) xs ≡ Some found = further_on (key y) x found xs e there in
          absurd (cc)

      choose : (before : Bool) → is_before (key x) (key y) ≡ before → (i : ℕ) → i ≡ cond (not (not before)) (1 + position_or_len (λ z. not (is_before (key z) (key y))) xs) 0
          → (under key (key y) xs ≡ Some found → slice_set xs (position_or_len (λ z. not (is_before (key z) (key y))) xs) y ≡ placed key y (without key (key y) xs))
          → slice_set (x ∷ xs) i y ≡ placed key y (without key (key y) (x ∷ xs))
      choose true e i is rest =
          let next : i ≡ suc (position_or_len (λ z. not (is_before (key z) (key y))) xs) = omega (arith, is) in
          let differ : bytes_eq (key x) (key y) ≡ false = other (key x) (key y) e in
          rw next (ap (λ (zs : List X). x ∷ zs) (rest (further_on (key y) x found xs differ there))
          ∙ sym (placed_behind y x (without key (key y) xs) e) ∙ ap (placed key y) (sym (without_other (key y) x xs differ)))
      choose false e i is rest = rw is (here (bytes_eq (key x) (key y)) refl e)

-- ---- records

-- a name's place among records
abbrev pub place_of : List ℕ → List Fields → ℕ
place_of name xs = position_or_len (λ f. not (is_before f.name name)) xs

pub named_there : (name : List ℕ) (xs : List Fields) (at : ℕ) → Ascends record_name xs → at ≡ place_of name xs → if_named record_name name (slice_get xs at) ≡ record_at name xs
named_there name xs at ordered is = rw is (sym (found_there record_name name xs ordered))

found_put : (f : Fields) (xs : List Fields) (at : ℕ) → Ascends record_name xs → at ≡ place_of f.name xs → is_some (if_named record_name f.name (slice_get xs at)) ≡ true
    → slice_set xs at f ≡ placed record_name f (without record_name f.name xs)
found_put f xs at ordered is stands = choose (record_at f.name xs) refl (ap is_some (sym (named_there f.name xs at ordered is)) ∙ stands)
  where
    choose : (found : Option Fields) → record_at f.name xs ≡ found → is_some (record_at f.name xs) ≡ true → slice_set xs at f ≡ placed record_name f (without record_name f.name xs)
    choose None e some = clash (sym (ap is_some e) ∙ some)
    choose (Some x) e some = rw is (in_place record_name f xs x ordered e)

missing_put : (f : Fields) (xs : List Fields) (at : ℕ) → Ascends record_name xs → at ≡ place_of f.name xs → is_some (if_named record_name f.name (slice_get xs at)) ≡ false
    → insert xs at f ≡ placed record_name f (without record_name f.name xs)
missing_put f xs at ordered is missing = choose (record_at f.name xs) refl (ap is_some (sym (named_there f.name xs at ordered is)) ∙ missing)
  where
    choose : (found : Option Fields) → record_at f.name xs ≡ found → is_some (record_at f.name xs) ≡ false → insert xs at f ≡ placed record_name f (without record_name f.name xs)
    choose None e none = rw is (inserted record_name f xs e)
    choose (Some x) e none = clash (sym none ∙ ap is_some e)

-- the same, where the name and the list are told once more
pub put_found : (f : Fields) (name : List ℕ) (xs ys zs : List Fields) (at : ℕ) (stands : Bool) → name ≡ f.name → ys ≡ xs → zs ≡ xs → Ascends record_name xs → at ≡ place_of name ys
    → stands ≡ is_some (if_named record_name name (slice_get zs at)) → stands ≡ true → slice_set xs at f ≡ placed record_name f (without record_name f.name xs)
put_found f name xs ys zs at stands named one two ordered is said holds =
    found_put f xs at ordered (is ∙ ap (place_of name) one ∙ ap (λ (n : List ℕ). place_of n xs) named)
    (sym (said ∙ ap (λ (n : List ℕ). is_some (if_named record_name n (slice_get zs at))) named ∙ ap (λ (l : List Fields). is_some (if_named record_name f.name (slice_get l at))) two) ∙ holds)

pub put_missing : (f : Fields) (name : List ℕ) (xs ys zs : List Fields) (at : ℕ) (stands : Bool) → name ≡ f.name → ys ≡ xs → zs ≡ xs → Ascends record_name xs → at ≡ place_of name ys
    → stands ≡ is_some (if_named record_name name (slice_get zs at)) → stands ≡ false → insert xs at f ≡ placed record_name f (without record_name f.name xs)
put_missing f name xs ys zs at stands named one two ordered is said fails =
    missing_put f xs at ordered (is ∙ ap (place_of name) one ∙ ap (λ (n : List ℕ). place_of n xs) named)
    (sym (said ∙ ap (λ (n : List ℕ). is_some (if_named record_name n (slice_get zs at))) named ∙ ap (λ (l : List Fields). is_some (if_named record_name f.name (slice_get l at))) two) ∙ fails)
