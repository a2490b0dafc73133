-- The first place at which a test passes.
use Rattle.std.proofs.Common.{◌≡◌, ℕ, suc, ◌+◌, ◌<◌, Bool, true, false, cond, nat_lt, List, [], ◌∷◌, ◌++◌, length, refl, sym, ap, ◌∙◌, arith}
use Rattle.std.specs.Prelude.{not, position, Option, Some, None}
use Rattle.std.specs.List.{list_all, position_or_len}
use Rattle.std.specs.Option.{option_map}
use Rattle.std.proofs.lemmas.Bool.Decides.{nat_tests}

none_before : (n : ℕ) → nat_lt 0 (suc n) ≡ true
none_before n = grind (arith, nat_tests)

same_below : (n m : ℕ) → nat_lt (1 + n) (suc m) ≡ nat_lt n m
same_below n m = grind (arith, nat_tests)

map_cond : (v : Bool) (n : ℕ) → cond v (Some (1 + n)) None ≡ option_map (λ k. suc k) (cond v (Some n) None)
map_cond true n = let e : 1 + n ≡ suc n = omega arith in ap Some e
map_cond false n = refl

-- the place in a longer list
pub position_cons : {X : Type 0} (p : X → Bool) (x : X) (xs : List X) → position p (x ∷ xs) ≡ cond (p x) (Some 0) (option_map (λ k. suc k) (position p xs))
position_cons p x xs = by (p x) refl
  where
    by : (v : Bool) → p x ≡ v → position p (x ∷ xs) ≡ cond v (Some 0) (option_map (λ k. suc k) (position p xs))
    by true h = rw (h, none_before (length xs)) refl
    by false h = rw (h, same_below (position_or_len p xs) (length xs)) (map_cond (nat_lt (position_or_len p xs) (length xs)) (position_or_len p xs))

pub position_yes : {X : Type 0} (p : X → Bool) (x : X) (xs : List X) → p x ≡ true → position p (x ∷ xs) ≡ Some 0
position_yes p x xs h = position_cons p x xs ∙ ap (λ v. cond v (Some 0) (option_map (λ k. suc k) (position p xs))) h

pub position_no : {X : Type 0} (p : X → Bool) (x : X) (xs : List X) → p x ≡ false → position p (x ∷ xs) ≡ option_map (λ k. suc k) (position p xs)
position_no p x xs h = position_cons p x xs ∙ ap (λ v. cond v (Some 0) (option_map (λ k. suc k) (position p xs))) h

suc_none : (o : Option ℕ) → option_map (λ k. suc k) o ≡ None → o ≡ None
suc_none None h = refl
suc_none (Some k) h = absurd (cc)

-- where no element passes
pub position_none : {X : Type 0} (p : X → Bool) (xs : List X) → list_all (λ x. not (p x)) xs ≡ true → position p xs ≡ None
position_none p [] h = refl
position_none p (x ∷ xs) h = by (p x) refl (position_none p xs)
  where
    by : (v : Bool) → p x ≡ v → (list_all (λ x. not (p x)) xs ≡ true → position p xs ≡ None) → position p (x ∷ xs) ≡ None
    by true e more = absurd (let no : false ≡ true = rw e at h in cc)
    by false e more = position_no p x xs e ∙ ap (option_map (λ k. suc k)) (more (rw e at h))

later_stays : (o r : Option ℕ) (k : ℕ) → ((j : ℕ) → o ≡ Some j → r ≡ Some j) → option_map (λ k. suc k) o ≡ Some k → option_map (λ k. suc k) r ≡ Some k
later_stays None r k stays h = absurd (cc)
later_stays (Some j) r k stays h = rw (stays j refl) h

-- the place stays where the list grows
pub position_stays : {X : Type 0} (p : X → Bool) (xs ys : List X) (k : ℕ) → position p xs ≡ Some k → position p (xs ++ ys) ≡ Some k
position_stays p [] ys k h = absurd (cc)
position_stays p (x ∷ xs) ys k h = by (p x) refl (λ j. position_stays p xs ys j)
  where
    by : (v : Bool) → p x ≡ v → ((j : ℕ) → position p xs ≡ Some j → position p (xs ++ ys) ≡ Some j) → position p (x ∷ (xs ++ ys)) ≡ Some k
    by true e more = position_yes p x (xs ++ ys) e ∙ sym (position_yes p x xs e) ∙ h
    by false e more = position_no p x (xs ++ ys) e ∙ later_stays (position p xs) (position p (xs ++ ys)) k more (sym (position_no p x xs e) ∙ h)

-- and a new one is at the end
abbrev here_if : Bool → ℕ → Option ℕ
here_if v n = cond v (Some n) None

suc_here : (v : Bool) (n : ℕ) → option_map (λ k. suc k) (here_if v n) ≡ here_if v (suc n)
suc_here true n = refl
suc_here false n = refl

pub position_push : {X : Type 0} (p : X → Bool) (xs : List X) (y : X) → position p xs ≡ None → position p (xs ++ y ∷ []) ≡ cond (p y) (Some (length xs)) None
position_push p [] y h = position_cons p y []
position_push p (x ∷ xs) y h = by (p x) refl (position_push p xs y)
  where
    by : (v : Bool) → p x ≡ v → (position p xs ≡ None → position p (xs ++ y ∷ []) ≡ here_if (p y) (length xs)) → position p (x ∷ (xs ++ y ∷ [])) ≡ here_if (p y) (suc (length xs))
    by true e more = absurd (let no : Some 0 ≡ None = sym (position_yes p x xs e) ∙ h in cc)
    by false e more =
        let none : position p xs ≡ None = suc_none (position p xs) (sym (position_no p x xs e) ∙ h) in
        position_no p x (xs ++ y ∷ []) e ∙ ap (option_map (λ k. suc k)) (more none) ∙ suc_here (p y) (length xs)

pub position_within : {X : Type 0} (p : X → Bool) (xs : List X) (k : ℕ) → position p xs ≡ Some k → k < length xs
position_within p [] k h = absurd (cc)
position_within p (x ∷ xs) k h = by (p x) refl (position_within p xs)
  where
    later : (o : Option ℕ) → ((j : ℕ) → o ≡ Some j → j < length xs) → option_map (λ k. suc k) o ≡ Some k → k < suc (length xs)
    later None more e = absurd (cc)
    later (Some j) more e = let there = more j refl in let is : suc j ≡ k = cc in omega (arith, there, is)

    by : (v : Bool) → p x ≡ v → ((j : ℕ) → position p xs ≡ Some j → j < length xs) → k < suc (length xs)
    by true e more = let is : 0 ≡ k = (let same = sym (position_yes p x xs e) ∙ h in cc) in omega (arith, is)
    by false e more = later (position p xs) more (sym (position_no p x xs e) ∙ h)
