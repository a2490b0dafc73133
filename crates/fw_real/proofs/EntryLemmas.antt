-- What adding an entry at the end does to the order.
use Rattle.std.proofs.Common.{◌≡◌, ℕ, suc, ◌-◌, true, List, [], ◌∷◌, ◌++◌, length, IsTrue, Less, Equal, Greater, Ordering, refl, ap, sym, is_lt, nat_cmp, ◌∙◌, arith}
use mathlib.Core.Bool.{true≢false}
use Rattle.std.specs.Cmp.Lexicographic.{slice_cmp, nat_list_cmp_total}
use Rattle.std.specs.List.{AllByRecursion}
use Rattle.fw_types.specs.Keyed.{Ascends}
use Rattle.fw_types.specs.Name.{is_before}
use Rattle.fw_outside.specs.KeeperView.{NamedBytes, entry_name}
use Rattle.fw_real.specs.Entries.{is_behind}

less : (o : Ordering) → is_lt o ≡ true → o ≡ Less
less Less h = refl
less Equal h = absurd (true≢false (sym h))
less Greater h = absurd (true≢false (sym h))

-- a name that comes before another which comes before a third comes before that one
through : (m n k : List ℕ) → is_before m n ≡ true → is_before n k ≡ true → is_before m k ≡ true
through m n k first second = ap is_lt (nat_list_cmp_total.trans m n k (less (slice_cmp nat_cmp m n) first) (less (slice_cmp nat_cmp n k) second))

before_all : (x y : List ℕ × List ℕ) (xs : NamedBytes) → is_before (entry_name x) (entry_name y) ≡ true → AllByRecursion (λ later. IsTrue (is_before (entry_name y) (entry_name later))) xs
    → AllByRecursion (λ later. IsTrue (is_before (entry_name x) (entry_name later))) xs
before_all x y [] first all = tt
before_all x y (z ∷ zs) first all = (through (entry_name x) (entry_name y) (entry_name z) first all.0, before_all x y zs first all.1)

behind_rest : (x y : List ℕ × List ℕ) (xs : NamedBytes) (name : List ℕ) → is_behind (x ∷ y ∷ xs) name ≡ is_behind (y ∷ xs) name
behind_rest x y xs name =
    let next : length (x ∷ y ∷ xs) - 1 ≡ suc (length (y ∷ xs) - 1) = omega arith in
    rw next refl

-- an entry behind the last one keeps the order
pub ascends_added : (xs : NamedBytes) (y : List ℕ × List ℕ) → Ascends entry_name xs → is_behind xs (entry_name y) ≡ true → Ascends entry_name (xs ++ y ∷ [])
ascends_added [] y ordered behind = (tt, tt)
ascends_added (x ∷ []) y ordered behind = ((behind, tt), (tt, tt))
ascends_added (x ∷ z ∷ zs) y ordered behind =
    let rest : Ascends entry_name ((z ∷ zs) ++ y ∷ []) = ascends_added (z ∷ zs) y ordered.1 (sym (behind_rest x z zs (entry_name y)) ∙ behind) in
    ((ordered.0.0, before_all x z (zs ++ y ∷ []) ordered.0.0 rest.0), rest)
