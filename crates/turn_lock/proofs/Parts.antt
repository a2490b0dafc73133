-- The places and the parts of all seats.
use Rattle.std.proofs.Common.{◌≡◌, ◌≢◌, ℕ, ◌+◌, ◌^◌, ◌≤◌, ⊎_elim, List, [], ◌∷◌, ◌++◌, set, refl, sym, subst, ◌∙◌, arith}
use Rattle.std.specs.Prelude.{sum_by}
use Rattle.std.proofs.lemmas.Bool.{cases_lt}
use Rattle.std.proofs.lemmas.List.Sums.{sum_by_push}
use mathlib.Core.Logic.{dite}
use mathlib.Core.Option.{some}
use native.Mathlib.Decide.{ℕ_discrete}
use lib.ListN.{get_elem?}
use Rattle.turn_lock.specs.declared.view.View.{View}
use Rattle.turn_lock.specs.Known.{given_parts, kept_parts}
use Rattle.turn_lock.specs.Law.{AreOnce, IsSpent, Parted}
use Rattle.turn_lock.specs.Views.{both, copied, lessened, spent, uses}
use Rattle.turn_lock.proofs.Sums.{each_changed, each_more, sum_alone, sum_changed}

-- ---- places

pub once_at_most : (begun end : ℕ) (f : ℕ → ℕ) → AreOnce begun end f → (place : ℕ) → f place ≤ 1
once_at_most begun end f o place = ⊎_elim (λ low. let n = o.before place low in omega (arith, n))
    (λ high. ⊎_elim (λ inside. let n = o.made place high inside in omega (arith, n)) (λ past. let n = o.after place past in omega (arith, n)) (cases_lt place end))
    (cases_lt place begun)

pub once_same : (begun end : ℕ) (f g : ℕ → ℕ) → ((place : ℕ) → g place ≡ f place) → AreOnce begun end f → AreOnce begun end g
once_same begun end f g same o = record {
  grown = o.grown;
  before = λ place low. same place ∙ o.before place low;
  made = λ place high inside. same place ∙ o.made place high inside;
  after = λ place past. same place ∙ o.after place past;
}

-- one place more, at the end
pub once_more : (begun end more : ℕ) (f g : ℕ → ℕ) → more ≡ end + 1 → (g end ≡ f end + 1) → ((place : ℕ) → end ≢ place → g place ≡ f place) → AreOnce begun end f → AreOnce begun more g
once_more begun end more f g long here others o = let start = o.grown in record {
  grown = omega (arith, long, start);
  before = λ place low. others place (λ is. omega (arith, is, low, start)) ∙ o.before place low;
  made = λ place high inside. dite (ℕ_discrete end place)
      (λ is. subst (λ (p : ℕ). g p ≡ 1) is (let n = o.after end (omega arith) in omega (arith, here, n)))
      (λ other. others place other ∙ o.made place high (omega (arith, inside, long, other)));
  after = λ place past. others place (λ is. omega (arith, is, past, long)) ∙ o.after place (omega (arith, past, long));
}

-- ---- parts

split_sum : (parts : ℕ) → kept_parts parts + given_parts parts ≤ parts
split_sum parts = omega arith

split_left : (parts : ℕ) → kept_parts parts + given_parts parts ≡ parts → kept_parts parts ≡ 0 → parts ≡ 0
split_left parts all none = omega (arith, all, none)

split_given : (parts : ℕ) → kept_parts parts + given_parts parts ≡ parts → given_parts parts ≡ 0 → parts ≡ 0
split_given parts all none = omega (arith, all, none)

module _ {E O : Type 0} where
  abbrev parts_of : List (View E O) → ℕ
  parts_of views = sum_by (λ v. v.parts) views

  abbrev Part : ℕ → View E O → Type 0
  Part seat v = v.parts ≡ 0 → IsSpent v

  -- a seat with as many parts as before
  pub parted_stays : (views : List (View E O)) (id : ℕ) (v w : View E O) → get_elem? views id ≡ some v → w.parts ≡ v.parts → (IsSpent v → IsSpent w) → Parted views → Parted (set views id w)
  parted_stays views id v w at same still p = let u = sum_changed (λ (x : View E O). x.parts) views id v w at in let most = p.most in record {
    most = omega (arith, u, same, most);
    part = λ all. let whole : parts_of views ≡ 2 ^ 64 = omega (arith, u, same, all) in
        each_changed Part views id w (λ none. still (p.part whole id v at (sym same ∙ none))) (λ j x _ there. p.part whole j x there);
  }

  spent_left : (v : View E O) → IsSpent v → IsSpent (lessened v)
  spent_left v k = record { origin = k.origin; unused = k.unused }

  spent_copied : (v : View E O) → IsSpent v → IsSpent (copied v)
  spent_copied v k = record { origin = k.origin; unused = λ place. refl }

  pub parted_split : (views : List (View E O)) (id : ℕ) (v : View E O) → get_elem? views id ≡ some v → Parted views → Parted (set views id (lessened v) ++ copied v ∷ [])
  parted_split views id v at p =
      let kept : ℕ = kept_parts v.parts in
      let given : ℕ = given_parts v.parts in
      let a : parts_of (set views id (lessened v)) + v.parts ≡ parts_of views + kept = sum_changed (λ (x : View E O). x.parts) views id v (lessened v) at in
      let b : parts_of (set views id (lessened v) ++ copied v ∷ []) ≡ parts_of (set views id (lessened v)) + given = sum_by_push (λ (x : View E O). x.parts) (set views id (lessened v)) (copied v) in
      let less : kept + given ≤ v.parts = split_sum v.parts in
      let most = p.most in record {
        most = omega (arith, a, b, less, most);
        part = λ all.
            let whole : parts_of views ≡ 2 ^ 64 = omega (arith, a, b, less, most, all) in
            let same : kept + given ≡ v.parts = omega (arith, a, b, less, most, all) in
            each_more Part (set views id (lessened v)) (copied v) (λ j none. spent_copied v (p.part whole id v at (split_given v.parts same none)))
            (each_changed Part views id (lessened v) (λ none. spent_left v (p.part whole id v at (split_left v.parts same none))) (λ j x _ there. p.part whole j x there));
      }

  spent_both : (v w : View E O) → ((place : ℕ) → uses place (both v w) ≡ uses place v + uses place w) → IsSpent v → IsSpent w → IsSpent (both v w)
  spent_both v w sum k l = record { origin = k.origin; unused = λ place. let a = k.unused place in let b = l.unused place in let c = sum place in omega (arith, a, b, c) }

  pub parted_join : (views : List (View E O)) (id other : ℕ) (v w : View E O) → ((place : ℕ) → uses place (both v w) ≡ uses place v + uses place w) → get_elem? views id ≡ some v → get_elem? views other ≡ some w
      → get_elem? (set views id (both v w)) other ≡ some w → Parted views → Parted (set (set views id (both v w)) other spent)
  parted_join views id other v w sum at its there p =
      let mid : List (View E O) = set views id (both v w) in
      let a : parts_of mid + v.parts ≡ parts_of views + (v.parts + w.parts) = sum_changed (λ (x : View E O). x.parts) views id v (both v w) at in
      let b : parts_of (set mid other spent) + w.parts ≡ parts_of mid + 0 = sum_changed (λ (x : View E O). x.parts) mid other w spent there in
      let most = p.most in record {
        most = omega (arith, a, b, most);
        part = λ all.
            let whole : parts_of views ≡ 2 ^ 64 = omega (arith, a, b, all) in
            each_changed Part mid other spent (λ _. record { origin = refl; unused = λ place. refl })
            (λ j u _ this. each_changed Part views id (both v w)
            (λ none. let zero_parts : v.parts + w.parts ≡ 0 = none in
            spent_both v w sum (p.part whole id v at (omega (arith, zero_parts))) (p.part whole other w its (omega (arith, zero_parts))))
            (λ i x _ it. p.part whole i x it) j u this);
      }

  -- who has all parts has all places
  pub has_all : (views : List (View E O)) (id : ℕ) (v : View E O) (place : ℕ) → get_elem? views id ≡ some v → Parted views → v.parts ≡ 2 ^ 64 → sum_by (uses place) views ≡ uses place v
  has_all views id v place at p all =
      let most = p.most in
      sum_alone (λ (x : View E O). x.parts) (uses place) views id v at (omega (arith, most, all))
      (λ whole j u there none. (p.part (omega (arith, most, whole, all)) j u there none).unused place)
