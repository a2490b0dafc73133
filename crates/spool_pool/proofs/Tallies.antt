-- The lists of a pass after one event more.
use Rattle.std.proofs.Common.{◌≡◌, ℕ, Bool, true, false, List, [], ◌∷◌, ◌++◌, Option, Some, None, refl, ap, subst, ◌∙◌}
use Rattle.std.specs.Prelude.{◌==◌, if◌then◌else◌}
use Rattle.std.specs.List.{flat_map, AllByRecursion}
use Rattle.std.specs.List.Sorted.{IsPermutation}
use Rattle.std.proofs.lemmas.List.{append-nil}
use Rattle.std.proofs.lemmas.Grind.{flat_map-append}
use Rattle.std.proofs.lemmas.List.Sorted.{IsPermutation-refl, IsPermutation-trans, IsPermutation-append_right}
use Rattle.spool_slots.specs.States.{SlotView, FullView, BrokenView}
use Rattle.spool_rack.specs.Store.{Handed, Loan, OfLoan, Queues, given_aside, given_broken, given_free, given_full, loan_of, struck}
use Rattle.spool_pool.specs.Events.{Event, kept, spoilt, back, freed, shelved, broke, first_of, released_of, set_aside_of, broke_of, told_of, freed_by, filled_by, shelved_by, broken_by}
use Rattle.spool_pool.specs.Account.{handed_of}
use Rattle.spool_pool.proofs.Fates.{over}

module _ {X Y : Type 0} (f : X → List Y) where
  pub more : (xs : List X) (x : X) → flat_map f (xs ++ x ∷ []) ≡ flat_map f xs ++ f x
  more xs x = flat_map-append f xs (x ∷ []) ∙ ap (λ l. flat_map f xs ++ l) (append-nil (f x))

-- ---- the four lists

module _ (h : List (List ℕ)) (p : ℕ) (b : Queues) (events : List Event) where
  abbrev lists : List Event → Handed
  lists es = handed_of h p b es

  abbrev with_lists : List FullView → List Loan → List SlotView → List BrokenView → Handed
  with_lists put released aside broken = record { home = h; parts = p; began = b; put = put; released = released; aside = aside; broken = broken }

  grown : (e : Event) → lists (events ++ e ∷ [])
      ≡ with_lists (flat_map first_of events ++ first_of e) (flat_map released_of events ++ released_of e) (flat_map set_aside_of events ++ set_aside_of e) (flat_map broke_of events ++ broke_of e)
  grown e = λ i. with_lists (more first_of events e i) (more released_of events e i) (more set_aside_of events e i) (more broke_of events e i)

  same_first : flat_map first_of events ++ [] ≡ flat_map first_of events
  same_first = append-nil (flat_map first_of events)

  same_released : flat_map released_of events ++ [] ≡ flat_map released_of events
  same_released = append-nil (flat_map released_of events)

  same_aside : flat_map set_aside_of events ++ [] ≡ flat_map set_aside_of events
  same_aside = append-nil (flat_map set_aside_of events)

  same_broke : flat_map broke_of events ++ [] ≡ flat_map broke_of events
  same_broke = append-nil (flat_map broke_of events)

  unchanged : lists (events ++ []) ≡ lists events
  unchanged = ap (λ es. lists es) (append-nil events)

  pub freed_lists : (o : Option Loan) → lists (events ++ freed_by o) ≡ given_free o (lists events)
  freed_lists None = unchanged
  freed_lists (Some loan) = by_flag loan.was_full
    where
      by_flag : (w : Bool) → lists (events ++ (if w then freed loan ∷ [] else [])) ≡ (if w then record (lists events) { released = flat_map released_of events ++ loan ∷ [] } else lists events)
      by_flag true = grown (freed loan) ∙ (λ i. with_lists (same_first i) (flat_map released_of events ++ loan ∷ []) (same_aside i) (same_broke i))
      by_flag false = unchanged

  pub filled_lists : (slot : FullView) (o : Option Loan) → lists (events ++ filled_by slot o) ≡ given_full slot o (lists events)
  filled_lists slot None = unchanged
  filled_lists slot (Some loan) = by_flag loan.was_full
    where
      by_flag : (w : Bool) → lists (events ++ (if w then back loan slot ∷ [] else kept slot ∷ [])) ≡ (if w then lists events else record (lists events) { put = flat_map first_of events ++ slot ∷ [] })
      by_flag true = grown (back loan slot) ∙ (λ i. with_lists (same_first i) (same_released i) (same_aside i) (same_broke i))
      by_flag false = grown (kept slot) ∙ (λ i. with_lists (flat_map first_of events ++ slot ∷ []) (same_released i) (same_aside i) (same_broke i))

  pub shelved_lists : (slot : SlotView) (loan : Loan) → lists (events ++ shelved_by slot (Some loan)) ≡ given_aside slot (lists events)
  shelved_lists slot loan = grown (shelved loan slot) ∙ (λ i. with_lists (same_first i) (same_released i) (flat_map set_aside_of events ++ slot ∷ []) (same_broke i))

  pub broken_lists : (slot : BrokenView) (loan : Loan) → lists (events ++ broken_by slot (Some loan)) ≡ given_broken slot (lists events)
  broken_lists slot loan = by_flag slot.from_full
    where
      by_flag : (w : Bool) → lists (events ++ (if w then broke loan slot ∷ [] else spoilt slot ∷ [])) ≡ (if w then record (lists events) { broken = flat_map broke_of events ++ slot ∷ [] } else lists events)
      by_flag true = grown (broke loan slot) ∙ (λ i. with_lists (same_first i) (same_released i) (same_aside i) (flat_map broke_of events ++ slot ∷ []))
      by_flag false = grown (spoilt slot) ∙ (λ i. with_lists (same_first i) (same_released i) (same_aside i) (same_broke i))

-- two passes have met
pub met_lists : (h : List (List ℕ)) (p : ℕ) (b : Queues) (events others : List Event) → handed_of h p b (events ++ others)
    ≡ record {
      home = h;
      parts = p;
      began = b;
      put = flat_map first_of events ++ flat_map first_of others;
      released = flat_map released_of events ++ flat_map released_of others;
      aside = flat_map set_aside_of events ++ flat_map set_aside_of others;
      broken = flat_map broke_of events ++ flat_map broke_of others;
    }
met_lists h p b events others = λ i. record {
  home = h;
  parts = p;
  began = b;
  put = flat_map-append first_of events others i;
  released = flat_map-append released_of events others i;
  aside = flat_map-append set_aside_of events others i;
  broken = flat_map-append broke_of events others i;
}

-- ---- slots that are out

-- the loan of a slot that is out
pub record IsLoan (P : Loan → Type 0) (n : ℕ) (out : List Loan) : Type 0 where
  pub loan : Loan
  pub is : loan_of n out ≡ Some loan
  pub holds : P loan

pub loan_here : (P : Loan → Type 0) (n : ℕ) (out : List Loan) → OfLoan P (loan_of n out) → IsLoan P n out
loan_here P n out h = by_option (loan_of n out) refl h
  where
    by_option : (o : Option Loan) → loan_of n out ≡ o → OfLoan P o → IsLoan P n out
    by_option None e h = absurd h
    by_option (Some loan) e h = record { loan = loan; is = e; holds = h }

some_is : (a b : Loan) → Some a ≡ Some b → a ≡ b
some_is a b e = cc

-- by whether the first has the number
told_at : (x loan : Loan) (xs others : List Loan) (w : Bool) (there : Option Loan) → (if w then Some x else there) ≡ Some loan
    → (there ≡ Some loan → IsPermutation (flat_map told_of xs) (told_of loan ++ flat_map told_of others))
    → IsPermutation (told_of x ++ flat_map told_of xs) (told_of loan ++ flat_map told_of (if w then xs else x ∷ others))
told_at x loan xs others true there e rest = subst (λ y. IsPermutation (told_of x ++ flat_map told_of xs) (told_of y ++ flat_map told_of xs)) (some_is x loan e) (IsPermutation-refl _)
told_at x loan xs others false there e rest = IsPermutation-trans _ _ _ (IsPermutation-append_right (told_of x) _ _ (rest e)) (over (told_of x) (told_of loan) (flat_map told_of others))

pub struck_told : (n : ℕ) (out : List Loan) (loan : Loan) → loan_of n out ≡ Some loan → IsPermutation (flat_map told_of out) (told_of loan ++ flat_map told_of (struck n out))
struck_told n [] loan e = absurd cc
struck_told n (x ∷ xs) loan e = told_at x loan xs (struck n xs) (x.number == n) (loan_of n xs) e (struck_told n xs loan)

all_at : (P : Loan → Type 0) (x : Loan) (xs others : List Loan) (w : Bool) → P x → AllByRecursion P xs → AllByRecursion P others → AllByRecursion P (if w then xs else x ∷ others)
all_at P x xs others true here all rest = all
all_at P x xs others false here all rest = (here, rest)

pub struck_all : (P : Loan → Type 0) (n : ℕ) (out : List Loan) → AllByRecursion P out → AllByRecursion P (struck n out)
struck_all P n [] h = h
struck_all P n (x ∷ xs) h = all_at P x xs (struck n xs) (x.number == n) h.0 h.1 (struck_all P n xs h.1)

holds_at : (P : Loan → Type 0) (x loan : Loan) (w : Bool) (there : Option Loan) → (if w then Some x else there) ≡ Some loan → P x → (there ≡ Some loan → P loan) → P loan
holds_at P x loan true there e here rest = subst P (some_is x loan e) here
holds_at P x loan false there e here rest = rest e

pub loan_holds : (P : Loan → Type 0) (n : ℕ) (out : List Loan) (loan : Loan) → AllByRecursion P out → loan_of n out ≡ Some loan → P loan
loan_holds P n [] loan h e = absurd cc
loan_holds P n (x ∷ xs) loan h e = holds_at P x loan (x.number == n) (loan_of n xs) e h.0 (loan_holds P n xs loan h.1)
