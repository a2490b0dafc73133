-- The numbers of the slots of a rack.
use Rattle.std.proofs.Common.{arith, eq-eqb, ne_eqb, ◌≡◌, refl, sym, ap, subst, ◌∙◌, ℕ, zero, suc, ◌+◌, ◌<◌, ◌≤◌, inl, inr, ◌⊎◌, nat_eq, cond, Bool, true, false, List, [], ◌∷◌, ◌++◌, length, map, take, drop}
use Rattle.std.specs.List.{AllByRecursion, sum_by}
use Rattle.std.specs.List.Sorted.{IsNonDecreasingBy}
use Rattle.std.proofs.lemmas.Bool.{cases_eq, cases_order}
use Rattle.std.proofs.lemmas.List.{map-append}
use Rattle.std.proofs.lemmas.List.Elements.{recursion_from_All}
use Rattle.std.proofs.lemmas.List.Sums.{sum_by-append, sum_by-cons}
use Rattle.fw_disk.specs.DiskView.{DiskView}
use Rattle.spool_rack.specs.Opening.{AreSlotsOf, HeldView, all_of, held_broken, held_full, held_slot, queues_of}
use Rattle.spool_rack.specs.Store.{Queues}
use Rattle.spool_slots.specs.Opened.{number_of}
use Rattle.spool_slots.specs.declared.opening.Opened.{Opened}
use Rattle.spool_slots.specs.declared.opening.Opened.TheVariants.{Free, Full, Aside}

-- ---- how many slots have a number

abbrev pub one_at : ℕ → ℕ → ℕ
one_at k n = cond (nat_eq n k) 1 0

abbrev pub held_count : ℕ → List HeldView → ℕ
held_count k slots = sum_by (λ (h : HeldView). one_at k h.number) slots

abbrev pub count_in : ℕ → Queues → ℕ
count_in k q = held_count k (all_of q)

-- how many of so many numbers from one on are this
abbrev pub count_from : ℕ → ℕ → ℕ → ℕ
count_from k a zero = 0
count_from k a (suc n) = one_at k a + count_from k (a + 1) n

pub one_here : (n : ℕ) → one_at n n ≡ 1
one_here n = ap (λ (b : Bool). cond b 1 0) (eq-eqb n n refl)

pub one_other : (k n : ℕ) → (n ≡ k → ⊥) → one_at k n ≡ 0
one_other k n never = ap (λ (b : Bool). cond b 1 0) (ne_eqb n k never)

-- ---- queues

pub held_added : {X : Type 0} (held : X → HeldView) (xs : List X) (x : X) (k : ℕ) → held_count k (map held (xs ++ x ∷ [])) ≡ held_count k (map held xs) + one_at k (held x).number
held_added held xs x k =
    let f : HeldView → ℕ = λ h. one_at k h.number in
    let one = sum_by-cons f (held x) [] in
    let both = sum_by-append f (map held xs) (held x ∷ []) in
    ap (λ (l : List HeldView). sum_by f l) (map-append held xs (x ∷ [])) ∙ omega (arith, one, both)

pub held_first : {X : Type 0} (held : X → HeldView) (xs : List X) (x : X) (k : ℕ) → take 1 xs ≡ x ∷ [] → held_count k (map held xs) ≡ one_at k (held x).number + held_count k (map held (drop 1 xs))
held_first held [] x k is = absurd (cc)
held_first held (y ∷ xs) x k is =
    let same : y ≡ x = cc in
    sum_by-cons (λ (h : HeldView). one_at k h.number) (held y) (map held xs) ∙ ap (λ z. one_at k (held z).number + held_count k (map held xs)) same

pub four_counts : (k : ℕ) (q : Queues) → count_in k q ≡ held_count k (map held_slot q.free) + (held_count k (map held_full q.full) + (held_count k (map held_slot q.aside) + held_count k (map held_broken q.broken)))
four_counts k q =
    let f : HeldView → ℕ = λ h. one_at k h.number in
    let a = sum_by-append f (map held_slot q.free ++ map held_full q.full ++ map held_slot q.aside) (map held_broken q.broken) in
    let b = sum_by-append f (map held_slot q.free ++ map held_full q.full) (map held_slot q.aside) in
    let c = sum_by-append f (map held_slot q.free) (map held_full q.full) in
    omega (arith, a, b, c)

-- one more slot that was opened
opened_one : {D : Type 0} (k : ℕ) (slot : Opened D) (slots : List (Opened D)) → count_in k (queues_of (slot ∷ slots)) ≡ one_at k (number_of slot) + count_in k (queues_of slots)
opened_one k (Free slot) slots =
    let before = four_counts k (queues_of slots) in
    let after = four_counts k (queues_of (Free slot ∷ slots)) in
    let more = sum_by-cons (λ (h : HeldView). one_at k h.number) (held_slot slot) (map held_slot (queues_of slots).free) in
    omega (arith, before, after, more)
opened_one k (Full slot) slots =
    let before = four_counts k (queues_of slots) in
    let after = four_counts k (queues_of (Full slot ∷ slots)) in
    let more = sum_by-cons (λ (h : HeldView). one_at k h.number) (held_full slot) (map held_full (queues_of slots).full) in
    omega (arith, before, after, more)
opened_one k (Aside slot) slots =
    let before = four_counts k (queues_of slots) in
    let after = four_counts k (queues_of (Aside slot ∷ slots)) in
    let more = sum_by-cons (λ (h : HeldView). one_at k h.number) (held_slot slot) (map held_slot (queues_of slots).aside) in
    omega (arith, before, after, more)

-- the slots of disks have the numbers of their places
pub opened_counts : {D : Type 0} (k a : ℕ) (disks : List DiskView) (slots : List (Opened D)) → AreSlotsOf D a disks slots → count_in k (queues_of slots) ≡ count_from k a (length slots)
opened_counts k a [] [] h = refl
opened_counts k a [] (slot ∷ slots) h = absurd h
opened_counts k a (disk ∷ disks) [] h = absurd h
opened_counts k a (disk ∷ disks) (slot ∷ slots) h =
    opened_one k slot slots ∙ ap (λ (n : ℕ). one_at k n + count_in k (queues_of slots)) h.0.onward.number_is ∙ ap (λ (n : ℕ). one_at k a + n) (opened_counts k (a + 1) disks slots h.1)

-- ---- in order of their numbers

-- they have the numbers from this one on
abbrev pub NumberedFrom : ℕ → List HeldView → Type 0
NumberedFrom a [] = Unit {0}
NumberedFrom a (slot ∷ slots) = (slot.number ≡ a) × NumberedFrom (a + 1) slots

pub none_below : (k a n : ℕ) → k < a → count_from k a n ≡ 0
none_below k a zero low = refl
none_below k a (suc n) low =
    let here = one_other k a (λ is. omega (arith, low, is)) in
    let more = none_below k (a + 1) n (omega (arith, low)) in
    omega (arith, here, more)

none_held : (k : ℕ) (slots : List HeldView) → AllByRecursion (λ slot. k < slot.number) slots → held_count k slots ≡ 0
none_held k [] all = refl
none_held k (slot ∷ slots) all =
    let low = all.0 in
    let here = one_other k slot.number (λ is. omega (arith, low, is)) in
    let more = none_held k slots all.1 in
    let both = sum_by-cons (λ (h : HeldView). one_at k h.number) slot slots in
    omega (arith, here, more, both)

pub weaker : {X : Type 0} (P Q : X → Type 0) → ((x : X) → P x → Q x) → (xs : List X) → AllByRecursion P xs → AllByRecursion Q xs
weaker P Q so [] all = tt
weaker P Q so (x ∷ xs) all = (so x all.0, weaker P Q so xs all.1)

-- no later slot has a lower number than the first
first_least : (slot : HeldView) (slots : List HeldView) → IsNonDecreasingBy (λ (s : HeldView). s.number) (slot ∷ slots) → AllByRecursion (λ s. slot.number ≤ s.number) slots
first_least slot slots rise = recursion_from_All (λ (s : HeldView). slot.number ≤ s.number) slots (λ k d lt. rise 0 (suc k) d (omega arith) (omega (arith, lt)))

pub rest_rises : (slot : HeldView) (slots : List HeldView) → IsNonDecreasingBy (λ (s : HeldView). s.number) (slot ∷ slots) → IsNonDecreasingBy (λ (s : HeldView). s.number) slots
rest_rises slot slots rise = λ i j d le lt. rise (suc i) (suc j) d (omega (arith, le)) (omega (arith, lt))

pub first_by : (slot : HeldView) (slots : List HeldView) (a n : ℕ) → IsNonDecreasingBy (λ (s : HeldView). s.number) (slot ∷ slots) → ((k : ℕ) → held_count k (slot ∷ slots) ≡ count_from k a (suc n))
    → (slot.number ≡ a) ⊎ ((slot.number < a) ⊎ (a < slot.number)) → slot.number ≡ a
first_by slot slots a n rise counts (inl same) = same
first_by slot slots a n rise counts (inr (inl low)) =
    let none = none_below slot.number a (suc n) low in
    let all = counts slot.number in
    let here = one_here slot.number in
    let both = sum_by-cons (λ (h : HeldView). one_at slot.number h.number) slot slots in
    absurd (omega (arith, none, all, here, both))
first_by slot slots a n rise counts (inr (inr high)) =
    let later = weaker (λ (s : HeldView). slot.number ≤ s.number) (λ (s : HeldView). a < s.number) (λ s le. omega (arith, high, le)) slots (first_least slot slots rise) in
    let none = none_held a (slot ∷ slots) (high, later) in
    let all = counts a in
    let here = one_here a in
    absurd (omega (arith, none, all, here))

pub numbered : (a n : ℕ) (slots : List HeldView) → IsNonDecreasingBy (λ (s : HeldView). s.number) slots → ((k : ℕ) → held_count k slots ≡ count_from k a n) → NumberedFrom a slots
numbered a n [] rise counts = tt
numbered a zero (slot ∷ slots) rise counts =
    let none = counts slot.number in
    let here = one_here slot.number in
    let both = sum_by-cons (λ (h : HeldView). one_at slot.number h.number) slot slots in
    absurd (omega (arith, none, here, both))
numbered a (suc n) (slot ∷ slots) rise counts =
    let first : slot.number ≡ a = first_by slot slots a n rise counts (cases_order slot.number a) in
    let less : (k : ℕ) → held_count k slots ≡ count_from k (a + 1) n = λ k. (
    let all = counts k in
    let both = sum_by-cons (λ (h : HeldView). one_at k h.number) slot slots in
    let same : one_at k slot.number ≡ one_at k a = ap (one_at k) first in
    omega (arith, all, both, same)
    ) in
    (first, numbered (a + 1) n slots (rest_rises slot slots rise) less)

-- ---- each number stands once

bit_most : (b : Bool) → cond b 1 0 ≤ 1
bit_most true = omega arith
bit_most false = omega arith

pub count_once : (k a n : ℕ) → count_from k a n ≤ 1
count_once k a zero = omega arith
count_once k a (suc n) =
    elim (cases_eq a k) [
      | inl is ↦ let none = none_below k (a + 1) n (omega (arith, is)) in let one = bit_most (nat_eq a k) in omega (arith, none, one)
      | inr other ↦ let rest = count_once k (a + 1) n in let none = one_other k a other in omega (arith, rest, none)
    ]

pub count_below : (k a n : ℕ) → 1 ≤ count_from k a n → k < a + n
count_below k a zero some = absurd (omega (arith, some))
count_below k a (suc n) some =
    elim (cases_eq a k) [
      | inl is ↦ omega (arith, is)
      | inr other ↦ let none = one_other k a other in let rest = count_below k (a + 1) n (omega (arith, some, none)) in omega (arith, rest)
    ]

-- slots with so many numbers are so many
pub numbered_length : (a n : ℕ) (slots : List HeldView) → IsNonDecreasingBy (λ (s : HeldView). s.number) slots → ((k : ℕ) → held_count k slots ≡ count_from k a n) → length slots ≡ n
numbered_length a zero [] rise counts = refl
numbered_length a (suc n) [] rise counts =
    let some = counts a in
    let here = one_here a in
    absurd (omega (arith, some, here))
numbered_length a zero (slot ∷ slots) rise counts =
    let none = counts slot.number in
    let here = one_here slot.number in
    let both = sum_by-cons (λ (h : HeldView). one_at slot.number h.number) slot slots in
    absurd (omega (arith, none, here, both))
numbered_length a (suc n) (slot ∷ slots) rise counts =
    let first : slot.number ≡ a = first_by slot slots a n rise counts (cases_order slot.number a) in
    let less : (k : ℕ) → held_count k slots ≡ count_from k (a + 1) n = λ k. (
    let all = counts k in
    let both = sum_by-cons (λ (h : HeldView). one_at k h.number) slot slots in
    let same : one_at k slot.number ≡ one_at k a = ap (one_at k) first in
    omega (arith, all, both, same)
    ) in
    ap (λ (m : ℕ). suc m) (numbered_length (a + 1) n slots (rest_rises slot slots rise) less)
