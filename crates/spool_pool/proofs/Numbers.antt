-- Each take, put and meeting keeps the numbers of slots.
use Rattle.std.proofs.Common.{◌≡◌, ℕ, ◌+◌, Bool, true, false, cond, List, [], ◌∷◌, ◌++◌, Option, Some, None, nat_eq, refl, ap, sym, ◌∙◌, arith}
use Rattle.std.specs.List.{flat_map, sum_by}
use Rattle.std.specs.List.Sorted.{IsPermutation}
use Rattle.std.proofs.lemmas.Bool.{eqb-true}
use Rattle.std.proofs.lemmas.List.Sums.{sum_by-append, sum_by-cons, sum_by_push}
use Rattle.std.proofs.lemmas.List.Sorted.{sum_by-IsPermutation}
use Rattle.spool_slots.specs.States.{SlotView, FullView, BrokenView}
use Rattle.spool_rack.specs.Store.{IsOut, Loan, OfLoan, loan_of, struck}
use Rattle.shared_queue.specs.Moves.{Moves, StandIn, met, put_more, taken_out}
use Rattle.spool_pool.specs.Shelf.{ShelvedView, is_aside, is_broken, aside_of, broken_of, number_on}
use Rattle.spool_pool.specs.Numbers.{AreKept, all_at, broken_at, full_at, one_at, out_at, shelved_at, slots_at}

-- ---- sums

taken_more : (ft fu fp up sp o x ft' o' : ℕ) → ft + fu ≡ fp + up + sp + o → ft' ≡ ft + x → o' ≡ x + o → ft' + fu ≡ fp + up + sp + o'
taken_more ft fu fp up sp o x ft' o' e a b = omega (arith, e, a, b)

full_taken_more : (ft fu fp up sp o x fu' o' : ℕ) → ft + fu ≡ fp + up + sp + o → fu' ≡ fu + x → o' ≡ x + o → ft + fu' ≡ fp + up + sp + o'
full_taken_more ft fu fp up sp o x fu' o' e a b = omega (arith, e, a, b)

free_put_more : (ft fu fp up sp o x fp' o' : ℕ) → ft + fu ≡ fp + up + sp + o → fp' ≡ fp + x → o ≡ x + o' → ft + fu ≡ fp' + up + sp + o'
free_put_more ft fu fp up sp o x fp' o' e a b = omega (arith, e, a, b)

full_put_more : (ft fu fp up sp o x up' o' : ℕ) → ft + fu ≡ fp + up + sp + o → up' ≡ up + x → o ≡ x + o' → ft + fu ≡ fp + up' + sp + o'
full_put_more ft fu fp up sp o x up' o' e a b = omega (arith, e, a, b)

shelf_put_more : (ft fu fp up sp o x sp' o' : ℕ) → ft + fu ≡ fp + up + sp + o → sp' ≡ sp + x → o ≡ x + o' → ft + fu ≡ fp + up + sp' + o'
shelf_put_more ft fu fp up sp o x sp' o' e a b = omega (arith, e, a, b)

both_sums : (ft fu fp up sp o ft' fu' fp' up' sp' a b c d e : ℕ) → ft + fu ≡ fp + up + sp + o → ft' + fu' ≡ fp' + up' + sp' + 0 → a ≡ ft + ft' → b ≡ fu + fu' → c ≡ fp + fp' → d ≡ up + up' → e ≡ sp + sp' → a + b ≡ c + d + e + o
both_sums ft fu fp up sp o ft' fu' fp' up' sp' a b c d e h k p q r s t = omega (arith, h, k, p, q, r, s, t)

-- ---- slots that are out

at_first : (k n : ℕ) (x : Loan) (xs : List Loan) (w : Bool) → nat_eq x.number n ≡ w → OfLoan (λ loan. Unit {0}) (cond w (Some x) (loan_of n xs)) → (IsOut n xs → out_at k xs ≡ one_at k n + out_at k (struck n xs))
    → out_at k (x ∷ xs) ≡ one_at k n + out_at k (cond w xs (x ∷ struck n xs))
at_first k n x xs true e out rest = sum_by-cons (λ (l : Loan). one_at k l.number) x xs ∙ ap (λ m. one_at k m + out_at k xs) (eqb-true x.number n e)
at_first k n x xs false e out rest =
    let behind = sum_by-cons (λ (l : Loan). one_at k l.number) x xs in
    let struck_so = sum_by-cons (λ (l : Loan). one_at k l.number) x (struck n xs) in
    later (one_at k x.number) (out_at k xs) (one_at k n) (out_at k (struck n xs)) (out_at k (x ∷ xs)) (out_at k (x ∷ struck n xs)) behind struck_so (rest out)
  where
    later : (x o n s a b : ℕ) → a ≡ x + o → b ≡ x + s → o ≡ n + s → a ≡ n + b
    later x o n s a b e f g = omega (arith, e, f, g)

pub struck_at : (k n : ℕ) (out : List Loan) → IsOut n out → out_at k out ≡ one_at k n + out_at k (struck n out)
struck_at k n [] out = absurd out
struck_at k n (x ∷ xs) out = at_first k n x xs (nat_eq x.number n) refl out (struck_at k n xs)

of_loan : (P : Loan → Type 0) (o : Option Loan) → OfLoan P o → OfLoan (λ loan. Unit {0}) o
of_loan P None h = h
of_loan P (Some loan) h = tt

pub is_out : (P : Loan → Type 0) (n : ℕ) (out : List Loan) → OfLoan P (loan_of n out) → IsOut n out
is_out P n out h = of_loan P (loan_of n out) h

-- ---- takes and puts

pub kept_none : (free : Moves SlotView) (full : Moves FullView) (shelf : Moves ShelvedView) → free.put ≡ [] → free.taken ≡ [] → full.put ≡ [] → full.taken ≡ [] → shelf.put ≡ [] → AreKept free full shelf []
kept_none free full shelf a b c d e = record {
  each = λ k.
      let ft : slots_at k free.taken ≡ 0 = ap (slots_at k) b in
      let fu : full_at k full.taken ≡ 0 = ap (full_at k) d in
      let fp : slots_at k free.put ≡ 0 = ap (slots_at k) a in
      let up : full_at k full.put ≡ 0 = ap (full_at k) c in
      let sp : shelved_at k shelf.put ≡ 0 = ap (shelved_at k) e in
      all _ _ _ _ _ ft fu fp up sp;
}
  where
    all : (ft fu fp up sp : ℕ) → ft ≡ 0 → fu ≡ 0 → fp ≡ 0 → up ≡ 0 → sp ≡ 0 → ft + fu ≡ fp + up + sp + 0
    all ft fu fp up sp a b c d e = omega (arith, a, b, c, d, e)

module _ (free : Moves SlotView) (full : Moves FullView) (shelf : Moves ShelvedView) (out : List Loan) (s : AreKept free full shelf out) where
  pub kept_take_free : (slot : SlotView) (loan : Loan) → loan.number ≡ slot.number → AreKept (taken_out slot free) full shelf (loan ∷ out)
  kept_take_free slot loan e = record {
    each = λ k. taken_more (slots_at k free.taken) (full_at k full.taken) (slots_at k free.put) (full_at k full.put) (shelved_at k shelf.put) (out_at k out) (one_at k slot.number) (slots_at k (free.taken ++ slot ∷ [])) (out_at k (loan ∷ out)) (s.each k)
        (sum_by_push (λ (x : SlotView). one_at k x.number) free.taken slot)
        (sum_by-cons (λ (l : Loan). one_at k l.number) loan out ∙ ap (λ n. one_at k n + out_at k out) e);
  }

  pub kept_take_full : (slot : FullView) (loan : Loan) → loan.number ≡ slot.number → AreKept free (taken_out slot full) shelf (loan ∷ out)
  kept_take_full slot loan e = record {
    each = λ k. full_taken_more (slots_at k free.taken) (full_at k full.taken) (slots_at k free.put) (full_at k full.put) (shelved_at k shelf.put) (out_at k out) (one_at k slot.number) (full_at k (full.taken ++ slot ∷ [])) (out_at k (loan ∷ out)) (s.each k)
        (sum_by_push (λ (x : FullView). one_at k x.number) full.taken slot)
        (sum_by-cons (λ (l : Loan). one_at k l.number) loan out ∙ ap (λ n. one_at k n + out_at k out) e);
  }

  pub kept_put_free : (slot : SlotView) → IsOut slot.number out → AreKept (put_more slot free) full shelf (struck slot.number out)
  kept_put_free slot is_out = record {
    each = λ k. free_put_more (slots_at k free.taken) (full_at k full.taken) (slots_at k free.put) (full_at k full.put) (shelved_at k shelf.put) (out_at k out) (one_at k slot.number) (slots_at k (free.put ++ slot ∷ [])) (out_at k (struck slot.number out)) (s.each k)
        (sum_by_push (λ (x : SlotView). one_at k x.number) free.put slot) (struck_at k slot.number out is_out);
  }

  pub kept_put_full : (slot : FullView) → IsOut slot.number out → AreKept free (put_more slot full) shelf (struck slot.number out)
  kept_put_full slot is_out = record {
    each = λ k. full_put_more (slots_at k free.taken) (full_at k full.taken) (slots_at k free.put) (full_at k full.put) (shelved_at k shelf.put) (out_at k out) (one_at k slot.number) (full_at k (full.put ++ slot ∷ [])) (out_at k (struck slot.number out)) (s.each k)
        (sum_by_push (λ (x : FullView). one_at k x.number) full.put slot) (struck_at k slot.number out is_out);
  }

  pub kept_put_shelved : (slot : ShelvedView) → IsOut (number_on slot) out → AreKept free full (put_more slot shelf) (struck (number_on slot) out)
  kept_put_shelved slot is_out = record {
    each = λ k. shelf_put_more (slots_at k free.taken) (full_at k full.taken) (slots_at k free.put) (full_at k full.put) (shelved_at k shelf.put) (out_at k out) (one_at k (number_on slot)) (shelved_at k (shelf.put ++ slot ∷ [])) (out_at k (struck (number_on slot) out)) (s.each k)
        (sum_by_push (λ x. one_at k (number_on x)) shelf.put slot) (struck_at k (number_on slot) out is_out);
  }

-- two passes have met, of which one has no slot out
pub kept_meet : (free free' : Moves SlotView) (full full' : Moves FullView) (shelf shelf' : Moves ShelvedView) (out : List Loan) → AreKept free full shelf out → AreKept free' full' shelf' [] → AreKept (met free free') (met full full') (met shelf shelf') out
kept_meet free free' full full' shelf shelf' out s r = record {
  each = λ k. both_sums (slots_at k free.taken) (full_at k full.taken) (slots_at k free.put) (full_at k full.put) (shelved_at k shelf.put) (out_at k out)
      (slots_at k free'.taken) (full_at k full'.taken) (slots_at k free'.put) (full_at k full'.put) (shelved_at k shelf'.put)
      (slots_at k (free.taken ++ free'.taken)) (full_at k (full.taken ++ full'.taken)) (slots_at k (free.put ++ free'.put)) (full_at k (full.put ++ full'.put)) (shelved_at k (shelf.put ++ shelf'.put)) (s.each k) (r.each k)
      (sum_by-append (λ (x : SlotView). one_at k x.number) free.taken free'.taken)
      (sum_by-append (λ (x : FullView). one_at k x.number) full.taken full'.taken)
      (sum_by-append (λ (x : SlotView). one_at k x.number) free.put free'.put)
      (sum_by-append (λ (x : FullView). one_at k x.number) full.put full'.put)
      (sum_by-append (λ x. one_at k (number_on x)) shelf.put shelf'.put);
}

-- ---- a pool that is closed

-- slots set aside and broken ones, by their kind
kinds_at : (k : ℕ) (slots : List ShelvedView) → shelved_at k slots ≡ slots_at k (flat_map aside_of slots) + broken_at k (flat_map broken_of slots)
kinds_at k [] = refl
kinds_at k (is_aside slot ∷ slots) =
    one (one_at k slot.number) (shelved_at k slots) (slots_at k (flat_map aside_of slots)) (broken_at k (flat_map broken_of slots)) (shelved_at k (is_aside slot ∷ slots)) (slots_at k (slot ∷ flat_map aside_of slots))
    (sum_by-cons (λ x. one_at k (number_on x)) (is_aside slot) slots) (sum_by-cons (λ (x : SlotView). one_at k x.number) slot (flat_map aside_of slots)) (kinds_at k slots)
  where
    one : (x s a b s' a' : ℕ) → s' ≡ x + s → a' ≡ x + a → s ≡ a + b → s' ≡ a' + b
    one x s a b s' a' e f g = omega (arith, e, f, g)
kinds_at k (is_broken slot ∷ slots) =
    one (one_at k slot.number) (shelved_at k slots) (slots_at k (flat_map aside_of slots)) (broken_at k (flat_map broken_of slots)) (shelved_at k (is_broken slot ∷ slots)) (broken_at k (slot ∷ flat_map broken_of slots))
    (sum_by-cons (λ x. one_at k (number_on x)) (is_broken slot) slots) (sum_by-cons (λ (x : BrokenView). one_at k x.number) slot (flat_map broken_of slots)) (kinds_at k slots)
  where
    one : (x s a b s' b' : ℕ) → s' ≡ x + s → b' ≡ x + b → s ≡ a + b → s' ≡ a + b'
    one x s a b s' b' e f g = omega (arith, e, f, g)

-- what a queue began with and what was put is what is left and what was taken
queue_at : {X : Type 0} (f : X → ℕ) (began put left taken : List X) → IsPermutation (began ++ put) (left ++ taken) → sum_by f began + sum_by f put ≡ sum_by f left + sum_by f taken
queue_at f began put left taken p = sym (sum_by-append f began put) ∙ sym (sum_by-IsPermutation f _ _ p) ∙ sum_by-append f left taken

-- of each number as many slots are left as there were at first
pub numbers_left : (free : Moves SlotView) (full : Moves FullView) (shelf : Moves ShelvedView) (frees : List SlotView) (fulls : List FullView) (items : List ShelvedView) → AreKept free full shelf [] → shelf.taken ≡ [] → StandIn free frees → StandIn full fulls → StandIn shelf items → (k : ℕ)
    → all_at k (record { free = frees; full = fulls; aside = flat_map aside_of items; broken = flat_map broken_of items }) ≡ all_at k (record { free = free.began; full = full.began; aside = flat_map aside_of shelf.began; broken = flat_map broken_of shelf.began })
numbers_left free full shelf frees fulls items s none p q r k =
    let gone : shelved_at k shelf.taken ≡ 0 = ap (shelved_at k) none in
    all (slots_at k free.began) (slots_at k free.put) (slots_at k frees) (slots_at k free.taken) (full_at k full.began) (full_at k full.put) (full_at k fulls) (full_at k full.taken)
    (shelved_at k shelf.began) (shelved_at k shelf.put) (shelved_at k items) (shelved_at k shelf.taken)
    (slots_at k (flat_map aside_of shelf.began)) (broken_at k (flat_map broken_of shelf.began)) (slots_at k (flat_map aside_of items)) (broken_at k (flat_map broken_of items)) (s.each k) (queue_at (λ (x : SlotView). one_at k x.number) free.began free.put frees free.taken p) (queue_at (λ (x : FullView). one_at k x.number) full.began full.put fulls full.taken q)
    (queue_at (λ x. one_at k (number_on x)) shelf.began shelf.put items shelf.taken r) gone (kinds_at k shelf.began) (kinds_at k items)
  where
    all : (fb fp fl ft ub up ul ut sb sp sl st ba bb la lb : ℕ) → ft + ut ≡ fp + up + sp + 0 → fb + fp ≡ fl + ft → ub + up ≡ ul + ut → sb + sp ≡ sl + st → st ≡ 0 → sb ≡ ba + bb → sl ≡ la + lb → fl + ul + la + lb ≡ fb + ub + ba + bb
    all fb fp fl ft ub up ul ut sb sp sl st ba bb la lb a b c d e f g = omega (arith, a, b, c, d, e, f, g)
