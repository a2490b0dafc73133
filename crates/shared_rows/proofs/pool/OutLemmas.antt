-- A slot that was taken is out until it is put back.
use Rattle.std.proofs.Common.{eq-eqb, ◌≡◌, ℕ, Bool, true, false, nat_eq, List, ◌∷◌, Option, Some, None, refl, subst, sym}
use Rattle.std.specs.Prelude.{if◌then◌else◌}
use Rattle.spool_slots.specs.States.{SlotView}
use Rattle.spool_rack.specs.Store.{Loan, StoreView, IsOut, OfLoan, TakesFree, loan_of}

same_number : (n : ℕ) → nat_eq n n ≡ true
same_number n = eq-eqb n n refl

here : (n : ℕ) (out : List Loan) → IsOut n (record { number = n; was_full = false; taken = None } ∷ out)
here n out = let e = same_number n in rw e tt

pub out_here : (slot : SlotView) (old new : StoreView) → TakesFree (Some slot) old new → IsOut slot.number new.out
out_here slot old new h = subst (λ (s : StoreView). IsOut slot.number s.out) (sym h.is) (here slot.number old.out)

behind : (n : ℕ) (loan : Loan) (out : List Loan) → IsOut n out → IsOut n (loan ∷ out)
behind n loan out h = by_flag (nat_eq loan.number n)
  where
    by_flag : (w : Bool) → OfLoan (λ l. Unit {0}) (if w then Some loan else loan_of n out)
    by_flag true = tt
    by_flag false = h

pub out_still : (n : ℕ) (o : Option SlotView) (old new : StoreView) → TakesFree o old new → IsOut n old.out → IsOut n new.out
out_still n None old new h out = subst (λ (s : StoreView). IsOut n s.out) (sym h.is) out
out_still n (Some slot) old new h out = subst (λ (s : StoreView). IsOut n s.out) (sym h.is) (behind n (record { number = slot.number; was_full = false; taken = None }) old.out out)
