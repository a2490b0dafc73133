-- When a slot that was taken from a rack may be put.
use Rattle.std.proofs.Common.{eq-eqb, ◌≡◌, ℕ, Bool, true, false, nat_eq, List, ◌∷◌, Option, Some, None, option_map, refl, subst, sym}
use Rattle.std.specs.Prelude.{IfSome}
use Rattle.fw_disk.specs.DiskView.{DiskView}
use Rattle.fw_disk.specs.Moments.{EachImage, Now}
use Rattle.slot_bytes.specs.Layout.{Mail}
use Rattle.spool_slots.specs.Images.{HasMessageBehind}
use Rattle.spool_slots.specs.States.{BrokenView, FullView, SlotView, IsBrokenFull, IsBrokenIn, IsOnward, Keeps, KeepsAside}
use Rattle.spool_rack.specs.Store.{Handed, Loan, StoreView, IsOut, MayPutAside, MayPutBroken, MayPutFull, OfItsMessage, OfLoan, TakesFree, TakesFull, WasTaken, loan_of}
use Rattle.spool_rows.specs.Out.{IsLentFree, IsLentFull}

-- ---- taking

same_number : (n : ℕ) → nat_eq n n ≡ true
same_number n = eq-eqb n n refl

free_here : (n : ℕ) (out : List Loan) → IsLentFree n (record { number = n; was_full = false; taken = None } ∷ out)
free_here n out = let e = same_number n in record { was_free = rw e refl; untold = rw e tt }

pub lent_free : (slot : SlotView) (old new : StoreView) → TakesFree (Some slot) old new → IsLentFree slot.number new.out
lent_free slot old new h = subst (λ (s : StoreView). IsLentFree slot.number s.out) (sym h.is) (free_here slot.number old.out)

taken_itself : (slot : FullView) (handed : Option Handed) → IfSome (option_map (λ (lists : Handed). slot) handed) (λ full. (m : Mail) → Keeps m full → Keeps m slot)
taken_itself slot None = tt
taken_itself slot (Some lists) = λ m keeps. keeps

full_here : (slot : FullView) (handed : Option Handed) (out : List Loan)
    → IsLentFull slot (record { number = slot.number; was_full = true; taken = option_map (λ (lists : Handed). slot) handed } ∷ out)
full_here slot handed out =
    let e = same_number slot.number in
    record { was_full = rw e refl; message = rw e (taken_itself slot handed) }

pub lent_full : (slot : FullView) (old new : StoreView) → TakesFull (Some slot) old new → IsLentFull slot new.out
lent_full slot old new h = subst (λ (s : StoreView). IsLentFull slot s.out) (sym h.is) (full_here slot old.handed old.out)

pub read_full : (slot : FullView) (old new : StoreView) → TakesFull (Some slot) old new → slot.unread ≡ false
read_full slot old new h = h.unread

-- ---- putting

out_if : (P : Loan → Type 0) (o : Option Loan) → OfLoan P o → OfLoan (λ loan. Unit {0}) o
out_if P None h = h
out_if P (Some loan) h = tt

out_of : (full : Bool) (n : ℕ) (out : List Loan) → WasTaken full n out → IsOut n out
out_of full n out h = out_if (λ loan. loan.was_full ≡ full) (loan_of n out) h

taken_weaker : (P Q : Mail → Type 0) (taken : Option FullView) → ((m : Mail) → P m → Q m)
    → IfSome taken (λ full. (m : Mail) → Keeps m full → P m) → IfSome taken (λ full. (m : Mail) → Keeps m full → Q m)
taken_weaker P Q None f h = tt
taken_weaker P Q (Some full) f h = λ m keeps. f m (h m keeps)

loan_weaker : (P Q : Mail → Type 0) (o : Option Loan) → ((m : Mail) → P m → Q m)
    → IfSome o (λ loan. IfSome loan.taken (λ full. (m : Mail) → Keeps m full → P m)) → IfSome o (λ loan. IfSome loan.taken (λ full. (m : Mail) → Keeps m full → Q m))
loan_weaker P Q None f h = tt
loan_weaker P Q (Some loan) f h = taken_weaker P Q loan.taken f h

message_weaker : (P Q : Mail → Type 0) (n : ℕ) (out : List Loan) → ((m : Mail) → P m → Q m) → OfItsMessage P n out → OfItsMessage Q n out
message_weaker P Q n out f h = loan_weaker P Q (loan_of n out) f h

pub free_out : (n : ℕ) (out : List Loan) → IsLentFree n out → IsOut n out
free_out n out h = out_of false n out h.was_free

-- a message was written in a slot that was taken free
pub may_put_new : (n : ℕ) (old : DiskView) (full : FullView) (out : List Loan) → IsOnward n old full.number full.disk → full.unread ≡ false
    → IsLentFree n out → MayPutFull full out
may_put_new n old full out on read h =
    let there : IsLentFree full.number out = subst (λ (k : ℕ). IsLentFree k out) (sym on.number_is) h in
    record {
      is_out = out_of false full.number out there.was_free;
      read = read;
      message = message_weaker (λ m. ⊥) (λ m. Keeps m full) full.number out (λ m no. absurd no) there.untold;
    }

pub free_onward : (n : ℕ) (old new : DiskView) (to : ℕ) (out : List Loan) → IsOnward n old to new → IsLentFree n out → IsLentFree to out
free_onward n old new to out on h = subst (λ (k : ℕ). IsLentFree k out) (sym on.number_is) h

-- its disk failed
pub may_put_broken : (n : ℕ) (old : DiskView) (broken : BrokenView) (out : List Loan) → IsBrokenIn n old broken → IsLentFree n out → MayPutBroken broken out
may_put_broken n old broken out is h =
    let there : IsLentFree broken.number out = subst (λ (k : ℕ). IsLentFree k out) (sym is.number_is) h in
    record {
      fault = is.fault;
      was_full = subst (λ (b : Bool). WasTaken b broken.number out) (sym is.empty) there.was_free;
      message = message_weaker (λ m. ⊥) (λ m. Now (EachImage (HasMessageBehind m)) broken.disk) broken.number out (λ m no. absurd no) there.untold;
    }

pub may_put_back : (full : FullView) (out : List Loan) → full.unread ≡ false → IsLentFull full out → MayPutFull full out
may_put_back full out read h = record { is_out = out_of true full.number out h.was_full; read = read; message = h.message }

-- a slot that was taken full was released, or set aside, or its disk failed
pub released_out : (full : FullView) (free : SlotView) (out : List Loan) → IsOnward full.number full.disk free.number free.disk → IsLentFull full out → IsOut free.number out
released_out full free out on h = subst (λ (k : ℕ). IsOut k out) (sym on.number_is) (out_of true full.number out h.was_full)

pub may_put_aside : (full : FullView) (aside : SlotView) (out : List Loan) → IsOnward full.number full.disk aside.number aside.disk
    → ((m : Mail) → Keeps m full → KeepsAside m aside) → IsLentFull full out → MayPutAside aside out
may_put_aside full aside out on keeps h = record {
  was_full = subst (λ (k : ℕ). WasTaken true k out) (sym on.number_is) h.was_full;
  message = subst (λ (k : ℕ). OfItsMessage (λ m. KeepsAside m aside) k out) (sym on.number_is) (message_weaker (λ m. Keeps m full) (λ m. KeepsAside m aside) full.number out keeps h.message);
}

pub may_put_failed : (full : FullView) (broken : BrokenView) (out : List Loan) → IsBrokenFull full.number full.disk broken
    → ((m : Mail) → Keeps m full → Now (EachImage (HasMessageBehind m)) broken.disk) → IsLentFull full out → MayPutBroken broken out
may_put_failed full broken out is keeps h = record {
  fault = is.fault;
  was_full = subst (λ (b : Bool). WasTaken b broken.number out) (sym is.full) (subst (λ (k : ℕ). WasTaken true k out) (sym is.number_is) h.was_full);
  message = subst (λ (k : ℕ). OfItsMessage (λ m. Now (EachImage (HasMessageBehind m)) broken.disk) k out) (sym is.number_is) (message_weaker (λ m. Keeps m full) (λ m. Now (EachImage (HasMessageBehind m)) broken.disk) full.number out keeps h.message);
}
