-- A slot that is lent may be put back.
use Rattle.std.proofs.Common.{eq-eqb, ◌≡◌, refl, sym, ap, subst, ◌∙◌, ℕ, nat_eq, Bool, true, List, [], ◌∷◌, Option, Some, None, option_map, inl}
use Rattle.std.specs.Prelude.{IfSome}
use Rattle.fw_disk.specs.DiskView.{DiskView, FailsToSet, IsToldTorn, Tape}
use Rattle.fw_disk.specs.Medium.{Medium, written_at}
use Rattle.fw_disk.specs.Moments.{EachImage, Now}
use Rattle.fw_outside.specs.Counts.{Rose}
use Rattle.slot_bytes.specs.Layout.{Mail}
use Rattle.spool_rack.specs.Store.{HasTakenFull, IsOut, Loan, MayPutAside, MayPutBroken, MayPutFull, OfItsMessage, OfLoan, StoreView, WasTaken, loan_of, struck}
use Rattle.spool_slots.proofs.MarkLemmas.{failed_release_behind}
use Rattle.spool_slots.specs.Images.{HasMessageBehind}
use Rattle.spool_slots.specs.States.{BrokenView, FullView, IsBrokenFull, Keeps, KeepsAside, SlotView}
use Rattle.smapd_queue.specs.Steps.{IsLent, IsLentUnread, as_broken}

abbrev pub lent_full : ℕ → Option FullView → Loan
lent_full n taken = record { number = n; was_full = true; taken = taken }

pub loan_here : (k n : ℕ) (taken : Option FullView) (rest : List Loan) → k ≡ n → loan_of k (lent_full n taken ∷ rest) ≡ Some (lent_full n taken)
loan_here k n taken rest is = let e : nat_eq n k ≡ true = eq-eqb n k (sym is) in rw e refl

pub struck_here : (k n : ℕ) (taken : Option FullView) (rest : List Loan) → k ≡ n → struck k (lent_full n taken ∷ rest) ≡ rest
struck_here k n taken rest is = let e : nat_eq n k ≡ true = eq-eqb n k (sym is) in rw e refl

loan_at : (slot : FullView) (k : ℕ) (out : List Loan) → k ≡ slot.number → (l : IsLent slot out) → loan_of k out ≡ Some (lent_full slot.number l.taken)
loan_at slot k out is l = ap (λ (o : List Loan). loan_of k o) l.are ∙ loan_here k slot.number l.taken l.rest is

pub lent_out : (slot : FullView) (k : ℕ) (out : List Loan) → k ≡ slot.number → IsLent slot out → IsOut k out
lent_out slot k out is l = subst (OfLoan (λ loan. Unit {0})) (sym (loan_at slot k out is l)) tt

lent_was_full : (slot : FullView) (k : ℕ) (out : List Loan) → k ≡ slot.number → IsLent slot out → WasTaken true k out
lent_was_full slot k out is l = subst (OfLoan (λ loan. loan.was_full ≡ true)) (sym (loan_at slot k out is l)) refl

told_message : (P : Mail → Type 0) (slot : FullView) (taken : Option FullView) → IfSome taken (λ full. full ≡ slot) → ((m : Mail) → Keeps m slot → P m) → IfSome taken (λ full. (m : Mail) → Keeps m full → P m)
told_message P slot None same so = tt
told_message P slot (Some full) same so = λ m h. so m (subst (Keeps m) same h)

lent_message : (P : Mail → Type 0) (slot : FullView) (k : ℕ) (out : List Loan) → k ≡ slot.number → IsLent slot out → ((m : Mail) → Keeps m slot → P m) → OfItsMessage P k out
lent_message P slot k out is l so =
    subst (λ (o : Option Loan). IfSome o (λ loan. IfSome loan.taken (λ full. (m : Mail) → Keeps m full → P m))) (sym (loan_at slot k out is l)) (told_message P slot l.taken l.same so)

-- full, as it was taken
pub may_put_full : (slot : FullView) (out : List Loan) → IsLent slot out → MayPutFull slot out
may_put_full slot out l = record {
  is_out = lent_out slot slot.number out refl l;
  read = l.read;
  message = lent_message (λ m. Keeps m slot) slot slot.number out refl l (λ m h. h);
}

-- set aside
pub may_put_aside : (slot : FullView) (aside : SlotView) (out : List Loan) → IsLent slot out → aside.number ≡ slot.number → ((m : Mail) → Keeps m slot → KeepsAside m aside) → MayPutAside aside out
may_put_aside slot aside out l is so = record {
  was_full = lent_was_full slot aside.number out is l;
  message = lent_message (λ m. KeepsAside m aside) slot aside.number out is l so;
}

-- broken
pub may_put_broken : (slot : FullView) (broken : BrokenView) (out : List Loan) → IsLent slot out → IsBrokenFull slot.number slot.disk broken
    → ((m : Mail) → Keeps m slot → Now (EachImage (HasMessageBehind m)) broken.disk) → MayPutBroken broken out
may_put_broken slot broken out l b so = record {
  fault = b.fault;
  was_full = subst (λ (full : Bool). WasTaken full broken.number out) (sym b.full) (lent_was_full slot broken.number out b.number_is l);
  message = lent_message (λ m. Now (EachImage (HasMessageBehind m)) broken.disk) slot broken.number out b.number_is l so;
}

-- ---- a slot that couldn't be read

torn_nothing : (change : Medium → Medium) (told : Option Tape) → IsToldTorn change told told
torn_nothing change None = tt
torn_nothing change (Some tape) = inl refl

disk_is : (told : Option Tape) (disk : DiskView) → disk.told ≡ told → disk ≡ record { told = told; faults = disk.faults }
disk_is told disk is = ap (λ (t : Option Tape). let d : DiskView = record { told = t; faults = disk.faults } in d) is

-- its disk failed, and nothing was done to it
fails_to_read : (old new : DiskView) → new.told ≡ old.told → Rose old.faults new.faults → FailsToSet 0 0 old new
fails_to_read old new same rose = inl (record { told = old.told; count = new.faults; torn = torn_nothing (written_at 0 (0 ∷ [])) old.told; rose = rose; is = disk_is old.told new same })

pub unread_behind : (slot : FullView) (disk : DiskView) → disk.told ≡ slot.disk.told → Rose slot.disk.faults disk.faults → (m : Mail) → Keeps m slot → Now (EachImage (HasMessageBehind m)) disk
unread_behind slot disk same rose m keeps = failed_release_behind m slot.disk disk (fails_to_read slot.disk disk same rose) keeps

pub unread_broke : (slot full : FullView) → full.number ≡ slot.number → Rose slot.disk.faults full.disk.faults → IsBrokenFull slot.number slot.disk (as_broken full)
unread_broke slot full number rose = record { number_is = number; rose = rose; full = refl; fault = refl }

pub may_give_up : (full : FullView) (out : List Loan) → IsLentUnread full out → MayPutBroken (as_broken full) out
may_give_up full out l = may_put_broken l.slot (as_broken full) out l.lent (unread_broke l.slot full l.number l.rose) (unread_behind l.slot full.disk l.told l.rose)

-- ---- taking

taken_told : {A : Type 0} (slot : FullView) (told : Option A) → IfSome (option_map (λ lists. slot) told) (λ full. full ≡ slot)
taken_told slot None = tt
taken_told slot (Some lists) = refl

pub lent_first : (slot : FullView) (old lent : StoreView) → HasTakenFull slot old lent → IsLent slot lent.out
lent_first slot old lent h = record {
  taken = option_map (λ lists. slot) old.handed;
  rest = old.out;
  same = taken_told slot old.handed;
  read = h.unread;
  are = ap (λ (s : StoreView). s.out) h.is;
}
