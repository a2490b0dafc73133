-- What a store takes and puts that sees its slots as they are.
use Rattle.std.proofs.Common.{◌≡◌, List, subst, sym}
use Rattle.spool_slots.specs.States.{SlotView, FullView, BrokenView}
use Rattle.spool_rack.specs.Store.{StoreView, Loan, HasTakenFree, HasTakenFull, IsOut, MayPutAside, MayPutBroken, MayPutFull}

pub free_seen : (seen slot : SlotView) (old new : StoreView) → HasTakenFree seen old new → seen ≡ slot → HasTakenFree slot old new
free_seen seen slot old new h e = subst (λ (s : SlotView). HasTakenFree s old new) e h

pub full_seen : (seen slot : FullView) (old new : StoreView) → HasTakenFull seen old new → seen ≡ slot → HasTakenFull slot old new
full_seen seen slot old new h e = subst (λ (s : FullView). HasTakenFull s old new) e h

pub out_seen : (seen slot : SlotView) (out : List Loan) → seen ≡ slot → IsOut slot.number out → IsOut seen.number out
out_seen seen slot out e h = subst (λ (s : SlotView). IsOut s.number out) (sym e) h

pub may_put_full_seen : (seen slot : FullView) (out : List Loan) → seen ≡ slot → MayPutFull slot out → MayPutFull seen out
may_put_full_seen seen slot out e h = subst (λ (s : FullView). MayPutFull s out) (sym e) h

pub may_put_aside_seen : (seen slot : SlotView) (out : List Loan) → seen ≡ slot → MayPutAside slot out → MayPutAside seen out
may_put_aside_seen seen slot out e h = subst (λ (s : SlotView). MayPutAside s out) (sym e) h

pub may_put_broken_seen : (seen slot : BrokenView) (out : List Loan) → seen ≡ slot → MayPutBroken slot out → MayPutBroken seen out
may_put_broken_seen seen slot out e h = subst (λ (s : BrokenView). MayPutBroken s out) (sym e) h
