-- What putting does to a store that tells its queues or keeps lists.
use Rattle.std.proofs.Common.{◌≡◌, false, List, [], ◌∷◌, ◌++◌, Option, Some, None, option_map, refl}
use Rattle.spool_slots.specs.States.{FullView}
use Rattle.spool_rack.specs.Store.{Queues, Loan, Handed, StoreView, OfLoan, PutGrew, WasTaken, given_full, loan_of, put_full, with_full, with_put}

put_queued : (slot : FullView) (queues : Option Queues)
    → option_map (λ (q : Queues). q.full) (option_map (with_full slot) queues)
    ≡ option_map (λ (full : List FullView). full ++ slot ∷ []) (option_map (λ (q : Queues). q.full) queues)
put_queued slot None = refl
put_queued slot (Some q) = refl

put_listed : (slot : FullView) (handed : Option Handed) (loan : Option Loan) → OfLoan (λ l. l.was_full ≡ false) loan
    → option_map (given_full slot loan) handed ≡ option_map (with_put (slot ∷ [])) handed
put_listed slot None loan h = refl
put_listed slot (Some lists) None h = absurd h
put_listed slot (Some lists) (Some loan) e = let is : loan.was_full ≡ false = e in rw is refl

pub put_grew : (slot : FullView) (s : StoreView) → WasTaken false slot.number s.out
    → PutGrew (slot ∷ []) s (put_full slot s)
put_grew slot s h = record {
  queued = put_queued slot s.queues;
  listed = put_listed slot s.handed (loan_of slot.number s.out) h;
  no_full = refl;
}
