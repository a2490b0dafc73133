-- What a session leaves of the slots: their numbers, and those that are set aside.
use Rattle.std.proofs.Common.{arith, ◌≡◌, refl, sym, ap, subst, ◌∙◌, ℕ, inl, inr, ◌⊎◌, List, [], ◌∷◌, take, drop}
use Rattle.std.specs.Prelude.{Option, Some, None, IfSome, option_map, Result, Ok, Err}
use Rattle.session_acts.specs.Acts.{Act, Outcome, Undeposited}
use Rattle.session_acts.specs.Acts.Act.{Hear, Say, Try, Log, Note, Ask, Renew, Dial, Reach, Take, Pass, HangUp, Relay, Deposit, Allot, TakeReply, OpenDoor, Join, Copy, Part}
use Rattle.session_acts.specs.Acts.Undeposited.{Lacks, Unsaid, Unheard}
use Rattle.session_acts.specs.Deeds.{Lasts}
use Rattle.session_acts.specs.Depositing.{AtStoreDeposit, Lends, PutsBrokenAt, PutsBrokenLast, PutsFree, StoreDeposits}
use Rattle.session_acts.specs.Met.{AtStore}
use Rattle.session_acts.specs.World.{World}
use Rattle.session_acts.specs.declared.deposited.Deposited.{Deposited}
use Rattle.session_acts.specs.declared.deposited.Deposited.TheVariants.{NoSlot, NotBegun, Kept, TooLarge, Faulted, Ended}
use Rattle.spool_rack.specs.Opening.{held_broken, held_full, held_slot}
use Rattle.spool_rack.specs.Store.{HasNoFree, HasTakenFree, PutsBroken, Queues, StoreView, put_free, put_full, with_broken, with_free, with_full, without_free}
use Rattle.spool_slots.specs.States.{BrokenView, FullView, SlotView}
use Rattle.spool_runs.proofs.NumberLemmas.{four_counts, held_added, held_first, one_at}
use Rattle.bastion.proofs.SpoolLemmas.{QueuesStay}

-- where the store tells its queues
abbrev pub QueuesStayIf : Option Queues → Option Queues → Type 0
QueuesStayIf None None = Unit {0}
QueuesStayIf (Some old) (Some new) = QueuesStay old new
QueuesStayIf _ _ = ⊥

queues_here : (queues : Option Queues) → QueuesStayIf queues queues
queues_here None = tt
queues_here (Some q) = record { aside = refl; counts = λ k. refl }

queues_both : (a b c : Option Queues) → QueuesStayIf a b → QueuesStayIf b c → QueuesStayIf a c
queues_both None None None x y = tt
queues_both None None (Some c) x y = absurd y
queues_both None (Some b) c x y = absurd x
queues_both (Some a) None c x y = absurd x
queues_both (Some a) (Some b) None x y = absurd y
queues_both (Some a) (Some b) (Some c) x y = record { aside = y.aside ∙ x.aside; counts = λ k. y.counts k ∙ x.counts k }

-- ---- a slot is taken free and put back

same_one : (k a b : ℕ) → a ≡ b → one_at k a ≡ one_at k b
same_one k a b is = ap (one_at k) is

free_back : (slot put : SlotView) (queues : Option Queues) → put.number ≡ slot.number → IfSome queues (λ q. take 1 q.free ≡ slot ∷ []) → QueuesStayIf queues (option_map (with_free put) (option_map without_free queues))
free_back slot put None number front = tt
free_back slot put (Some q) number front = record {
  aside = refl;
  counts = λ k. (
      let before = four_counts k q in
      let after = four_counts k (with_free put (without_free q)) in
      let first = held_first held_slot q.free slot k front in
      let added = held_added held_slot (drop 1 q.free) put k in
      let same = same_one k put.number slot.number number in
      omega (arith, before, after, first, added, same)
      );
}

full_back : (slot : SlotView) (put : FullView) (queues : Option Queues) → put.number ≡ slot.number → IfSome queues (λ q. take 1 q.free ≡ slot ∷ []) → QueuesStayIf queues (option_map (with_full put) (option_map without_free queues))
full_back slot put None number front = tt
full_back slot put (Some q) number front = record {
  aside = refl;
  counts = λ k. (
      let before = four_counts k q in
      let after = four_counts k (with_full put (without_free q)) in
      let first = held_first held_slot q.free slot k front in
      let added = held_added held_full q.full put k in
      let same = same_one k put.number slot.number number in
      omega (arith, before, after, first, added, same)
      );
}

broken_back : (slot : SlotView) (put : BrokenView) (queues : Option Queues) → put.number ≡ slot.number → IfSome queues (λ q. take 1 q.free ≡ slot ∷ []) → QueuesStayIf queues (option_map (with_broken put) (option_map without_free queues))
broken_back slot put None number front = tt
broken_back slot put (Some q) number front = record {
  aside = refl;
  counts = λ k. (
      let before = four_counts k q in
      let after = four_counts k (with_broken put (without_free q)) in
      let first = held_first held_slot q.free slot k front in
      let added = held_added held_broken q.broken put k in
      let same = same_one k put.number slot.number number in
      omega (arith, before, after, first, added, same)
      );
}

-- ---- one act

abbrev pub StoreStays : StoreView → StoreView → Type 0
StoreStays old new = QueuesStayIf old.queues new.queues

stays_same : (old new : StoreView) → new ≡ old → StoreStays old new
stays_same old new is = subst (λ (s : StoreView). StoreStays old s) (sym is) (queues_here old.queues)

stays_none : (old new : StoreView) → HasNoFree old new → StoreStays old new
stays_none old new h = subst (λ (s : StoreView). StoreStays old s) (sym h.is) (queues_here old.queues)

stays_free : (slot put : SlotView) (old lent new : StoreView) → HasTakenFree slot old lent → put.number ≡ slot.number → new ≡ put_free put lent → StoreStays old new
stays_free slot put old lent new takes number is =
    subst (λ (q : Option Queues). QueuesStayIf old.queues q) (sym (ap (λ (s : StoreView). s.queues) is ∙ ap (λ (s : StoreView). option_map (with_free put) s.queues) takes.is)) (free_back slot put old.queues number takes.front)

stays_full : (slot : SlotView) (put : FullView) (old lent new : StoreView) → HasTakenFree slot old lent → put.number ≡ slot.number → new ≡ put_full put lent → StoreStays old new
stays_full slot put old lent new takes number is =
    subst (λ (q : Option Queues). QueuesStayIf old.queues q) (sym (ap (λ (s : StoreView). s.queues) is ∙ ap (λ (s : StoreView). option_map (with_full put) s.queues) takes.is)) (full_back slot put old.queues number takes.front)

stays_broken : (slot : SlotView) (put : BrokenView) (old lent new : StoreView) → HasTakenFree slot old lent → put.number ≡ slot.number → PutsBroken put lent new → StoreStays old new
stays_broken slot put old lent new takes number puts =
    subst (λ (q : Option Queues). QueuesStayIf old.queues q) (sym (ap (λ (s : StoreView). s.queues) puts.is ∙ ap (λ (s : StoreView). option_map (with_broken put) s.queues) takes.is)) (broken_back slot put old.queues number takes.front)

filled_stays : (sender : List ℕ) (rcpts : List (List ℕ)) (body : List ℕ) (old new : StoreView) → Lends (PutsFree sender rcpts body new) old → StoreStays old new
filled_stays sender rcpts body old new h =
    stays_free h.slot (record { number = h.does.filling.number; disk = h.does.filling.disk }) old h.lent new h.takes h.does.filled.onward.number_is h.does.is

failed_stays : (sender : List ℕ) (rcpts : List (List ℕ)) (body : List ℕ) (old new : StoreView) → Lends (PutsBrokenAt sender rcpts body new) old → StoreStays old new
failed_stays sender rcpts body old new h = stays_broken h.slot h.does.broken old h.lent new h.takes h.does.fails.broke.number_is h.does.puts

lost_stays : (sender : List ℕ) (rcpts : List (List ℕ)) (added rest : List ℕ) (old new : StoreView) → Lends (PutsBrokenAt sender rcpts added new) old ⊎ ((rest ≡ []) × Lends (PutsBrokenLast sender rcpts added new) old) → StoreStays old new
lost_stays sender rcpts added rest old new (inl h) = failed_stays sender rcpts added old new h
lost_stays sender rcpts added rest old new (inr h) = stays_broken h.1.slot h.1.does.broken old h.1.lent new h.1.takes h.1.does.fails.broke.number_is h.1.does.puts

given_stays : (sender : List ℕ) (rcpts : List (List ℕ)) (added : List ℕ) (old new : StoreView) → Lends (PutsFree sender rcpts added new) old ⊎ Lends (PutsBrokenAt sender rcpts added new) old → StoreStays old new
given_stays sender rcpts added old new (inl h) = filled_stays sender rcpts added old new h
given_stays sender rcpts added old new (inr h) = failed_stays sender rcpts added old new h

deposited_stays : (sender : List ℕ) (rcpts : List (List ℕ)) (most : ℕ) (deposited : Deposited) (data_heard : List ℕ) (old new : StoreView) → StoreDeposits sender rcpts most deposited data_heard old new → StoreStays old new
deposited_stays sender rcpts most NoSlot data_heard old new h = stays_none old new h
deposited_stays sender rcpts most NotBegun data_heard old new h = failed_stays sender rcpts [] old new h
deposited_stays sender rcpts most (Kept number bytes) data_heard old new h =
    let l = h.lends in
    stays_full l.slot l.does.full old l.lent new l.takes l.does.kept.onward.number_is l.does.is
deposited_stays sender rcpts most TooLarge data_heard old new h = filled_stays sender rcpts h.added old new h.lends
deposited_stays sender rcpts most Faulted data_heard old new h = lost_stays sender rcpts h.added h.rest old new h.lends
deposited_stays sender rcpts most Ended data_heard old new h = given_stays sender rcpts h.added old new h.lends

deposit_stays : (sender : List ℕ) (rcpts : List (List ℕ)) (words : List ℕ) (most : ℕ) (outcome : Result (Deposited × List ℕ) (Undeposited words)) (old new : StoreView) → AtStoreDeposit sender rcpts words most outcome old new → StoreStays old new
deposit_stays sender rcpts words most (Ok answer) old new h = deposited_stays sender rcpts most answer.0 answer.1 old new h
deposit_stays sender rcpts words most (Err Lacks) old new h = stays_free h.slot h.slot old h.lent new h.takes refl h.does
deposit_stays sender rcpts words most (Err (Unsaid front)) old new h = filled_stays sender rcpts [] old new h
deposit_stays sender rcpts words most (Err (Unheard silence data_heard)) old new h = given_stays sender rcpts h.added old new h.lends

act_stays : (act : Act) (outcome : Outcome act) (old new : StoreView) → AtStore act outcome old new → StoreStays old new
act_stays (Hear form) outcome old new h = stays_same old new h
act_stays (Say text) outcome old new h = stays_same old new h
act_stays (Try text) outcome old new h = stays_same old new h
act_stays (Log text) outcome old new h = stays_same old new h
act_stays (Note text) outcome old new h = stays_same old new h
act_stays (Ask request) outcome old new h = stays_same old new h
act_stays (Renew name hash) outcome old new h = stays_same old new h
act_stays (Dial dest) outcome old new h = stays_same old new h
act_stays (Reach dest) outcome old new h = stays_same old new h
act_stays Take outcome old new h = stays_same old new h
act_stays (Pass text) outcome old new h = stays_same old new h
act_stays HangUp outcome old new h = stays_same old new h
act_stays Relay outcome old new h = stays_same old new h
act_stays (Deposit sender rcpts words most) outcome old new h = deposit_stays sender rcpts words most outcome old new h
act_stays Allot outcome old new h = stays_same old new h
act_stays (TakeReply how) outcome old new h = stays_same old new h
act_stays OpenDoor outcome old new h = stays_same old new h
act_stays (Join dest target) outcome old new h = stays_same old new h
act_stays (Copy toward) outcome old new h = stays_same old new h
act_stays Part outcome old new h = stays_same old new h

-- ---- a session

abbrev pub SlotsStay : {Origin : Type 0} → World Origin → World Origin → Type 0
SlotsStay old new = StoreStays old.store new.store

pub slots_last : {Origin : Type 0} → Lasts Origin SlotsStay
slots_last = record {
  none = λ world. queues_here world.store.queues;
  both = λ old mid new a b. queues_both old.store.queues mid.store.queues new.store.queues a b;
  one = λ act outcome old new met. act_stays act outcome old.store new.store met.store;
}

pub same_stays : (old new : StoreView) → new ≡ old → StoreStays old new
same_stays old new is = stays_same old new is
