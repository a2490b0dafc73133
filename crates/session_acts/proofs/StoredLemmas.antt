-- What a message comes to in the store.
use Rattle.std.proofs.Common.{arith, eq-eqb, ◌≡◌, refl, sym, ap, subst, ◌∙◌, ℕ, ◌+◌, ◌-◌, ◌^◌, ◌≤◌, ◌⊎◌, inl, inr, nat_eq, Bool, true, false, List, [], ◌∷◌, ◌++◌, length, append_assoc, append-nil, Option, Some, None, option_map, Result, Ok, Err}
use Rattle.std.specs.Prelude.{min}
use Rattle.std.proofs.lemmas.List.{length-append}
use Rattle.session_acts.specs.Acts.{Act, Outcome, Undeposited}
use Rattle.session_acts.specs.Acts.Act.{Hear, Say, Try, Log, Note, Ask, Renew, Dial, Reach, Take, Pass, HangUp, Relay, Deposit, Allot, TakeReply, OpenDoor, Join, Copy, Part}
use Rattle.session_acts.specs.Acts.Undeposited.{Lacks, Unsaid, Unheard}
use Rattle.session_acts.specs.Deeds.{Gains, Lasts}
use Rattle.session_acts.specs.Depositing.{AreOfBody, AtStoreDeposit, IsFilled, IsGivenUp, IsKept, Lends, PutsBrokenAt, PutsBrokenLast, PutsFree, PutsFull, StoreDeposits, mail_of}
use Rattle.session_acts.specs.Met.{AtStore, Met}
use Rattle.session_acts.specs.Stored.{AreKept, CountsFaulted, CountsUnslotted, KeptMail, PutsAllBack, PutsMails, body_of, bytes_in, faulted, kept, kept_by, kept_as, unslotted, unslotted_as, unslotted_by, faulted_as, faulted_by}
use Rattle.session_acts.specs.World.{World}
use Rattle.session_acts.specs.declared.deposited.Deposited.{Deposited}
use Rattle.session_acts.specs.declared.deposited.Deposited.TheVariants.{NoSlot, NotBegun, Kept, TooLarge, Faulted, Ended}
use Rattle.smap_lines.specs.Body.{Body}
use Rattle.spool_rack.specs.Store.{HasNoFree, HasTakenFree, Handed, Loan, PutGrew, PutsBroken, Queues, StoreView, WasTaken, OfLoan, given_broken, given_free, loan_of, put_free, put_full, struck, with_broken, with_free, with_put, without_free}
use Rattle.spool_rack.proofs.StoreLemmas.{put_grew}
use Rattle.spool_slots.specs.States.{BrokenView, FullView, Keeps, SlotView}

-- ---- a slot that was taken free

abbrev lent_free : ℕ → Loan
lent_free n = record { number = n; was_full = false; taken = None }

loan_here : (k n : ℕ) (out : List Loan) → k ≡ n → loan_of k (lent_free n ∷ out) ≡ Some (lent_free n)
loan_here k n out is = let e : nat_eq n k ≡ true = eq-eqb n k (sym is) in rw e refl

struck_here : (k n : ℕ) (out : List Loan) → k ≡ n → struck k (lent_free n ∷ out) ≡ out
struck_here k n out is = let e : nat_eq n k ≡ true = eq-eqb n k (sym is) in rw e refl

-- the store after it was taken
abbrev lent_of : SlotView → StoreView → StoreView
lent_of slot old = record {
  queues = option_map without_free old.queues;
  handed = old.handed;
  out = lent_free slot.number ∷ old.out;
  no_free = old.no_free;
  no_full = old.no_full;
  broken = old.broken;
}

was_free : (k n : ℕ) (out : List Loan) → k ≡ n → WasTaken false k (lent_free n ∷ out)
was_free k n out is = subst (λ (o : Option Loan). OfLoan (λ loan. loan.was_full ≡ false) o) (sym (loan_here k n out is)) refl

-- ---- what one message comes to

record Grows (mails : List KeptMail) (unslotted_now faulted_now : List (List ℕ)) (old new : StoreView) : Type 0 where
  slots : List FullView
  grew : PutGrew slots old new
  are : AreKept mails slots
  out : new.out ≡ old.out
  no_free : min (old.no_free + length unslotted_now) (2 ^ 64 - 1) ≤ new.no_free
  broken : min (old.broken + length faulted_now) (2 ^ 64 - 1) ≤ new.broken

full_here : (queues : Option Queues) → option_map (λ (q : Queues). q.full) queues ≡ option_map (λ (full : List FullView). full ++ []) (option_map (λ (q : Queues). q.full) queues)
full_here None = refl
full_here (Some q) = ap (λ (full : List FullView). Some full) (sym (append-nil q.full))

lists_here : (lists : Handed) → lists ≡ with_put [] lists
lists_here lists = ap (λ (put : List FullView). record lists { put = put }) (sym (append-nil lists.put))

put_here : (handed : Option Handed) → handed ≡ option_map (with_put []) handed
put_here None = refl
put_here (Some lists) = ap (λ (l : Handed). Some l) (lists_here lists)

grows_here : (old : StoreView) → Grows [] [] [] old old
grows_here old = record { slots = []; grew = record { queued = full_here old.queues; listed = put_here old.handed; no_full = refl }; are = tt; out = refl; no_free = omega arith; broken = omega arith }

grows_same : (old new : StoreView) → new ≡ old → Grows [] [] [] old new
grows_same old new is = subst (λ (s : StoreView). Grows [] [] [] old s) (sym is) (grows_here old)

-- none was free
grows_none : (sender : List ℕ) (old new : StoreView) → HasNoFree old new → Grows [] (sender ∷ []) [] old new
grows_none sender old new h =
    let rose = h.rose.1 in
    subst (λ (s : StoreView). Grows [] (sender ∷ []) [] old s) (sym h.is) (record {
      slots = [];
      grew = record { queued = full_here old.queues; listed = put_here old.handed; no_full = refl };
      are = tt;
      out = refl;
      no_free = omega (arith, rose);
      broken = omega arith;
    })

-- it was put back free
free_queues : (slot : SlotView) (queues : Option Queues) → option_map (λ (q : Queues). q.full) (option_map (with_free slot) (option_map without_free queues)) ≡ option_map (λ (full : List FullView). full ++ []) (option_map (λ (q : Queues). q.full) queues)
free_queues slot None = refl
free_queues slot (Some q) = ap (λ (full : List FullView). Some full) (sym (append-nil q.full))

free_handed : (loan : Loan) (handed : Option Handed) → loan.was_full ≡ false → option_map (given_free (Some loan)) handed ≡ option_map (with_put []) handed
free_handed loan None is = refl
free_handed loan (Some lists) is = rw is (ap (λ (l : Handed). Some l) (lists_here lists))

free_back : (slot put : SlotView) (old : StoreView) → put.number ≡ slot.number → Grows [] [] [] old (put_free put (lent_of slot old))
free_back slot put old is = record {
  slots = [];
  grew = record {
    queued = free_queues put old.queues;
    listed = subst (λ (o : Option Loan). option_map (given_free o) old.handed ≡ option_map (with_put []) old.handed) (sym (loan_here put.number slot.number old.out is)) (free_handed (lent_free slot.number) old.handed refl);
    no_full = refl;
  };
  are = tt;
  out = struck_here put.number slot.number old.out is;
  no_free = omega arith;
  broken = omega arith;
}

grows_free : (slot put : SlotView) (old lent new : StoreView) → HasTakenFree slot old lent → put.number ≡ slot.number → new ≡ put_free put lent → Grows [] [] [] old new
grows_free slot put old lent new takes number is =
    subst (λ (s : StoreView). Grows [] [] [] old s) (sym (is ∙ ap (put_free put) takes.is)) (free_back slot put old number)

-- its disk failed
broken_queues : (slot : BrokenView) (queues : Option Queues) → option_map (λ (q : Queues). q.full) (option_map (with_broken slot) (option_map without_free queues)) ≡ option_map (λ (full : List FullView). full ++ []) (option_map (λ (q : Queues). q.full) queues)
broken_queues slot None = refl
broken_queues slot (Some q) = ap (λ (full : List FullView). Some full) (sym (append-nil q.full))

broken_handed : (slot : BrokenView) (handed : Option Handed) → slot.from_full ≡ false → option_map (given_broken slot) handed ≡ option_map (with_put []) handed
broken_handed slot None is = refl
broken_handed slot (Some lists) is = rw is (ap (λ (l : Handed). Some l) (lists_here lists))

broken_back : (senders : List (List ℕ)) (slot : SlotView) (put : BrokenView) (old new : StoreView) → length senders ≤ 1 → put.number ≡ slot.number → put.from_full ≡ false → PutsBroken put (lent_of slot old) new → Grows [] [] senders old new
broken_back senders slot put old new few number empty puts =
    let rose = puts.rose in
    let more = rose.1 in
    subst (λ (s : StoreView). Grows [] [] senders old s) (sym puts.is) (record {
      slots = [];
      grew = record { queued = broken_queues put old.queues; listed = broken_handed put old.handed empty; no_full = refl };
      are = tt;
      out = struck_here put.number slot.number old.out number;
      no_free = omega arith;
      broken = omega (arith, more, few);
    })

grows_broken : (senders : List (List ℕ)) (slot : SlotView) (put : BrokenView) (old lent new : StoreView) → length senders ≤ 1 → HasTakenFree slot old lent → put.number ≡ slot.number → put.from_full ≡ false → PutsBroken put lent new → Grows [] [] senders old new
grows_broken senders slot put old lent new few takes number empty puts =
    broken_back senders slot put old new few number empty (subst (λ (s : StoreView). PutsBroken put s new) takes.is puts)

-- it was put full
full_lent : (queues : Option Queues) → option_map (λ (q : Queues). q.full) (option_map without_free queues) ≡ option_map (λ (q : Queues). q.full) queues
full_lent None = refl
full_lent (Some q) = refl

full_back : (slot : SlotView) (one : KeptMail) (put : FullView) (old : StoreView) → put.number ≡ slot.number → put.number ≡ one.number → length one.mail.body ≡ one.bytes → Keeps one.mail put → Grows (one ∷ []) [] [] old (put_full put (lent_of slot old))
full_back slot one put old number named long keeps =
    let grew = put_grew put (lent_of slot old) (was_free put.number slot.number old.out number) in
    record {
      slots = put ∷ [];
      grew = record { queued = grew.queued ∙ ap (option_map (λ (full : List FullView). full ++ put ∷ [])) (full_lent old.queues); listed = grew.listed; no_full = grew.no_full };
      are = (named, keeps, tt, long);
      out = struck_here put.number slot.number old.out number;
      no_free = omega arith;
      broken = omega arith;
    }

grows_full : (slot : SlotView) (one : KeptMail) (put : FullView) (old lent new : StoreView) → HasTakenFree slot old lent → put.number ≡ slot.number → put.number ≡ one.number → length one.mail.body ≡ one.bytes → Keeps one.mail put → new ≡ put_full put lent → Grows (one ∷ []) [] [] old new
grows_full slot one put old lent new takes number named long keeps is =
    subst (λ (s : StoreView). Grows (one ∷ []) [] [] old s) (sym (is ∙ ap (put_full put) takes.is)) (full_back slot one put old number named long keeps)

-- ---- one act

grows_filled : (sender : List ℕ) (rcpts : List (List ℕ)) (body : List ℕ) (old new : StoreView) → Lends (PutsFree sender rcpts body new) old → Grows [] [] [] old new
grows_filled sender rcpts body old new h =
    grows_free h.slot (record { number = h.does.filling.number; disk = h.does.filling.disk }) old h.lent new h.takes h.does.filled.onward.number_is h.does.is

grows_failed : (senders : List (List ℕ)) (sender : List ℕ) (rcpts : List (List ℕ)) (body : List ℕ) (old new : StoreView) → length senders ≤ 1 → Lends (PutsBrokenAt sender rcpts body new) old → Grows [] [] senders old new
grows_failed senders sender rcpts body old new few h =
    grows_broken senders h.slot h.does.broken old h.lent new few h.takes h.does.fails.broke.number_is h.does.fails.broke.empty h.does.puts

grows_lost : (senders : List (List ℕ)) (sender : List ℕ) (rcpts : List (List ℕ)) (added rest : List ℕ) (old new : StoreView) → length senders ≤ 1 → Lends (PutsBrokenAt sender rcpts added new) old ⊎ ((rest ≡ []) × Lends (PutsBrokenLast sender rcpts added new) old) → Grows [] [] senders old new
grows_lost senders sender rcpts added rest old new few (inl h) = grows_failed senders sender rcpts added old new few h
grows_lost senders sender rcpts added rest old new few (inr h) =
    grows_broken senders h.1.slot h.1.does.broken old h.1.lent new few h.1.takes h.1.does.fails.broke.number_is h.1.does.fails.broke.empty h.1.does.puts

grows_back : (sender : List ℕ) (rcpts : List (List ℕ)) (added : List ℕ) (old new : StoreView) → Lends (PutsFree sender rcpts added new) old ⊎ Lends (PutsBrokenAt sender rcpts added new) old → Grows [] [] [] old new
grows_back sender rcpts added old new (inl h) = grows_filled sender rcpts added old new h
grows_back sender rcpts added old new (inr h) = grows_failed [] sender rcpts added old new (omega arith) h

kept_mail : (sender : List ℕ) (rcpts : List (List ℕ)) (body data_heard : List ℕ) (number : ℕ) (full : FullView) → AreOfBody data_heard body → Keeps (mail_of sender rcpts body) full → Keeps (mail_of sender rcpts (body_of data_heard)) full
kept_mail sender rcpts body data_heard number full are keeps = subst (λ (b : List ℕ). Keeps (mail_of sender rcpts b) full) (sym (ap bytes_in are)) keeps

kept_length : (body data_heard : List ℕ) (bytes : ℕ) → AreOfBody data_heard body → length body ≡ bytes → length (body_of data_heard) ≡ bytes
kept_length body data_heard bytes are is_long = ap (λ (b : Option Body). length (bytes_in b)) are ∙ is_long

deposited_grows : (sender : List ℕ) (rcpts : List (List ℕ)) (most : ℕ) (deposited : Deposited) (data_heard : List ℕ) (old new : StoreView) → StoreDeposits sender rcpts most deposited data_heard old new
    → Grows (kept_as sender rcpts deposited data_heard) (unslotted_as sender deposited) (faulted_as sender deposited) old new
deposited_grows sender rcpts most NoSlot data_heard old new h = grows_none sender old new h
deposited_grows sender rcpts most NotBegun data_heard old new h = grows_failed (sender ∷ []) sender rcpts [] old new (omega arith) h
deposited_grows sender rcpts most (Kept number bytes) data_heard old new h =
    let l = h.lends in
    grows_full l.slot (record { number = number; bytes = bytes; mail = mail_of sender rcpts (body_of data_heard) }) l.does.full old l.lent new l.takes l.does.kept.onward.number_is l.does.number_is (kept_length h.body data_heard bytes h.are h.is_long) (kept_mail sender rcpts h.body data_heard number l.does.full h.are l.does.kept.keeps) l.does.is
deposited_grows sender rcpts most TooLarge data_heard old new h = grows_filled sender rcpts h.added old new h.lends
deposited_grows sender rcpts most Faulted data_heard old new h = grows_lost (sender ∷ []) sender rcpts h.added h.rest old new (omega arith) h.lends
deposited_grows sender rcpts most Ended data_heard old new h = grows_back sender rcpts h.added old new h.lends

deposit_grows : (sender : List ℕ) (rcpts : List (List ℕ)) (words : List ℕ) (most : ℕ) (outcome : Result (Deposited × List ℕ) (Undeposited words)) (old new : StoreView) → AtStoreDeposit sender rcpts words most outcome old new
    → Grows (kept_by sender rcpts outcome) (unslotted_by sender outcome) (faulted_by sender outcome) old new
deposit_grows sender rcpts words most (Ok answer) old new h = deposited_grows sender rcpts most answer.0 answer.1 old new h
deposit_grows sender rcpts words most (Err Lacks) old new h = grows_free h.slot h.slot old h.lent new h.takes refl h.does
deposit_grows sender rcpts words most (Err (Unsaid front)) old new h = grows_filled sender rcpts [] old new h
deposit_grows sender rcpts words most (Err (Unheard silence data_heard)) old new h = grows_back sender rcpts h.added old new h.lends

act_grows : (act : Act) (outcome : Outcome act) (old new : StoreView) → AtStore act outcome old new → Grows (kept act outcome) (unslotted act outcome) (faulted act outcome) old new
act_grows (Hear form) outcome old new h = grows_same old new h
act_grows (Say text) outcome old new h = grows_same old new h
act_grows (Try text) outcome old new h = grows_same old new h
act_grows (Log text) outcome old new h = grows_same old new h
act_grows (Note text) outcome old new h = grows_same old new h
act_grows (Ask request) outcome old new h = grows_same old new h
act_grows (Renew name hash) outcome old new h = grows_same old new h
act_grows (Dial dest) outcome old new h = grows_same old new h
act_grows (Reach dest) outcome old new h = grows_same old new h
act_grows Take outcome old new h = grows_same old new h
act_grows (Pass text) outcome old new h = grows_same old new h
act_grows HangUp outcome old new h = grows_same old new h
act_grows Relay outcome old new h = grows_same old new h
act_grows (Deposit sender rcpts words most) outcome old new h = deposit_grows sender rcpts words most outcome old new h
act_grows Allot outcome old new h = grows_same old new h
act_grows (TakeReply how) outcome old new h = grows_same old new h
act_grows OpenDoor outcome old new h = grows_same old new h
act_grows (Join dest target) outcome old new h = grows_same old new h
act_grows (Copy toward) outcome old new h = grows_same old new h
act_grows Part outcome old new h = grows_same old new h

-- ---- one after another

option_twice : (o p q : Option (List FullView)) (a b : List FullView) → p ≡ option_map (λ (l : List FullView). l ++ a) o → q ≡ option_map (λ (l : List FullView). l ++ b) p → q ≡ option_map (λ (l : List FullView). l ++ (a ++ b)) o
option_twice None p q a b first then_so = then_so ∙ ap (option_map (λ (l : List FullView). l ++ b)) first
option_twice (Some l) p q a b first then_so = then_so ∙ ap (option_map (λ (x : List FullView). x ++ b)) first ∙ ap (λ (x : List FullView). Some x) (append_assoc l a b)

lists_twice : (o p q : Option Handed) (a b : List FullView) → p ≡ option_map (with_put a) o → q ≡ option_map (with_put b) p → q ≡ option_map (with_put (a ++ b)) o
lists_twice None p q a b first then_so = then_so ∙ ap (option_map (with_put b)) first
lists_twice (Some l) p q a b first then_so = then_so ∙ ap (option_map (with_put b)) first ∙ ap (λ (put : List FullView). Some (record l { put = put })) (append_assoc l.put a b)

kept_both : (first more : List KeptMail) (a b : List FullView) → AreKept first a → AreKept more b → AreKept (first ++ more) (a ++ b)
kept_both [] more [] b x y = y
kept_both [] more (slot ∷ a) b x y = absurd x
kept_both (one ∷ first) more [] b x y = absurd x
kept_both (one ∷ first) more (slot ∷ a) b x y = (x.0, x.1, kept_both first more a b x.2 y, x.3)

least_both : (first more : List (List ℕ)) (a b c : ℕ) → min (a + length first) (2 ^ 64 - 1) ≤ b → min (b + length more) (2 ^ 64 - 1) ≤ c → min (a + length (first ++ more)) (2 ^ 64 - 1) ≤ c
least_both first more a b c before after = let lengths = length-append first more in omega (arith, before, after, lengths)

module _ {Origin : Type 0} where
  pub kept_gains : Gains Origin kept PutsMails
  kept_gains = record {
    none = λ world. (let g = grows_here world.store in record { slots = g.slots; grew = g.grew; are = g.are });
    both = λ first more old mid new a b. record {
      slots = a.slots ++ b.slots;
      grew = record {
        queued = option_twice (option_map (λ (q : Queues). q.full) old.store.queues) (option_map (λ (q : Queues). q.full) mid.store.queues) (option_map (λ (q : Queues). q.full) new.store.queues) a.slots b.slots a.grew.queued b.grew.queued;
        listed = lists_twice old.store.handed mid.store.handed new.store.handed a.slots b.slots a.grew.listed b.grew.listed;
        no_full = b.grew.no_full ∙ a.grew.no_full;
      };
      are = kept_both first more a.slots b.slots a.are b.are;
    };
    one = λ act outcome old new met. (let g = act_grows act outcome old.store new.store met.store in record { slots = g.slots; grew = g.grew; are = g.are });
  }

  pub back_lasts : Lasts Origin PutsAllBack
  back_lasts = record {
    none = λ world. refl;
    both = λ old mid new a b. b ∙ a;
    one = λ act outcome old new met. (act_grows act outcome old.store new.store met.store).out;
  }

  pub unslotted_gains : Gains Origin unslotted CountsUnslotted
  unslotted_gains = record {
    none = λ world. omega (arith);
    both = λ first more old mid new a b. least_both first more old.store.no_free mid.store.no_free new.store.no_free a b;
    one = λ act outcome old new met. (act_grows act outcome old.store new.store met.store).no_free;
  }

  pub faulted_gains : Gains Origin faulted CountsFaulted
  faulted_gains = record {
    none = λ world. omega (arith);
    both = λ first more old mid new a b. least_both first more old.store.broken mid.store.broken new.store.broken a b;
    one = λ act outcome old new met. (act_grows act outcome old.store new.store met.store).broken;
  }
