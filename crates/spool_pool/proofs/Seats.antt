-- What a seat knows after each take and put.
use Rattle.std.proofs.Common.{◌≡◌, ℕ, ◌≤◌, ◌^◌, true, false, List, [], ◌++◌, Some, None, refl, ap, sym, subst, ◌∙◌, arith}
use Rattle.fw_outside.specs.Counts.{Rose}
use Rattle.spool_slots.specs.States.{SlotView, FullView, BrokenView}
use Rattle.spool_rack.specs.Store.{HasNoFree, HasNoFull, HasTakenFree, HasTakenFull, IsOut, MayPutAside, MayPutBroken, MayPutFull, PutsBroken, StoreView, loan_of, put_aside, put_free, put_full}
use Rattle.shared_queue.specs.Moves.{HasAll, Moves, StandIn, counted, missed, put_more, taken_out}
use Rattle.spool_pool.specs.declared.lanes.Lanes.{Lanes}
use Rattle.spool_pool.specs.Shelf.{ShelvedView, is_aside, is_broken}
use Rattle.spool_pool.specs.Events.{TallyView, broken_by, filled_by, freed_by, given, lent, shelved_by}
use Rattle.spool_pool.specs.Account.{IsSound, began_of, handed_of, homes_of, seat_of}
use Rattle.spool_pool.specs.Known.{store_of}
use Rattle.spool_pool.proofs.Accounts.{lends_free, lends_full, puts_aside, puts_broken, puts_free, puts_full}
use Rattle.spool_pool.proofs.Numbers.{is_out, kept_put_free, kept_put_full, kept_put_shelved, kept_take_free, kept_take_full}
use Rattle.spool_pool.proofs.Tallies.{broken_lists, filled_lists, freed_lists, loan_here, shelved_lists}

-- the pass has all parts, and so has that of the queue of free slots
pub none_free : (free : Moves SlotView) (full : Moves FullView) → free.parts ≡ full.parts → (HasAll free → StandIn free []) → full.parts ≡ 2 ^ 64 → StandIn free []
none_free free full even none all = none (even ∙ all)

module _ {D : Type 0} where
  abbrev lanes : Moves SlotView → Moves FullView → Moves ShelvedView → Lanes D
  lanes free full shelf = record { free = free; full = full; shelf = shelf }

  abbrev Sits : Lanes D → TallyView → List (List ℕ) → Type 0
  Sits l t home = IsSound l t × (homes_of l ≡ home)

  module _ (free : Moves SlotView) (full : Moves FullView) (shelf : Moves ShelvedView) (t : TallyView) (home : List (List ℕ)) (c : ℕ) (s : Sits (lanes free full shelf) t home) where
    pub after_take_free : (slot : SlotView) (new : Moves SlotView) (u : TallyView) → new ≡ taken_out slot free → u ≡ lent (record { number = slot.number; was_full = false; taken = None }) t
        → Sits (lanes new full shelf) u home × HasTakenFree slot (store_of (seat_of (lanes free full shelf) t c)) (store_of (seat_of (lanes new full shelf) u c))
    after_take_free slot new u e f =
        subst (λ (k : Moves SlotView × TallyView). Sits (lanes k.0 full shelf) k.1 home × HasTakenFree slot (store_of (seat_of (lanes free full shelf) t c)) (store_of (seat_of (lanes k.0 full shelf) k.1 c)))
        (λ i. (sym e i, sym f i)) (
          (record { even = record { free = s.0.even.free; shelf = s.0.even.shelf; some_part = s.0.even.some_part }; account = lends_free full shelf t slot.number s.0.account; kept = kept_take_free free full shelf t.out s.0.kept slot (record { number = slot.number; was_full = false; taken = None }) refl }, s.1),
          record { front = tt; is = refl },
        )

    pub after_no_free : (new : Moves SlotView) → new ≡ missed free → free.misses ≤ new.misses → Sits (lanes new full shelf) t home × HasNoFree (store_of (seat_of (lanes free full shelf) t c)) (store_of (seat_of (lanes new full shelf) t c))
    after_no_free new e more =
        let risen : free.misses ≤ (missed free).misses = subst (λ (k : Moves SlotView). free.misses ≤ k.misses) e more in
        subst (λ (k : Moves SlotView). Sits (lanes k full shelf) t home × HasNoFree (store_of (seat_of (lanes free full shelf) t c)) (store_of (seat_of (lanes k full shelf) t c)))
        (sym e) (
          (record { even = record { free = s.0.even.free; shelf = s.0.even.shelf; some_part = s.0.even.some_part }; account = s.0.account; kept = record { each = s.0.kept.each } }, s.1),
          record { none = tt; count = counted free.misses 1; rose = omega (arith, risen); is = refl },
        )

    pub after_no_full : (new : Moves FullView) → new ≡ missed full → full.misses ≤ new.misses → Sits (lanes free new shelf) t home × HasNoFull (store_of (seat_of (lanes free full shelf) t c)) (store_of (seat_of (lanes free new shelf) t c))
    after_no_full new e more =
        let risen : full.misses ≤ (missed full).misses = subst (λ (k : Moves FullView). full.misses ≤ k.misses) e more in
        subst (λ (k : Moves FullView). Sits (lanes free k shelf) t home × HasNoFull (store_of (seat_of (lanes free full shelf) t c)) (store_of (seat_of (lanes free k shelf) t c)))
        (sym e) (
          (
            record {
              even = record { free = s.0.even.free; shelf = s.0.even.shelf; some_part = s.0.even.some_part };
              account = record { put = s.0.account.put; shelf_put = s.0.account.shelf_put; shelf_taken = s.0.account.shelf_taken; taken = s.0.account.taken; events_true = s.0.account.events_true; out_told = s.0.account.out_told };
              kept = record { each = s.0.kept.each };
            },
            s.1,
          ),
          record { none = tt; count = counted full.misses 1; rose = omega (arith, risen); is = refl },
        )

    pub after_take_full : (slot : FullView) (new : Moves FullView) (u : TallyView) → slot.unread ≡ false → new ≡ taken_out slot full → u ≡ lent (record { number = slot.number; was_full = true; taken = Some slot }) t
        → Sits (lanes free new shelf) u home × HasTakenFull slot (store_of (seat_of (lanes free full shelf) t c)) (store_of (seat_of (lanes free new shelf) u c))
    after_take_full slot new u read e f =
        subst (λ (k : Moves FullView × TallyView). Sits (lanes free k.0 shelf) k.1 home × HasTakenFull slot (store_of (seat_of (lanes free full shelf) t c)) (store_of (seat_of (lanes free k.0 shelf) k.1 c)))
        (λ i. (sym e i, sym f i)) (
          (record { even = record { free = s.0.even.free; shelf = s.0.even.shelf; some_part = s.0.even.some_part }; account = lends_full full shelf t slot s.0.account; kept = kept_take_full free full shelf t.out s.0.kept slot (record { number = slot.number; was_full = true; taken = Some slot }) refl }, s.1),
          record { front = tt; unread = read; is = refl },
        )

    pub after_put_free : (slot : SlotView) (new : Moves SlotView) (u : TallyView) → IsOut slot.number t.out → new ≡ put_more slot free → u ≡ given slot.number (freed_by (loan_of slot.number t.out)) t
        → Sits (lanes new full shelf) u home × (store_of (seat_of (lanes new full shelf) u c) ≡ put_free slot (store_of (seat_of (lanes free full shelf) t c)))
    after_put_free slot new u out e f =
        subst (λ (k : Moves SlotView × TallyView). Sits (lanes k.0 full shelf) k.1 home × (store_of (seat_of (lanes k.0 full shelf) k.1 c) ≡ put_free slot (store_of (seat_of (lanes free full shelf) t c))))
        (λ i. (sym e i, sym f i)) (
          (record { even = record { free = s.0.even.free; shelf = s.0.even.shelf; some_part = s.0.even.some_part }; account = puts_free full shelf t s.0.account slot.number out; kept = kept_put_free free full shelf t.out s.0.kept slot out }, s.1),
          ap (λ h. let r : StoreView = record { queues = None; handed = Some h; out = (given slot.number [] t).out; no_free = free.misses; no_full = full.misses; broken = c } in r)
              (freed_lists (homes_of (lanes free full shelf)) full.parts (began_of (lanes free full shelf)) t.events (loan_of slot.number t.out)),
        )

    pub after_put_full : (slot : FullView) (new : Moves FullView) (u : TallyView) → MayPutFull slot t.out → new ≡ put_more slot full → u ≡ given slot.number (filled_by slot (loan_of slot.number t.out)) t
        → Sits (lanes free new shelf) u home × (store_of (seat_of (lanes free new shelf) u c) ≡ put_full slot (store_of (seat_of (lanes free full shelf) t c)))
    after_put_full slot new u may e f =
        subst (λ (k : Moves FullView × TallyView). Sits (lanes free k.0 shelf) k.1 home × (store_of (seat_of (lanes free k.0 shelf) k.1 c) ≡ put_full slot (store_of (seat_of (lanes free full shelf) t c))))
        (λ i. (sym e i, sym f i)) (
          (record { even = record { free = s.0.even.free; shelf = s.0.even.shelf; some_part = s.0.even.some_part }; account = puts_full full shelf t s.0.account slot may; kept = kept_put_full free full shelf t.out s.0.kept slot may.is_out }, s.1),
          ap (λ h. let r : StoreView = record { queues = None; handed = Some h; out = (given slot.number [] t).out; no_free = free.misses; no_full = full.misses; broken = c } in r)
              (filled_lists (homes_of (lanes free full shelf)) full.parts (began_of (lanes free full shelf)) t.events slot (loan_of slot.number t.out)),
        )

    pub after_put_aside : (slot : SlotView) (new : Moves ShelvedView) (u : TallyView) → MayPutAside slot t.out → new ≡ put_more (is_aside slot) shelf → u ≡ given slot.number (shelved_by slot (loan_of slot.number t.out)) t
        → Sits (lanes free full new) u home × (store_of (seat_of (lanes free full new) u c) ≡ put_aside slot (store_of (seat_of (lanes free full shelf) t c)))
    after_put_aside slot new u may e f =
        let h = loan_here (λ loan. loan.was_full ≡ true) slot.number t.out may.was_full in
        subst (λ (k : Moves ShelvedView × TallyView). Sits (lanes free full k.0) k.1 home × (store_of (seat_of (lanes free full k.0) k.1 c) ≡ put_aside slot (store_of (seat_of (lanes free full shelf) t c))))
        (λ i. (sym e i, sym f i)) (
          (record { even = record { free = s.0.even.free; shelf = s.0.even.shelf; some_part = s.0.even.some_part }; account = puts_aside full shelf t s.0.account slot may; kept = kept_put_shelved free full shelf t.out s.0.kept (is_aside slot) (is_out (λ loan. loan.was_full ≡ true) slot.number t.out may.was_full) }, s.1),
          ap (λ h. let r : StoreView = record { queues = None; handed = Some h; out = (given slot.number [] t).out; no_free = free.misses; no_full = full.misses; broken = c } in r)
              (ap (λ o. handed_of (homes_of (lanes free full shelf)) full.parts (began_of (lanes free full shelf)) (t.events ++ shelved_by slot o)) h.is
              ∙ shelved_lists (homes_of (lanes free full shelf)) full.parts (began_of (lanes free full shelf)) t.events slot h.loan),
        )

    pub sits_put_broken : (slot : BrokenView) (new : Moves ShelvedView) (u : TallyView) → MayPutBroken slot t.out → new ≡ put_more (is_broken slot) shelf → u ≡ given slot.number (broken_by slot (loan_of slot.number t.out)) t → Sits (lanes free full new) u home
    sits_put_broken slot new u may e f =
        subst (λ (k : Moves ShelvedView × TallyView). Sits (lanes free full k.0) k.1 home) (λ i. (sym e i, sym f i)) (
          record {
            even = record { free = s.0.even.free; shelf = s.0.even.shelf; some_part = s.0.even.some_part };
            account = puts_broken full shelf t s.0.account slot may;
            kept = kept_put_shelved free full shelf t.out s.0.kept (is_broken slot) (is_out (λ loan. loan.was_full ≡ slot.from_full) slot.number t.out may.was_full);
          },
          s.1,
        )

    pub after_put_broken : (slot : BrokenView) (new : Moves ShelvedView) (u : TallyView) (count : ℕ) → Rose c count → MayPutBroken slot t.out → new ≡ put_more (is_broken slot) shelf → u ≡ given slot.number (broken_by slot (loan_of slot.number t.out)) t
        → PutsBroken slot (store_of (seat_of (lanes free full shelf) t c)) (store_of (seat_of (lanes free full new) u count))
    after_put_broken slot new u count rose may e f =
        let h = loan_here (λ loan. loan.was_full ≡ slot.from_full) slot.number t.out may.was_full in
        subst (λ (k : Moves ShelvedView × TallyView). PutsBroken slot (store_of (seat_of (lanes free full shelf) t c)) (store_of (seat_of (lanes free full k.0) k.1 count)))
        (λ i. (sym e i, sym f i)) record {
          count = count;
          rose = rose;
          is = ap (λ h. let r : StoreView = record { queues = None; handed = Some h; out = (given slot.number [] t).out; no_free = free.misses; no_full = full.misses; broken = count } in r)
              (ap (λ o. handed_of (homes_of (lanes free full shelf)) full.parts (began_of (lanes free full shelf)) (t.events ++ broken_by slot o)) h.is
              ∙ broken_lists (homes_of (lanes free full shelf)) full.parts (began_of (lanes free full shelf)) t.events slot h.loan);
        }
