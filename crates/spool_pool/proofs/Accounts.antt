-- Each take and put keeps the account of a seat.
use Rattle.std.proofs.Common.{◌≡◌, ℕ, Bool, true, false, List, [], ◌∷◌, ◌++◌, Option, Some, None, refl, ap, sym, subst, ◌∙◌}
use Rattle.std.specs.Prelude.{IfSome, if◌then◌else◌}
use Rattle.std.specs.List.{flat_map, AllByRecursion}
use Rattle.std.specs.List.Sorted.{IsPermutation}
use Rattle.std.proofs.lemmas.List.{append-nil, append_assoc}
use Rattle.std.proofs.lemmas.Grind.{flat_map-append}
use Rattle.std.proofs.lemmas.List.Sorted.{IsPermutation-refl, IsPermutation-trans, IsPermutation-append, IsPermutation-append_left, IsPermutation-append_right, IsPermutation-to_front}
use Rattle.fw_disk.specs.Moments.{Now, EachImage}
use Rattle.slot_bytes.specs.Layout.{Mail}
use Rattle.spool_slots.specs.Images.{HasMessageBehind}
use Rattle.spool_slots.specs.States.{SlotView, FullView, BrokenView, Keeps, KeepsAside}
use Rattle.spool_rack.specs.Store.{IsOut, Loan, MayPutAside, MayPutBroken, MayPutFull, OfItsMessage, loan_of, struck}
use Rattle.shared_queue.specs.Moves.{Moves, met, put_more, taken_out}
use Rattle.spool_pool.specs.Shelf.{ShelvedView, is_aside, is_broken}
use Rattle.spool_pool.specs.Events.{Event, TallyView, kept, spoilt, back, freed, shelved, broke, full_of, shelf_of, taken_of, told_of, told_in, freed_by, filled_by, shelved_by, broken_by, lent, given, joined}
use Rattle.spool_pool.specs.Account.{Account, IsTold, IsTrue, OfTaken, TellsItsSlot}
use Rattle.spool_pool.proofs.Perms.{same}
use Rattle.spool_pool.proofs.Tallies.{loan_here, loan_holds, struck_all, struck_told}

abbrev free_loan : ℕ → Loan
free_loan n = record { number = n; was_full = false; taken = None }

abbrev full_loan : FullView → Loan
full_loan slot = record { number = slot.number; was_full = true; taken = Some slot }

pub none_yet : (full : Moves FullView) (shelf : Moves ShelvedView) (steps : ℕ) → full.put ≡ [] → full.taken ≡ [] → shelf.put ≡ [] → shelf.taken ≡ []
    → Account full shelf (record { events = []; out = []; steps = steps })
none_yet full shelf steps p t sp st = record { put = p; shelf_put = sp; shelf_taken = st; taken = same full.taken [] t; events_true = tt; out_told = tt }

pub lends_free : (full : Moves FullView) (shelf : Moves ShelvedView) (t : TallyView) (n : ℕ) → Account full shelf t → Account full shelf (lent (free_loan n) t)
lends_free full shelf t n a = record { put = a.put; shelf_put = a.shelf_put; shelf_taken = a.shelf_taken; taken = a.taken; events_true = a.events_true; out_told = (refl, a.out_told) }

pub lends_full : (full : Moves FullView) (shelf : Moves ShelvedView) (t : TallyView) (slot : FullView) → Account full shelf t → Account (taken_out slot full) shelf (lent (full_loan slot) t)
lends_full full shelf t slot a =
    let gone = flat_map taken_of t.events in
    let out = flat_map told_of t.out in
    let one = IsPermutation-append_left (slot ∷ []) _ _ a.taken in
    let two = same ((gone ++ out) ++ slot ∷ []) (gone ++ (out ++ slot ∷ [])) (append_assoc gone out (slot ∷ [])) in
    let three = IsPermutation-append_right gone (out ++ slot ∷ []) (slot ∷ out) (IsPermutation-to_front out slot) in record {
      put = a.put;
      shelf_put = a.shelf_put;
      shelf_taken = a.shelf_taken;
      taken = IsPermutation-trans _ _ _ one (IsPermutation-trans _ _ _ two three);
      events_true = a.events_true;
      out_told = ((slot, refl), a.out_told);
    }

pub all_both : (P : Event → Type 0) (xs ys : List Event) → AllByRecursion P xs → AllByRecursion P ys → AllByRecursion P (xs ++ ys)
all_both P [] ys h k = k
all_both P (x ∷ xs) ys h k = (h.0, all_both P xs ys h.1 k)

-- a slot with this loan is put, with these events
gives : (full full' : Moves FullView) (shelf shelf' : Moves ShelvedView) (t : TallyView) (n : ℕ) (loan : Loan) (es : List Event) → Account full shelf t → loan_of n t.out ≡ Some loan
    → flat_map taken_of es ≡ told_of loan → AllByRecursion IsTrue es → full'.put ≡ full.put ++ flat_map full_of es → full'.taken ≡ full.taken
    → shelf'.put ≡ shelf.put ++ flat_map shelf_of es → shelf'.taken ≡ shelf.taken → Account full' shelf' (given n es t)
gives full full' shelf shelf' t n loan es a is told are_true put taken shelf_put shelf_taken =
    let gone = flat_map taken_of t.events in
    let rest = flat_map told_of (struck n t.out) in
    let one = same full'.taken full.taken taken in
    let two = IsPermutation-append_right gone _ _ (struck_told n t.out loan is) in
    let three = same (gone ++ (told_of loan ++ rest)) ((gone ++ told_of loan) ++ rest) (sym (append_assoc gone (told_of loan) rest)) in
    let four = same ((gone ++ told_of loan) ++ rest) (flat_map taken_of (t.events ++ es) ++ rest) (ap (λ l. l ++ rest) (ap (λ l. gone ++ l) (sym told) ∙ sym (flat_map-append taken_of t.events es))) in record {
      put = put ∙ ap (λ l. l ++ flat_map full_of es) a.put ∙ sym (flat_map-append full_of t.events es);
      shelf_put = shelf_put ∙ ap (λ l. l ++ flat_map shelf_of es) a.shelf_put ∙ sym (flat_map-append shelf_of t.events es);
      shelf_taken = shelf_taken ∙ a.shelf_taken;
      taken = IsPermutation-trans _ _ _ one (IsPermutation-trans _ _ _ a.taken (IsPermutation-trans _ _ _ two (IsPermutation-trans _ _ _ three four)));
      events_true = all_both IsTrue t.events es a.events_true are_true;
      out_told = struck_all TellsItsSlot n t.out a.out_told;
    }

-- what a loan tells
of_taken : (P : Mail → Type 0) (loan : Loan) → loan.was_full ≡ true → TellsItsSlot loan → IfSome loan.taken (λ full. (m : Mail) → Keeps m full → P m) → OfTaken P loan
of_taken P loan full told keeps =
    let t = subst (λ w. IsTold w loan.taken) full told in
    record { slot = t.0; told = t.1; keeps = subst (λ o. IfSome o (λ full. (m : Mail) → Keeps m full → P m)) t.1 keeps }

told_none : (loan : Loan) → loan.was_full ≡ false → TellsItsSlot loan → told_of loan ≡ []
told_none loan empty told = ap told_in (subst (λ w. IsTold w loan.taken) empty told)

its_message : (P : Mail → Type 0) (n : ℕ) (out : List Loan) (loan : Loan) → loan_of n out ≡ Some loan → OfItsMessage P n out → IfSome loan.taken (λ full. (m : Mail) → Keeps m full → P m)
its_message P n out loan is h = subst (λ o. IfSome o (λ l. IfSome l.taken (λ full. (m : Mail) → Keeps m full → P m))) is h

-- what was taken is what an event says, and the event is true
record Fits (loan : Loan) (es : List Event) : Type 0 where
  pub taken : flat_map taken_of es ≡ told_of loan
  pub are_true : AllByRecursion IsTrue es

trivially : (o : Option FullView) → IfSome o (λ full. (m : Mail) → Keeps m full → Unit {0})
trivially None = tt
trivially (Some full) = λ m keeps. tt

freed_fits : (loan : Loan) → TellsItsSlot loan → Fits loan (freed_by (Some loan))
freed_fits loan told = by_flag loan.was_full refl
  where
    by_flag : (w : Bool) → loan.was_full ≡ w → Fits loan (if w then freed loan ∷ [] else [])
    by_flag true e = record { taken = append-nil (told_of loan); are_true = (of_taken (λ m. Unit {0}) loan e told (trivially loan.taken), tt) }
    by_flag false e = record { taken = sym (told_none loan e told); are_true = tt }

filled_fits : (slot : FullView) (loan : Loan) → TellsItsSlot loan → IfSome loan.taken (λ full. (m : Mail) → Keeps m full → Keeps m slot) → Fits loan (filled_by slot (Some loan))
filled_fits slot loan told keeps = by_flag loan.was_full refl
  where
    by_flag : (w : Bool) → loan.was_full ≡ w → Fits loan (if w then back loan slot ∷ [] else kept slot ∷ [])
    by_flag true e = record { taken = append-nil (told_of loan); are_true = (of_taken (λ m. Keeps m slot) loan e told keeps, tt) }
    by_flag false e = record { taken = sym (told_none loan e told); are_true = (tt, tt) }

filled_put : (slot : FullView) (loan : Loan) → flat_map full_of (filled_by slot (Some loan)) ≡ slot ∷ []
filled_put slot loan = by_flag loan.was_full
  where
    by_flag : (w : Bool) → flat_map full_of (if w then back loan slot ∷ [] else kept slot ∷ []) ≡ slot ∷ []
    by_flag true = refl
    by_flag false = refl

filled_shelf : (slot : FullView) (loan : Loan) → flat_map shelf_of (filled_by slot (Some loan)) ≡ []
filled_shelf slot loan = by_flag loan.was_full
  where
    by_flag : (w : Bool) → flat_map shelf_of (if w then back loan slot ∷ [] else kept slot ∷ []) ≡ []
    by_flag true = refl
    by_flag false = refl

freed_put : (loan : Loan) → flat_map full_of (freed_by (Some loan)) ≡ []
freed_put loan = by_flag loan.was_full
  where
    by_flag : (w : Bool) → flat_map full_of (if w then freed loan ∷ [] else []) ≡ []
    by_flag true = refl
    by_flag false = refl

freed_shelf : (loan : Loan) → flat_map shelf_of (freed_by (Some loan)) ≡ []
freed_shelf loan = by_flag loan.was_full
  where
    by_flag : (w : Bool) → flat_map shelf_of (if w then freed loan ∷ [] else []) ≡ []
    by_flag true = refl
    by_flag false = refl

broken_put : (slot : BrokenView) (loan : Loan) → flat_map full_of (broken_by slot (Some loan)) ≡ []
broken_put slot loan = by_flag slot.from_full
  where
    by_flag : (w : Bool) → flat_map full_of (if w then broke loan slot ∷ [] else spoilt slot ∷ []) ≡ []
    by_flag true = refl
    by_flag false = refl

broken_shelf : (slot : BrokenView) (loan : Loan) → flat_map shelf_of (broken_by slot (Some loan)) ≡ is_broken slot ∷ []
broken_shelf slot loan = by_flag slot.from_full
  where
    by_flag : (w : Bool) → flat_map shelf_of (if w then broke loan slot ∷ [] else spoilt slot ∷ []) ≡ is_broken slot ∷ []
    by_flag true = refl
    by_flag false = refl

broken_fits : (slot : BrokenView) (loan : Loan) → loan.was_full ≡ slot.from_full → TellsItsSlot loan
    → IfSome loan.taken (λ full. (m : Mail) → Keeps m full → Now (EachImage (HasMessageBehind m)) slot.disk) → Fits loan (broken_by slot (Some loan))
broken_fits slot loan was told keeps = by_flag slot.from_full refl was
  where
    by_flag : (w : Bool) → slot.from_full ≡ w → loan.was_full ≡ w → Fits loan (if w then broke loan slot ∷ [] else spoilt slot ∷ [])
    by_flag true from e = record { taken = append-nil (told_of loan); are_true = ((from, of_taken (λ m. Now (EachImage (HasMessageBehind m)) slot.disk) loan e told keeps), tt) }
    by_flag false from e = record { taken = sym (told_none loan e told); are_true = (from, tt) }

module _ (full : Moves FullView) (shelf : Moves ShelvedView) (t : TallyView) (a : Account full shelf t) where
  pub puts_free : (n : ℕ) → IsOut n t.out → Account full shelf (given n (freed_by (loan_of n t.out)) t)
  puts_free n out =
      let h = loan_here (λ loan. Unit {0}) n t.out out in
      let fits = freed_fits h.loan (loan_holds TellsItsSlot n t.out h.loan a.out_told h.is) in
      let put = sym (append-nil full.put) ∙ ap (λ l. full.put ++ l) (sym (freed_put h.loan)) in
      let shelf_put = sym (append-nil shelf.put) ∙ ap (λ l. shelf.put ++ l) (sym (freed_shelf h.loan)) in
      subst (λ o. Account full shelf (given n (freed_by o) t)) (sym h.is) (gives full full shelf shelf t n h.loan (freed_by (Some h.loan)) a h.is fits.taken fits.are_true put refl shelf_put refl)

  pub puts_full : (slot : FullView) → MayPutFull slot t.out → Account (put_more slot full) shelf (given slot.number (filled_by slot (loan_of slot.number t.out)) t)
  puts_full slot may =
      let n = slot.number in
      let h = loan_here (λ loan. Unit {0}) n t.out may.is_out in
      let fits = filled_fits slot h.loan (loan_holds TellsItsSlot n t.out h.loan a.out_told h.is) (its_message (λ m. Keeps m slot) n t.out h.loan h.is may.message) in
      let put = ap (λ l. full.put ++ l) (sym (filled_put slot h.loan)) in
      let shelf_put = sym (append-nil shelf.put) ∙ ap (λ l. shelf.put ++ l) (sym (filled_shelf slot h.loan)) in
      subst (λ o. Account (put_more slot full) shelf (given n (filled_by slot o) t)) (sym h.is) (gives full (put_more slot full) shelf shelf t n h.loan (filled_by slot (Some h.loan)) a h.is fits.taken fits.are_true put refl shelf_put refl)

  pub puts_aside : (slot : SlotView) → MayPutAside slot t.out → Account full (put_more (is_aside slot) shelf) (given slot.number (shelved_by slot (loan_of slot.number t.out)) t)
  puts_aside slot may =
      let n = slot.number in
      let h = loan_here (λ loan. loan.was_full ≡ true) n t.out may.was_full in
      let told = loan_holds TellsItsSlot n t.out h.loan a.out_told h.is in
      let holds = of_taken (λ m. KeepsAside m slot) h.loan h.holds told (its_message (λ m. KeepsAside m slot) n t.out h.loan h.is may.message) in
      let put = sym (append-nil full.put) in
      subst (λ o. Account full (put_more (is_aside slot) shelf) (given n (shelved_by slot o) t)) (sym h.is)
      (gives full full shelf (put_more (is_aside slot) shelf) t n h.loan (shelved h.loan slot ∷ []) a h.is (append-nil (told_of h.loan)) (holds, tt) put refl refl refl)

  pub puts_broken : (slot : BrokenView) → MayPutBroken slot t.out → Account full (put_more (is_broken slot) shelf) (given slot.number (broken_by slot (loan_of slot.number t.out)) t)
  puts_broken slot may =
      let n = slot.number in
      let h = loan_here (λ loan. loan.was_full ≡ slot.from_full) n t.out may.was_full in
      let told = loan_holds TellsItsSlot n t.out h.loan a.out_told h.is in
      let fits = broken_fits slot h.loan h.holds told (its_message (λ m. Now (EachImage (HasMessageBehind m)) slot.disk) n t.out h.loan h.is may.message) in
      let put = sym (append-nil full.put) ∙ ap (λ l. full.put ++ l) (sym (broken_put slot h.loan)) in
      let shelf_put = ap (λ l. shelf.put ++ l) (sym (broken_shelf slot h.loan)) in
      subst (λ o. Account full (put_more (is_broken slot) shelf) (given n (broken_by slot o) t)) (sym h.is)
      (gives full full shelf (put_more (is_broken slot) shelf) t n h.loan (broken_by slot (Some h.loan)) a h.is fits.taken fits.are_true put refl shelf_put refl)

-- two passes have met, of which no slot is out
pub meets : (full others : Moves FullView) (shelf other_shelf : Moves ShelvedView) (t u : TallyView) → t.out ≡ [] → u.out ≡ [] → Account full shelf t → Account others other_shelf u
    → Account (met full others) (met shelf other_shelf) (joined t u)
meets full others shelf other_shelf t u none none' a b =
    let gone = flat_map taken_of t.events in
    let gone' = flat_map taken_of u.events in
    let mine = subst (λ o. IsPermutation full.taken (gone ++ flat_map told_of o)) none a.taken in
    let theirs = subst (λ o. IsPermutation others.taken (gone' ++ flat_map told_of o)) none' b.taken in
    let one = IsPermutation-append _ _ _ _ mine theirs in
    let two = same ((gone ++ []) ++ (gone' ++ [])) ((gone ++ gone') ++ []) (ap (λ l. l ++ (gone' ++ [])) (append-nil gone) ∙ ap (λ l. gone ++ l) (append-nil gone') ∙ sym (append-nil (gone ++ gone'))) in
    let three = same ((gone ++ gone') ++ []) (flat_map taken_of (t.events ++ u.events) ++ []) (ap (λ l. l ++ []) (sym (flat_map-append taken_of t.events u.events))) in
    let four = subst (λ o. IsPermutation (flat_map taken_of (t.events ++ u.events) ++ []) (flat_map taken_of (t.events ++ u.events) ++ flat_map told_of o)) (sym none) (IsPermutation-refl _) in record {
      put = (λ i. a.put i ++ b.put i) ∙ sym (flat_map-append full_of t.events u.events);
      shelf_put = (λ i. a.shelf_put i ++ b.shelf_put i) ∙ sym (flat_map-append shelf_of t.events u.events);
      shelf_taken = (λ i. a.shelf_taken i ++ b.shelf_taken i);
      taken = IsPermutation-trans _ _ _ one (IsPermutation-trans _ _ _ two (IsPermutation-trans _ _ _ three four));
      events_true = all_both IsTrue t.events u.events a.events_true b.events_true;
      out_told = a.out_told;
    }
