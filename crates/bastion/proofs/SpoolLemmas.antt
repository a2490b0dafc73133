-- From the queues of a rack to the places of its disks.
use Rattle.std.proofs.Common.{arith, ◌≡◌, refl, sym, ap, subst, ◌∙◌, ℕ, zero, suc, ◌+◌, List, [], ◌∷◌, ◌++◌, length, map}
use Rattle.std.specs.List.{AllByRecursion}
use Rattle.std.proofs.lemmas.List.{length-map}
use Rattle.std.proofs.lemmas.List.Elements.{All-from_recursion, recursion_from_All}
use Rattle.std.proofs.lemmas.List.Sorted.{All-permutation, IsPermutation-sym, sum_by-IsPermutation}
use Rattle.fw_disk.specs.DiskView.{DiskView}
use Rattle.session_acts.specs.Stored.{AreKept, KeptMail}
use Rattle.spool_rack.specs.Opening.{AreInOrder, AreSlotsOf, HeldView, all_of, held_broken, held_full, held_slot, queues_of}
use Rattle.spool_rack.specs.Store.{Queues}
use Rattle.spool_slots.specs.States.{BrokenView, FullView, SlotView}
use Rattle.spool_slots.specs.declared.opening.Opened.{Opened}
use Rattle.spool_slots.specs.declared.opening.Opened.TheVariants.{Free, Full, Aside}
use Rattle.spool_runs.proofs.PlaceLemmas.{opened_length}
use Rattle.spool_runs.proofs.NumberLemmas.{NumberedFrom, count_from, count_in, held_count, numbered, numbered_length, one_at, opened_counts, weaker}
use Rattle.bastion.specs.Spool.{AtPlace, HasMail, StandAtPlaces, StayAsOpened, StaysAside}

-- ---- at their places

-- this is the disk at the place of the slot's number
abbrev pub IsHeldAt : List DiskView → HeldView → Type 0
IsHeldAt disks slot = AtPlace (λ disk. disk ≡ slot.disk) slot.number disks

record Beyond (a : ℕ) (disks : List DiskView) (slot : HeldView) : Type 0 where
  place : ℕ
  is : slot.number ≡ a + place
  there : AtPlace (λ disk. disk ≡ slot.disk) place disks

beyond_all : (a : ℕ) (slots : List HeldView) → NumberedFrom a slots → AllByRecursion (Beyond a (map (λ (s : HeldView). s.disk) slots)) slots
beyond_all a [] h = tt
beyond_all a (slot ∷ slots) h =
    let disks : List DiskView = map (λ (s : HeldView). s.disk) slots in
    let number = h.0 in
    let later : (s : HeldView) → Beyond (a + 1) disks s → Beyond a (slot.disk ∷ disks) s = λ s b. (let is = b.is in record { place = suc b.place; is = omega (arith, is); there = b.there }) in
    (record { place = 0; is = omega (arith, number); there = refl }, weaker (Beyond (a + 1) disks) (Beyond a (slot.disk ∷ disks)) later slots (beyond_all (a + 1) slots h.1))

held_at : (slots : List HeldView) → NumberedFrom 0 slots → AllByRecursion (IsHeldAt (map (λ (s : HeldView). s.disk) slots)) slots
held_at slots h =
    let disks : List DiskView = map (λ (s : HeldView). s.disk) slots in
    weaker (Beyond 0 disks) (IsHeldAt disks) (λ s b. subst (λ (n : ℕ). AtPlace (λ disk. disk ≡ s.disk) n disks) (let is = b.is in omega (arith, is)) b.there) slots (beyond_all 0 slots h)

-- ---- parts of all

pub both_parts : {X : Type 0} (P : X → Type 0) (xs ys : List X) → AllByRecursion P (xs ++ ys) → AllByRecursion P xs × AllByRecursion P ys
both_parts P [] ys all = (tt, all)
both_parts P (x ∷ xs) ys all = let rest = both_parts P xs ys all.1 in ((all.0, rest.0), rest.1)

unmapped : {X Y : Type 0} (P : Y → Type 0) (f : X → Y) (xs : List X) → AllByRecursion P (map f xs) → AllByRecursion (λ x. P (f x)) xs
unmapped P f [] all = tt
unmapped P f (x ∷ xs) all = (all.0, unmapped P f xs all.1)

-- ---- a rack that is closed

-- the queues have the slots that the opened ones have, by their numbers, and those set aside are the same
pub record QueuesStay (old new : Queues) : Type 0 where
  pub aside : new.aside ≡ old.aside
  pub counts : (k : ℕ) → count_in k new ≡ count_in k old

-- each full slot, each that is set aside, and each broken one is at the place of its number
pub record AreAt (q : Queues) (disks : List DiskView) : Type 0 where
  pub full : AllByRecursion (λ (f : FullView). IsHeldAt disks (held_full f)) q.full
  pub aside : AllByRecursion (λ (s : SlotView). IsHeldAt disks (held_slot s)) q.aside
  pub broken : AllByRecursion (λ (b : BrokenView). IsHeldAt disks (held_broken b)) q.broken

-- what is in order has the numbers of the places
order_counts : (k : ℕ) (disks back : List DiskView) (slots : List (Opened (Unit {0}))) (last : Queues) → AreSlotsOf (Unit {0}) 0 disks slots → ((n : ℕ) → count_in n last ≡ count_in n (queues_of slots)) → (order : AreInOrder last back)
    → held_count k order.slots ≡ count_from k 0 (length slots)
order_counts k disks back slots last opened same order = sum_by-IsPermutation (λ (h : HeldView). one_at k h.number) (all_of last) order.slots order.same ∙ same k ∙ opened_counts k 0 disks slots opened

-- as many disks come back
pub closed_length : (disks back : List DiskView) (slots : List (Opened (Unit {0}))) (last : Queues) → AreSlotsOf (Unit {0}) 0 disks slots → ((n : ℕ) → count_in n last ≡ count_in n (queues_of slots)) → AreInOrder last back → length back ≡ length disks
closed_length disks back slots last opened same order =
    ap (λ (l : List DiskView). length l) order.are ∙ length-map order.slots (λ (s : HeldView). s.disk) ∙ numbered_length 0 (length slots) order.slots order.rise (λ k. order_counts k disks back slots last opened same order) ∙ opened_length 0 disks slots opened

pub closed_at : (disks back : List DiskView) (slots : List (Opened (Unit {0}))) (last : Queues) → AreSlotsOf (Unit {0}) 0 disks slots → ((n : ℕ) → count_in n last ≡ count_in n (queues_of slots)) → AreInOrder last back → AreAt last back
closed_at disks back slots last opened same order =
    let counts : (k : ℕ) → held_count k order.slots ≡ count_from k 0 (length slots) = λ k. order_counts k disks back slots last opened same order in
    let here : AllByRecursion (IsHeldAt back) order.slots = subst (λ (l : List DiskView). AllByRecursion (IsHeldAt l) order.slots) (sym order.are) (held_at order.slots (numbered 0 (length slots) order.slots order.rise counts)) in
    let all = recursion_from_All (IsHeldAt back) (all_of last) (All-permutation (IsHeldAt back) order.slots (all_of last) (IsPermutation-sym (all_of last) order.slots order.same) (All-from_recursion (IsHeldAt back) order.slots here)) in
    let broken = both_parts (IsHeldAt back) (map held_slot last.free ++ map held_full last.full ++ map held_slot last.aside) (map held_broken last.broken) all in
    let aside = both_parts (IsHeldAt back) (map held_slot last.free ++ map held_full last.full) (map held_slot last.aside) broken.0 in
    let full = both_parts (IsHeldAt back) (map held_slot last.free) (map held_full last.full) aside.0 in
    record { full = unmapped (IsHeldAt back) held_full last.full full.1; aside = unmapped (IsHeldAt back) held_slot last.aside aside.1; broken = unmapped (IsHeldAt back) held_broken last.broken broken.1 }

-- ---- what was opened stays

stay_by : (back : List DiskView) (slots : List (Opened (Unit {0}))) → AllByRecursion (λ (f : FullView). IsHeldAt back (held_full f)) (queues_of slots).full → AllByRecursion (λ (s : SlotView). IsHeldAt back (held_slot s)) (queues_of slots).aside → StayAsOpened slots back
stay_by back [] full aside = tt
stay_by back (Free slot ∷ slots) full aside = (tt, stay_by back slots full aside)
stay_by back (Full slot ∷ slots) full aside = (full.0, stay_by back slots full.1 aside)
stay_by back (Aside slot ∷ slots) full aside = (aside.0, stay_by back slots full aside.1)

pub stays : (back : List DiskView) (slots : List (Opened (Unit {0}))) (last : Queues) (more : List FullView) → last.full ≡ (queues_of slots).full ++ more → last.aside ≡ (queues_of slots).aside → AreAt last back → StayAsOpened slots back
stays back slots last more full aside at =
    let P : FullView → Type 0 = λ f. IsHeldAt back (held_full f) in
    let Q : SlotView → Type 0 = λ s. IsHeldAt back (held_slot s) in
    stay_by back slots (both_parts P (queues_of slots).full more (subst (AllByRecursion P) full at.full)).0 (subst (AllByRecursion Q) aside at.aside)

-- those that were set aside stay so, whatever stands behind them
stay_aside_by : (back : List DiskView) (slots : List (Opened (Unit {0}))) → AllByRecursion (λ (s : SlotView). IsHeldAt back (held_slot s)) (queues_of slots).aside → AllByRecursion (StaysAside back) slots
stay_aside_by back [] aside = tt
stay_aside_by back (Free slot ∷ slots) aside = (tt, stay_aside_by back slots aside)
stay_aside_by back (Full slot ∷ slots) aside = (tt, stay_aside_by back slots aside)
stay_aside_by back (Aside slot ∷ slots) aside = (aside.0, stay_aside_by back slots aside.1)

pub stays_aside : (back : List DiskView) (slots : List (Opened (Unit {0}))) (last : Queues) (more : List SlotView) → last.aside ≡ (queues_of slots).aside ++ more → AreAt last back → AllByRecursion (StaysAside back) slots
stays_aside back slots last more aside at =
    let Q : SlotView → Type 0 = λ s. IsHeldAt back (held_slot s) in
    stay_aside_by back slots (both_parts Q (queues_of slots).aside more (subst (AllByRecursion Q) aside at.aside)).0

-- ---- what was kept stands

at_weaker : (P Q : DiskView → Type 0) → ((d : DiskView) → P d → Q d) → (place : ℕ) (disks : List DiskView) → AtPlace P place disks → AtPlace Q place disks
at_weaker P Q so zero [] h = absurd h
at_weaker P Q so (suc place) [] h = absurd h
at_weaker P Q so zero (disk ∷ disks) h = so disk h
at_weaker P Q so (suc place) (disk ∷ disks) h = at_weaker P Q so place disks h

kept_at : (back : List DiskView) (mails : List KeptMail) (more : List FullView) → AreKept mails more → AllByRecursion (λ (f : FullView). IsHeldAt back (held_full f)) more → StandAtPlaces mails back
kept_at back [] [] are at = tt
kept_at back [] (slot ∷ more) are at = tt
kept_at back (one ∷ mails) [] are at = absurd are
kept_at back (one ∷ mails) (slot ∷ more) are at =
    let there = at_weaker (λ (d : DiskView). d ≡ slot.disk) (HasMail one.mail) (λ d is. subst (HasMail one.mail) (sym is) are.1) slot.number back at.0 in
    (subst (λ (n : ℕ). AtPlace (HasMail one.mail) n back) are.0 there, kept_at back mails more are.2 at.1)

pub stand : (back : List DiskView) (mails : List KeptMail) (first more : List FullView) (last : Queues) → last.full ≡ first ++ more → AreKept mails more → AreAt last back → StandAtPlaces mails back
stand back mails first more last full are at =
    let P : FullView → Type 0 = λ f. IsHeldAt back (held_full f) in
    kept_at back mails more are (both_parts P first more (subst (AllByRecursion P) full at.full)).1
