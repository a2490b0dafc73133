-- What is done to a store of slots, as what becomes of a spool.
use Rattle.std.proofs.Common.{arith, ◌≡◌, refl, sym, ap, subst, ◌∙◌, ℕ, ◌+◌, ◌≤◌, List, [], ◌∷◌, ◌++◌, length, map, take, append-nil, Option, Some, None}
use Rattle.std.specs.Prelude.{IfSome, option_map}
use Rattle.std.specs.List.{AllByRecursion}
use Rattle.fw_disk.specs.DiskView.{DiskView, Tape}
use Rattle.slot_bytes.specs.Layout.{Mail}
use Rattle.spool_law.specs.Events.{Event, after_all}
use Rattle.spool_law.specs.World.{World}
use Rattle.spool_rack.specs.Opening.{AreInOrder, AreSlotsOf, CameBack, HeldView, all_of, held_broken, held_full, held_slot, queues_of}
use Rattle.spool_rack.specs.Store.{HasTakenFree, HasTakenFull, PutsBroken, Queues, StoreView, put_aside, put_free, put_full, with_aside, with_broken, with_free, with_full, without_free, without_full}
use Rattle.spool_slots.specs.Opened.{disk_of}
use Rattle.spool_slots.specs.States.{BrokenView, FullView, SlotView}
use Rattle.spool_slots.specs.declared.opening.Opened.{Opened}
use Rattle.spool_slots.specs.declared.slot_why.SlotWhy.{SlotWhy}
use Rattle.spool_runs.specs.OnDisks.{AreAccepted, AreAnswered, AreOn, AreTaped, IsReachable, IsStepOf, RunsSpool, SpoolRun}
use Rattle.spool_runs.proofs.GrownLemmas.{Grown, accepts_both, accepts_none, answers_both, answers_none, grown_both, grown_here}
use Rattle.spool_runs.proofs.ReachLemmas.{reached, reaches_all}
use Rattle.spool_runs.proofs.PlaceLemmas.{Placed, ToldBy, back_run, closed_rack, disks_length, first_tapes, fits_first, opened_length, opened_rack, opened_run, placed, told_first, RunEach}
use Rattle.spool_runs.proofs.RackLemmas.{Fits, IsMoved, IsRack, fits_after, puts_aside, puts_broken, puts_free, puts_full, takes_free, takes_full, taped_all}
use Rattle.spool_runs.proofs.TapeLemmas.{after_both, each_both, on_after, possible_both, taped_then}

-- whichever spool the slots are of, events lead it on with the store, by which these messages were answered for and accepted
abbrev pub Grows : ℕ → List Mail → List Mail → StoreView → StoreView → Type 0
Grows count answered accepted old new =
    (w : World) (tapes : ℕ → Tape) (q : Queues) → IsReachable w → Fits w tapes → old.queues ≡ Some q → IsRack count tapes q → Grown count answered accepted w tapes new.queues

pub grows_same : (count : ℕ) (old new : StoreView) → new.queues ≡ old.queues → Grows count [] [] old new
grows_same count old new same w tapes q reach fits is rack = grown_here count w tapes q new.queues (same ∙ is) rack

pub grows_both : (count : ℕ) (a b c d : List Mail) (old mid new : StoreView) → Grows count a c old mid → Grows count b d mid new → Grows count (a ++ b) (c ++ d) old new
grows_both count a b c d old mid new first more w tapes q reach fits is rack =
    let x = first w tapes q reach fits is rack in
    let y = more (after_all x.events w) (taped_all x.events w tapes) x.q (reached w (after_all x.events w) reach (reaches_all x.events w x.possible)) (fits_after count x.events w tapes x.steps fits) x.queues_are x.rack in
    grown_both count a b c d w tapes mid.queues new.queues x y

-- ---- a slot that was taken and put back

pub record LentFree (slot : SlotView) (q : Queues) (lent : StoreView) : Type 0 where
  pub front : take 1 q.free ≡ slot ∷ []
  pub queues : lent.queues ≡ Some (without_free q)

pub lent_free : (slot : SlotView) (old lent : StoreView) (q : Queues) → HasTakenFree slot old lent → old.queues ≡ Some q → LentFree slot q lent
lent_free slot old lent q takes is = record {
  front = subst (λ (o : Option Queues). IfSome o (λ (x : Queues). take 1 x.free ≡ slot ∷ [])) is takes.front;
  queues = ap (λ (s : StoreView). s.queues) takes.is ∙ ap (option_map without_free) is;
}

pub record LentFull (slot : FullView) (q : Queues) (lent : StoreView) : Type 0 where
  pub front : take 1 q.full ≡ slot ∷ []
  pub queues : lent.queues ≡ Some (without_full q)

pub lent_full : (slot : FullView) (old lent : StoreView) (q : Queues) → HasTakenFull slot old lent → old.queues ≡ Some q → LentFull slot q lent
lent_full slot old lent q takes is = record {
  front = subst (λ (o : Option Queues). IfSome o (λ (x : Queues). take 1 x.full ≡ slot ∷ [])) is takes.front;
  queues = ap (λ (s : StoreView). s.queues) takes.is ∙ ap (option_map without_full) is;
}

pub put_free_queues : (slot : SlotView) (lent new : StoreView) (q : Queues) → new ≡ put_free slot lent → lent.queues ≡ Some q → new.queues ≡ Some (with_free slot q)
put_free_queues slot lent new q is queues = ap (λ (s : StoreView). s.queues) is ∙ ap (option_map (with_free slot)) queues

pub put_full_queues : (slot : FullView) (lent new : StoreView) (q : Queues) → new ≡ put_full slot lent → lent.queues ≡ Some q → new.queues ≡ Some (with_full slot q)
put_full_queues slot lent new q is queues = ap (λ (s : StoreView). s.queues) is ∙ ap (option_map (with_full slot)) queues

pub put_aside_queues : (slot : SlotView) (lent new : StoreView) (q : Queues) → new ≡ put_aside slot lent → lent.queues ≡ Some q → new.queues ≡ Some (with_aside slot q)
put_aside_queues slot lent new q is queues = ap (λ (s : StoreView). s.queues) is ∙ ap (option_map (with_aside slot)) queues

pub put_broken_queues : (slot : BrokenView) (lent new : StoreView) (q : Queues) → PutsBroken slot lent new → lent.queues ≡ Some q → new.queues ≡ Some (with_broken slot q)
put_broken_queues slot lent new q puts queues = ap (λ (s : StoreView). s.queues) puts.is ∙ ap (option_map (with_broken slot)) queues

module _ (q : Queues) (slot : SlotView) (front : take 1 q.free ≡ slot ∷ []) where
  pub free_to_free : (put : SlotView) → put.number ≡ slot.number → IsMoved (held_slot slot) (held_slot put) q (with_free put (without_free q))
  free_to_free put number = record { others = all_of (without_free q); before = takes_free q slot front; after = puts_free (without_free q) put; number = number }

  pub free_to_full : (put : FullView) → put.number ≡ slot.number → IsMoved (held_slot slot) (held_full put) q (with_full put (without_free q))
  free_to_full put number = record { others = all_of (without_free q); before = takes_free q slot front; after = puts_full (without_free q) put; number = number }

  pub free_to_broken : (put : BrokenView) → put.number ≡ slot.number → IsMoved (held_slot slot) (held_broken put) q (with_broken put (without_free q))
  free_to_broken put number = record { others = all_of (without_free q); before = takes_free q slot front; after = puts_broken (without_free q) put; number = number }

module _ (q : Queues) (slot : FullView) (front : take 1 q.full ≡ slot ∷ []) where
  pub full_to_free : (put : SlotView) → put.number ≡ slot.number → IsMoved (held_full slot) (held_slot put) q (with_free put (without_full q))
  full_to_free put number = record { others = all_of (without_full q); before = takes_full q slot front; after = puts_free (without_full q) put; number = number }

  pub full_to_full : (put : FullView) → put.number ≡ slot.number → IsMoved (held_full slot) (held_full put) q (with_full put (without_full q))
  full_to_full put number = record { others = all_of (without_full q); before = takes_full q slot front; after = puts_full (without_full q) put; number = number }

  pub full_to_aside : (put : SlotView) → put.number ≡ slot.number → IsMoved (held_full slot) (held_slot put) q (with_aside put (without_full q))
  full_to_aside put number = record { others = all_of (without_full q); before = takes_full q slot front; after = puts_aside (without_full q) put; number = number }

  pub full_to_broken : (put : BrokenView) → put.number ≡ slot.number → IsMoved (held_full slot) (held_broken put) q (with_broken put (without_full q))
  full_to_broken put number = record { others = all_of (without_full q); before = takes_full q slot front; after = puts_broken (without_full q) put; number = number }

-- ---- a whole run

pub run_of_places : (olds news : List DiskView) → RunEach olds news → RunsSpool [] [] olds news
run_of_places olds news each w reach on =
    let p = placed 0 (length olds) w olds news each on (omega arith) in
    record {
      events = p.events;
      are = p.steps;
      possible = p.possible;
      disks = p.disks;
      answers = answers_none w (after_all p.events w) (let b = p.begun in omega (arith, b)) p.answered;
      accepts = accepts_none w (after_all p.events w) p.accepted;
    }

-- the slots weren't all opened
pub run_came_back : (D : Type 0) (slot : ℕ) (why : SlotWhy) (olds news : List DiskView) → CameBack D 0 slot why olds news → RunsSpool [] [] olds news
run_came_back D slot why olds news back = run_of_places olds news (back_run D 0 slot why olds news back)

-- the slots were opened, and the rack was closed after this was done to it
pub run_over_rack : {D : Type 0} (answered accepted : List Mail) (disks back : List DiskView) (slots : List (Opened D)) (first last : StoreView) → AreSlotsOf D 0 disks slots → first.queues ≡ Some (queues_of slots)
    → Grows (length disks) answered accepted first last → IfSome last.queues (λ q. AreInOrder q back) → RunsSpool answered accepted disks back
run_over_rack answered accepted disks back slots first last are is grows closed w reach on =
    let middle : List DiskView = map disk_of slots in
    let p = placed 0 (length disks) w disks middle (opened_run 0 disks slots are) on (omega arith) in
    let mid : World = after_all p.events w in
    let on_mid : AreOn 0 mid middle = on_after 0 (length disks) p.events w disks middle p.steps on p.disks in
    let tapes : ℕ → Tape = first_tapes mid middle in
    let told = told_first mid middle on_mid in
    let g = grows mid tapes (queues_of slots) (reached w mid reach (reaches_all p.events w p.possible)) (fits_first mid middle on_mid) is (opened_rack tapes disks slots are told) in
    let many : length disks ≡ length middle = sym (disks_length slots ∙ opened_length 0 disks slots are) in
    let order : AreInOrder g.q back = subst (λ (o : Option Queues). IfSome o (λ (x : Queues). AreInOrder x back)) g.queues_are closed in
    let taped_back : AreTaped 0 g.events mid middle back = closed_rack tapes g.events mid middle back g.q (subst (λ (n : ℕ). IsRack n (taped_all g.events mid tapes) g.q) many g.rack) told order in
    let both : after_all (p.events ++ g.events) w ≡ after_all g.events mid = after_both p.events g.events w in
    let none = answers_none w mid (let b = p.begun in omega (arith, b)) p.answered in
    record {
      events = p.events ++ g.events;
      are = each_both (IsStepOf (length disks)) p.events g.events p.steps g.steps;
      possible = possible_both p.events g.events w p.possible g.possible;
      disks = taped_then 0 p.events g.events w disks middle back p.disks taped_back;
      answers = subst (λ (x : World). AreAnswered answered w x) (sym both) (answers_both [] answered w mid (after_all g.events mid) none g.answers);
      accepts = subst (λ (x : World). AreAccepted accepted w x) (sym both) (accepts_both [] accepted w mid (after_all g.events mid) (accepts_none w mid p.accepted) g.accepts);
    }
