-- From the disks of a spool to a rack, and back.
use Rattle.std.proofs.Common.{arith, ◌≡◌, refl, sym, ap, subst, ◌∙◌, ℕ, zero, suc, ◌+◌, ◌<◌, ◌≤◌, ◌⊎◌, inl, inr, List, [], ◌∷◌, ◌++◌, length, map, append-nil, Option, Some, None}
use Rattle.std.specs.Prelude.{option_map}
use Rattle.std.specs.List.{AllByRecursion, sum_by}
use Rattle.std.specs.List.Sorted.{IsNonDecreasingBy, IsPermutation}
use Rattle.std.proofs.lemmas.Bool.{cases_order}
use Rattle.std.proofs.lemmas.List.Elements.{All-from_recursion, recursion_from_All}
use Rattle.std.proofs.lemmas.List.Sorted.{All-permutation, sum_by-IsPermutation}
use Rattle.std.proofs.lemmas.List.Sums.{sum_by-cons}
use Rattle.fw_disk.specs.DiskView.{DiskView, Tape}
use Rattle.spool_law.specs.Events.{ArePossible, Event, after_all}
use Rattle.spool_law.specs.Runs.{Known, known_in, taped}
use Rattle.spool_law.specs.World.{Slot, World}
use Rattle.spool_law.proofs.RunLemmas.{runs_here}
use Rattle.spool_rack.specs.Opening.{AreInOrder, AreSlotsOf, CameBack, HeldView, IsSlotOf, RunsOn, all_of, held_broken, held_full, held_slot, queues_of}
use Rattle.spool_rack.specs.Store.{Queues}
use Rattle.spool_slots.specs.Opened.{disk_of, number_of}
use Rattle.spool_slots.specs.States.{BrokenView, FullView, SlotView}
use Rattle.spool_slots.specs.declared.opening.Opened.{Opened}
use Rattle.spool_slots.specs.declared.opening.Opened.TheVariants.{Free, Full, Aside}
use Rattle.spool_slots.specs.declared.slot_why.SlotWhy.{SlotWhy}
use Rattle.spool_runs.specs.OnDisks.{AreOn, AreTaped, IsOn, IsStepOf}
use Rattle.spool_runs.proofs.NumberLemmas.{count_from, first_by, held_count, one_at, one_here, opened_counts, rest_rises}
use Rattle.spool_runs.proofs.RackLemmas.{Called, Fits, HasTape, IsFullOn, IsRack, called, taped_all}
use Rattle.spool_runs.proofs.TapeLemmas.{after_both, each_both, possible_both, taped_both, taped_same, taped_then}

-- ---- disks that are called one after another

-- each of these disks was only called by steps that leave what its slot is used for
abbrev pub RunEach : List DiskView → List DiskView → Type 0
RunEach [] [] = Unit {0}
RunEach (old ∷ olds) (new ∷ news) = RunsOn old new × RunEach olds news
RunEach _ _ = ⊥

-- these calls are events of the spool, from the slot of a number on
pub record Placed (n count : ℕ) (w : World) (olds news : List DiskView) : Type 0 where
  pub events : List Event
  pub steps : AllByRecursion (IsStepOf count) events
  pub possible : ArePossible events w
  pub disks : AreTaped n events w olds news
  pub begun : (after_all events w).begun ≡ w.begun
  pub accepted : (after_all events w).accepted ≡ w.accepted
  pub answered : (after_all events w).answered ≡ w.answered
  pub before : (k : ℕ) (tape : Tape) → k < n → taped k events w tape ≡ tape

on_behind : (n a : ℕ) (w v : World) (disks : List DiskView) → ((k : ℕ) → (k ≡ n → ⊥) → v.slots k ≡ w.slots k) → n < a → AreOn a w disks → AreOn a v disks
on_behind n a w v [] same lt on = tt
on_behind n a w v (disk ∷ disks) same lt on =
    (subst (λ (s : Slot). IsOn s disk) (sym (same a (λ is. omega (arith, lt, is)))) on.0, on_behind n (a + 1) w v disks same (omega (arith, lt)) on.1)

told_kept : (k : ℕ) (events : List Event) (w : World) (told : Option Tape) → ((tape : Tape) → taped k events w tape ≡ tape) → told ≡ option_map (taped k events w) told
told_kept k events w None same = refl
told_kept k events w (Some tape) same = ap (λ (t : Tape). Some t) (sym (same tape))

taped_behind : (n a : ℕ) (events : List Event) (w : World) (disks : List DiskView) → ((k : ℕ) (tape : Tape) → (k ≡ n → ⊥) → taped k events w tape ≡ tape) → n < a → AreTaped a events w disks disks
taped_behind n a events w [] same lt = tt
taped_behind n a events w (disk ∷ disks) same lt =
    (told_kept a events w disk.told (λ tape. same a tape (λ is. omega (arith, lt, is))), taped_behind n (a + 1) events w disks same (omega (arith, lt)))

pub placed : (n count : ℕ) (w : World) (olds news : List DiskView) → RunEach olds news → AreOn n w olds → n + length olds ≤ count → Placed n count w olds news
placed n count w [] [] runs on fit = record { events = []; steps = tt; possible = tt; disks = tt; begun = refl; accepted = refl; answered = refl; before = λ k tape lt. refl }
placed n count w [] (new ∷ news) runs on fit = absurd runs
placed n count w (old ∷ olds) [] runs on fit = absurd runs
placed n count w (old ∷ olds) (new ∷ news) runs on fit =
    let c : Called count n (known_in w n) w on.0.tape new = called count n (known_in w n) w on.0.tape old new (omega (arith, fit)) on.0.now on.0.told (runs.0 (known_in w n)) in
    let mid : World = after_all c.events w in
    let rest = placed (n + 1) count mid olds news runs.1 (on_behind n (n + 1) w mid olds c.slots (omega arith) on.1) (omega (arith, fit)) in
    let both = after_both c.events rest.events w in
    let first : new.told ≡ option_map (taped n (c.events ++ rest.events) w) old.told =
    c.here ∙ ap (λ (t : Tape). Some t) (sym (taped_both n c.events rest.events w on.0.tape ∙ rest.before n (taped n c.events w on.0.tape) (omega arith))) ∙ ap (option_map (taped n (c.events ++ rest.events) w)) (sym on.0.told) in
    record {
      events = c.events ++ rest.events;
      steps = each_both (IsStepOf count) c.events rest.events c.steps rest.steps;
      possible = possible_both c.events rest.events w c.possible rest.possible;
      disks = (first, taped_then (n + 1) c.events rest.events w olds olds news (taped_behind n (n + 1) c.events w olds c.tapes (omega arith)) rest.disks);
      begun = ap (λ (x : World). x.begun) both ∙ rest.begun ∙ ap (λ (k : Known). k.begun) c.known;
      accepted = ap (λ (x : World). x.accepted) both ∙ rest.accepted ∙ ap (λ (k : Known). k.accepted) c.known;
      answered = ap (λ (x : World). x.answered) both ∙ rest.answered ∙ c.answered;
      before = λ k tape lt. taped_both k c.events rest.events w tape ∙ rest.before k (taped k c.events w tape) (omega (arith, lt)) ∙ c.tapes k tape (λ is. omega (arith, lt, is));
    }

-- ---- slots that are opened

pub opened_run : {D : Type 0} (n : ℕ) (disks : List DiskView) (slots : List (Opened D)) → AreSlotsOf D n disks slots → RunEach disks (map disk_of slots)
opened_run n [] [] h = tt
opened_run n [] (slot ∷ slots) h = absurd h
opened_run n (disk ∷ disks) [] h = absurd h
opened_run n (disk ∷ disks) (slot ∷ slots) h = (h.0.events, opened_run (n + 1) disks slots h.1)

pub same_run : (disks : List DiskView) → RunEach disks disks
same_run [] = tt
same_run (disk ∷ disks) = (λ k. runs_here k disk, same_run disks)

pub back_run : (D : Type 0) (n slot : ℕ) (why : SlotWhy) (olds news : List DiskView) → CameBack D n slot why olds news → RunEach olds news
back_run D n zero why [] news h = absurd h
back_run D n zero why (old ∷ olds) [] h = absurd h
back_run D n zero why (old ∷ olds) (new ∷ news) h =
    (subst (RunsOn old) (sym h.0.disk) h.0.events, subst (RunEach olds) (sym h.1) (same_run olds))
back_run D n (suc slot) why [] news h = absurd h
back_run D n (suc slot) why (old ∷ olds) [] h = absurd h
back_run D n (suc slot) why (old ∷ olds) (new ∷ news) h =
    (subst (RunsOn old) (sym h.0.disk) h.0.is.events, back_run D (n + 1) slot why olds news h.1)

pub opened_length : {D : Type 0} (n : ℕ) (disks : List DiskView) (slots : List (Opened D)) → AreSlotsOf D n disks slots → length slots ≡ length disks
opened_length n [] [] h = refl
opened_length n [] (slot ∷ slots) h = absurd h
opened_length n (disk ∷ disks) [] h = absurd h
opened_length n (disk ∷ disks) (slot ∷ slots) h = ap (λ (k : ℕ). suc k) (opened_length (n + 1) disks slots h.1)

pub disks_length : {D : Type 0} (slots : List (Opened D)) → length (map disk_of slots) ≡ length slots
disks_length [] = refl
disks_length (slot ∷ slots) = ap (λ (k : ℕ). suc k) (disks_length slots)

-- ---- the first tapes

abbrev told_or : Option Tape → Tape → Tape
told_or None other = other
told_or (Some tape) other = tape

abbrev tape_in : ℕ → List DiskView → Tape → Tape
tape_in k [] other = other
tape_in zero (disk ∷ disks) other = told_or disk.told other
tape_in (suc k) (disk ∷ disks) other = tape_in k disks other

-- the tapes of disks by their places; behind them those that begin where the spool's slots are
abbrev pub first_tapes : World → List DiskView → ℕ → Tape
first_tapes w disks k = tape_in k disks (record { now = (w.slots k).medium; past = [] })

fits_told : (s : Slot) (disk : DiskView) (other : Tape) → IsOn s disk → s.medium ≡ (told_or disk.told other).now
fits_told s disk other on = on.now ∙ ap (λ (o : Option Tape). (told_or o other).now) (sym on.told)

fits_in : (k a : ℕ) (w : World) (disks : List DiskView) (other : Tape) → AreOn a w disks → (w.slots (a + k)).medium ≡ other.now → (w.slots (a + k)).medium ≡ (tape_in k disks other).now
fits_in k a w [] other on e = e
fits_in zero a w (disk ∷ disks) other on e =
    let here : a + 0 ≡ a = omega arith in
    ap (λ (i : ℕ). (w.slots i).medium) here ∙ fits_told (w.slots a) disk other on.0
fits_in (suc k) a w (disk ∷ disks) other on e =
    let more : a + suc k ≡ a + 1 + k = omega arith in
    ap (λ (i : ℕ). (w.slots i).medium) more ∙ fits_in k (a + 1) w disks other on.1 (ap (λ (i : ℕ). (w.slots i).medium) (sym more) ∙ e)

pub fits_first : (w : World) (disks : List DiskView) → AreOn 0 w disks → Fits w (first_tapes w disks)
fits_first w disks on = λ k. (
    let here : 0 + k ≡ k = omega arith in
    ap (λ (i : ℕ). (w.slots i).medium) (sym here) ∙ fits_in k 0 w disks (record { now = (w.slots k).medium; past = [] }) on (ap (λ (i : ℕ). (w.slots i).medium) here)
    )

-- these disks tell these tapes, from a number on
abbrev pub ToldBy : (ℕ → Tape) → ℕ → List DiskView → Type 0
ToldBy tapes a [] = Unit {0}
ToldBy tapes a (disk ∷ disks) = (disk.told ≡ Some (tapes a)) × ToldBy tapes (a + 1) disks

told_in : (tapes other : ℕ → Tape) (a : ℕ) (w : World) (disks : List DiskView) → ((k : ℕ) → tapes (a + k) ≡ tape_in k disks (other (a + k))) → AreOn a w disks → ToldBy tapes a disks
told_in tapes other a w [] same on = tt
told_in tapes other a w (disk ∷ disks) same on =
    let here : a + 0 ≡ a = omega arith in
    let first : tapes a ≡ told_or disk.told (other (a + 0)) = ap tapes (sym here) ∙ same 0 in
    let is : told_or disk.told (other (a + 0)) ≡ on.0.tape = ap (λ (o : Option Tape). told_or o (other (a + 0))) on.0.told in (
      on.0.told ∙ ap (λ (t : Tape). Some t) (sym (first ∙ is)),
      told_in tapes other (a + 1) w disks (λ k. (
          let more : a + suc k ≡ a + 1 + k = omega arith in
          ap tapes (sym more) ∙ same (suc k) ∙ ap (λ (i : ℕ). tape_in k disks (other i)) more
          )) on.1,
    )

pub told_first : (w : World) (disks : List DiskView) → AreOn 0 w disks → ToldBy (first_tapes w disks) 0 disks
told_first w disks on =
    let other : ℕ → Tape = λ k. record { now = (w.slots k).medium; past = [] } in
    let same : (k : ℕ) → first_tapes w disks (0 + k) ≡ tape_in k disks (other (0 + k)) = λ k. (let here : 0 + k ≡ k = omega arith in ap (λ (i : ℕ). tape_in i disks (other (0 + k))) here) in
    told_in (first_tapes w disks) other 0 w disks same on

-- ---- the rack of slots that were opened

record Parts (tapes : ℕ → Tape) (q : Queues) : Type 0 where
  free : AllByRecursion (λ s. HasTape tapes (held_slot s)) q.free
  full : AllByRecursion (λ s. HasTape tapes (held_full s)) q.full
  aside : AllByRecursion (λ s. HasTape tapes (held_slot s)) q.aside
  broken : q.broken ≡ []
  read : AllByRecursion IsFullOn q.full

opened_parts : {D : Type 0} (tapes : ℕ → Tape) (n : ℕ) (disks : List DiskView) (slots : List (Opened D)) → AreSlotsOf D n disks slots → ToldBy tapes n (map disk_of slots) → Parts tapes (queues_of slots)
opened_parts tapes n disks [] h told = record { free = tt; full = tt; aside = tt; broken = refl; read = tt }
opened_parts tapes n [] (slot ∷ slots) h told = absurd h
opened_parts tapes n (disk ∷ disks) (Free slot ∷ slots) h told =
    let p = opened_parts tapes (n + 1) disks slots h.1 told.1 in
    record { free = (told.0 ∙ ap (λ (k : ℕ). Some (tapes k)) (sym h.0.onward.number_is), p.free); full = p.full; aside = p.aside; broken = p.broken; read = p.read }
opened_parts tapes n (disk ∷ disks) (Full slot ∷ slots) h told =
    let p = opened_parts tapes (n + 1) disks slots h.1 told.1 in
    record { free = p.free; full = (told.0 ∙ ap (λ (k : ℕ). Some (tapes k)) (sym h.0.onward.number_is), p.full); aside = p.aside; broken = p.broken; read = (h.0.read.0, p.read) }
opened_parts tapes n (disk ∷ disks) (Aside slot ∷ slots) h told =
    let p = opened_parts tapes (n + 1) disks slots h.1 told.1 in
    record { free = p.free; full = p.full; aside = (told.0 ∙ ap (λ (k : ℕ). Some (tapes k)) (sym h.0.onward.number_is), p.aside); broken = p.broken; read = p.read }

mapped : {X Y : Type 0} (P : Y → Type 0) (f : X → Y) (xs : List X) → AllByRecursion (λ x. P (f x)) xs → AllByRecursion P (map f xs)
mapped P f [] all = tt
mapped P f (x ∷ xs) all = (all.0, mapped P f xs all.1)

parts_all : (tapes : ℕ → Tape) (q : Queues) → Parts tapes q → AllByRecursion (HasTape tapes) (all_of q)
parts_all tapes q p =
    let P : HeldView → Type 0 = HasTape tapes in
    let two = each_both P (map held_slot q.free) (map held_full q.full) (mapped P held_slot q.free p.free) (mapped P held_full q.full p.full) in
    let three = each_both P (map held_slot q.free ++ map held_full q.full) (map held_slot q.aside) two (mapped P held_slot q.aside p.aside) in
    let none : AllByRecursion P (map held_broken q.broken) = subst (λ (l : List BrokenView). AllByRecursion P (map held_broken l)) (sym p.broken) tt in
    each_both P (map held_slot q.free ++ map held_full q.full ++ map held_slot q.aside) (map held_broken q.broken) three none

pub opened_rack : {D : Type 0} (tapes : ℕ → Tape) (disks : List DiskView) (slots : List (Opened D)) → AreSlotsOf D 0 disks slots → ToldBy tapes 0 (map disk_of slots) → IsRack (length disks) tapes (queues_of slots)
opened_rack tapes disks slots h told =
    let p = opened_parts tapes 0 disks slots h told in
    record {
      told = parts_all tapes (queues_of slots) p;
      numbers = λ k. opened_counts k 0 disks slots h ∙ ap (count_from k 0) (opened_length 0 disks slots h);
      full = p.read;
    }

pub broken_none : {D : Type 0} (slots : List (Opened D)) → (queues_of slots).broken ≡ []
broken_none [] = refl
broken_none (Free slot ∷ slots) = broken_none slots
broken_none (Full slot ∷ slots) = broken_none slots
broken_none (Aside slot ∷ slots) = broken_none slots

-- ---- the disks of a rack that is closed

closed_taped : (tapes : ℕ → Tape) (a : ℕ) (events : List Event) (w : World) (disks : List DiskView) (slots : List HeldView) → IsNonDecreasingBy (λ (s : HeldView). s.number) slots → ((k : ℕ) → held_count k slots ≡ count_from k a (length disks))
    → AllByRecursion (HasTape (taped_all events w tapes)) slots → ToldBy tapes a disks → AreTaped a events w disks (map (λ (s : HeldView). s.disk) slots)
closed_taped tapes a events w [] [] rise counts all told = tt
closed_taped tapes a events w [] (slot ∷ slots) rise counts all told =
    let none = counts slot.number in
    let here = one_here slot.number in
    let both = sum_by-cons (λ (h : HeldView). one_at slot.number h.number) slot slots in
    absurd (omega (arith, none, here, both))
closed_taped tapes a events w (disk ∷ disks) [] rise counts all told =
    let some = counts a in
    let here = one_here a in
    absurd (omega (arith, some, here))
closed_taped tapes a events w (disk ∷ disks) (slot ∷ slots) rise counts all told =
    let first : slot.number ≡ a = first_by slot slots a (length disks) rise counts (cases_order slot.number a) in
    let less : (k : ℕ) → held_count k slots ≡ count_from k (a + 1) (length disks) = λ k. (
    let these = counts k in
    let both = sum_by-cons (λ (h : HeldView). one_at k h.number) slot slots in
    let same : one_at k slot.number ≡ one_at k a = ap (one_at k) first in
    omega (arith, these, both, same)
    ) in
    let is : slot.disk.told ≡ option_map (taped a events w) disk.told =
    all.0 ∙ ap (λ (k : ℕ). Some (taped k events w (tapes k))) first ∙ ap (option_map (taped a events w)) (sym told.0) in
    (is, closed_taped tapes (a + 1) events w disks slots (rest_rises slot slots rise) less all.1 told.1)

pub closed_rack : (tapes : ℕ → Tape) (events : List Event) (w : World) (disks back : List DiskView) (q : Queues) → IsRack (length disks) (taped_all events w tapes) q → ToldBy tapes 0 disks → AreInOrder q back → AreTaped 0 events w disks back
closed_rack tapes events w disks back q rack told order =
    let counts : (k : ℕ) → held_count k order.slots ≡ count_from k 0 (length disks) = λ k. sum_by-IsPermutation (λ (h : HeldView). one_at k h.number) (all_of q) order.slots order.same ∙ rack.numbers k in
    let all = recursion_from_All (HasTape (taped_all events w tapes)) order.slots (All-permutation (HasTape (taped_all events w tapes)) (all_of q) order.slots order.same (All-from_recursion (HasTape (taped_all events w tapes)) (all_of q) rack.told)) in
    subst (AreTaped 0 events w disks) (sym order.are) (closed_taped tapes 0 events w disks order.slots order.rise counts all told)
