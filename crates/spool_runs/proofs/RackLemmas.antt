-- What is done to a slot of a rack, as events of the spool, and what that leaves of the rack.
use Rattle.std.proofs.Common.{arith, ◌≡◌, refl, sym, ap, subst, ◌∙◌, ℕ, ◌+◌, ◌<◌, ◌≤◌, ◌⊎◌, inl, inr, Bool, true, false, nat_eq, List, [], ◌∷◌, ◌++◌, length, map, take, drop, append_assoc, append-nil, Option, Some, None}
use Rattle.std.specs.Prelude.{IfSome, option_map, if◌then◌else◌}
use Rattle.std.specs.List.{AllByRecursion, Contains, sum_by}
use Rattle.std.specs.List.Sorted.{IsPermutation}
use Rattle.std.proofs.lemmas.List.{map-append}
use Rattle.std.proofs.lemmas.List.Elements.{All-from_recursion, Contains-append_left, Contains-append_right, recursion_from_All}
use Rattle.std.proofs.lemmas.List.Sorted.{All-permutation, IsPermutation-append_left, IsPermutation-middle, IsPermutation-refl, IsPermutation-sym, IsPermutation-to_front, sum_by-IsPermutation}
use Rattle.std.proofs.lemmas.List.Sums.{sum_by-cons}
use Rattle.fw_disk.specs.DiskView.{DiskView, Tape}
use Rattle.fw_disk.specs.Medium.{Medium, IsImage, settled}
use Rattle.fw_disk.specs.Moments.{EachImage, Now}
use Rattle.fw_disk.proofs.MediumLemmas.{settled_only}
use Rattle.slot_bytes.specs.Layout.{Mail}
use Rattle.slot_bytes.specs.Reading.{reads}
use Rattle.slot_bytes.specs.Reading.Reading.{Whole}
use Rattle.spool_law.specs.Events.{ArePossible, CanAnswer, Event, Step, after, after_all}
use Rattle.spool_law.specs.Events.Event.{At}
use Rattle.spool_law.specs.Events.Step.{Answer}
use Rattle.spool_law.specs.Images.{IsKept}
use Rattle.spool_law.specs.Runs.{Does, IsRun, IsToldRun, Known, Runs, known_in, slot_of, tape_after, tape_on, taped}
use Rattle.spool_law.specs.World.{Letter, OfLetter, Use, World, letters}
use Rattle.spool_law.specs.World.Use.{Opened}
use Rattle.spool_law.proofs.EventLemmas.{are_events}
use Rattle.spool_rack.specs.Opening.{HeldView, all_of, held_broken, held_full, held_slot}
use Rattle.spool_rack.specs.Store.{Queues, with_aside, with_broken, with_free, with_full, without_free, without_full}
use Rattle.spool_slots.specs.Media.{IsFull, IsSettled}
use Rattle.spool_slots.specs.States.{BrokenView, FullView, SlotView}
use Rattle.spool_runs.specs.OnDisks.{AreAccepted, AreAnswered, AreNumbered, IsStepOf}
use Rattle.spool_runs.proofs.AnswerLemmas.{answered_none, does_unanswered, unanswered}
use Rattle.spool_runs.proofs.NumberLemmas.{count_below, count_from, count_in, count_once, held_count, one_at, one_here, weaker}
use Rattle.spool_runs.proofs.TapeLemmas.{after_both, each_both, medium_along, possible_both, taped_both}

-- ---- a call

told_at : (P : Medium → Type 0) (view : DiskView) (tape : Tape) → view.told ≡ Some tape → Now P view → P tape.now
told_at P view tape is h = subst (λ (o : Option Tape). IfSome o (λ (t : Tape). P t.now)) is h

pub now_told : (P : Medium → Type 0) (view : DiskView) (tape : Tape) → view.told ≡ Some tape → Now P view → P tape.now
now_told P view tape is h = told_at P view tape is h

-- a disk that told its tape tells one again, to which steps led
record ToldOn (k : Known) (old : Tape) (l : Known) (new : Option Tape) : Type 0 where
  tape : Tape
  is : new ≡ Some tape
  run : IsRun k old l tape

told_on : (k l : Known) (old : Tape) (o n : Option Tape) → o ≡ Some old → IsToldRun k o l n → ToldOn k old l n
told_on k l old None n is run = absurd (cc)
told_on k l old (Some t) None is run = absurd run
told_on k l old (Some t) (Some u) is run =
    let same : t ≡ old = cc in
    record { tape = u; is = refl; run = subst (λ (x : Tape). IsRun k x l u) same run }

steps_of : (count n : ℕ) (steps : List Step) → n < count → AllByRecursion (IsStepOf count) (map (At n) steps)
steps_of count n [] lt = tt
steps_of count n (step ∷ steps) lt = (lt, steps_of count n steps lt)

-- what was done to the disk of a slot, whose tape this was, are events of the spool, by which nothing was answered for
pub record Called (count n : ℕ) (l : Known) (w : World) (old : Tape) (new : DiskView) : Type 0 where
  pub events : List Event
  pub steps : AllByRecursion (IsStepOf count) events
  pub possible : ArePossible events w
  pub known : known_in (after_all events w) n ≡ l
  pub answered : (after_all events w).answered ≡ w.answered
  pub here : new.told ≡ Some (taped n events w old)
  pub slots : (k : ℕ) → (k ≡ n → ⊥) → (after_all events w).slots k ≡ w.slots k
  pub tapes : (k : ℕ) (tape : Tape) → (k ≡ n → ⊥) → taped k events w tape ≡ tape

pub called : (count n : ℕ) (l : Known) (w : World) (tape : Tape) (old new : DiskView) → n < count → (w.slots n).medium ≡ tape.now → old.told ≡ Some tape → Runs (known_in w n) old l new → Called count n l w tape new
called count n l w tape old new lt fits told runs =
    let on = told_on (known_in w n) l tape old.told new.told told runs in
    let steps : List Step = unanswered on.run.steps in
    let are = are_events steps w n tape on.tape l fits (does_unanswered on.run.steps (known_in w n) tape l on.tape on.run.does) in
    record {
      events = map (At n) steps;
      steps = steps_of count n steps lt;
      possible = are.possible;
      known = are.known;
      answered = answered_none n on.run.steps w;
      here = on.is ∙ ap (λ (t : Tape). Some t) (sym are.tape);
      slots = are.others;
      tapes = are.other_tapes;
    }

-- ---- a rack

-- the tapes of the slots, by their numbers, are where the spool's slots are
abbrev pub Fits : World → (ℕ → Tape) → Type 0
Fits w tapes = (k : ℕ) → (w.slots k).medium ≡ (tapes k).now

abbrev pub HasTape : (ℕ → Tape) → HeldView → Type 0
HasTape tapes slot = slot.disk.told ≡ Some (tapes slot.number)

abbrev pub IsFullOn : FullView → Type 0
IsFullOn slot = Now IsFull slot.disk

-- The slots in the queues are those of so many disks, each with its tape; and each full one has a message.
pub record IsRack (count : ℕ) (tapes : ℕ → Tape) (q : Queues) : Type 0 where
  pub told : AllByRecursion (HasTape tapes) (all_of q)
  pub numbers : (k : ℕ) → count_in k q ≡ count_from k 0 count
  pub full : AllByRecursion IsFullOn q.full

abbrev pub taped_all : List Event → World → (ℕ → Tape) → ℕ → Tape
taped_all events w tapes k = taped k events w (tapes k)

pub rack_same : (count : ℕ) (a b : ℕ → Tape) (q : Queues) → ((k : ℕ) → b k ≡ a k) → IsRack count a q → IsRack count b q
rack_same count a b q same r = record {
  told = weaker (HasTape a) (HasTape b) (λ slot told. told ∙ ap (λ (t : Tape). Some t) (sym (same slot.number))) (all_of q) r.told;
  numbers = r.numbers;
  full = r.full;
}

pub fits_after : (count : ℕ) (events : List Event) (w : World) (tapes : ℕ → Tape) → AllByRecursion (IsStepOf count) events → Fits w tapes → Fits (after_all events w) (taped_all events w tapes)
fits_after count events w tapes steps fits = λ k. medium_along k count events w (tapes k) steps (fits k)

-- ---- one slot is taken, and put back

all_permuted : (P : HeldView → Type 0) (xs ys : List HeldView) → IsPermutation xs ys → AllByRecursion P xs → AllByRecursion P ys
all_permuted P xs ys same all = recursion_from_All P ys (All-permutation P xs ys same (All-from_recursion P xs all))

count_permuted : (k : ℕ) (xs ys : List HeldView) → IsPermutation xs ys → held_count k ys ≡ held_count k xs
count_permuted k xs ys same = sum_by-IsPermutation (λ (h : HeldView). one_at k h.number) xs ys same

-- one slot stands in the place of another, with the same number
pub record IsMoved (old new : HeldView) (q r : Queues) : Type 0 where
  pub others : List HeldView
  pub before : IsPermutation (all_of q) (old ∷ others)
  pub after : IsPermutation (all_of r) (new ∷ others)
  pub number : new.number ≡ old.number

apart : (n : ℕ) (slots : List HeldView) → held_count n slots ≡ 0 → AllByRecursion (λ slot. slot.number ≡ n → ⊥) slots
apart n [] none = tt
apart n (slot ∷ slots) none =
    let both = sum_by-cons (λ (h : HeldView). one_at n h.number) slot slots in
    let here = one_here n in (
      λ is. (let one : one_at n slot.number ≡ one_at n n = ap (one_at n) is in omega (arith, none, both, one, here)),
      apart n slots (omega (arith, none, both)),
    )

others_told : (a b : ℕ → Tape) (n : ℕ) (slots : List HeldView) → ((k : ℕ) → (k ≡ n → ⊥) → b k ≡ a k) → AllByRecursion (λ slot. slot.number ≡ n → ⊥) slots → AllByRecursion (HasTape a) slots → AllByRecursion (HasTape b) slots
others_told a b n [] same away told = tt
others_told a b n (slot ∷ slots) same away told =
    (told.0 ∙ ap (λ (t : Tape). Some t) (sym (same slot.number away.0)), others_told a b n slots same away.1 told.1)

module _ (count : ℕ) (a b : ℕ → Tape) (old new : HeldView) (q r : Queues) (moved : IsMoved old new q r) (rack : IsRack count a q) where
  counted : (k : ℕ) → held_count k (old ∷ moved.others) ≡ count_from k 0 count
  counted k = count_permuted k (all_of q) (old ∷ moved.others) moved.before ∙ rack.numbers k

  split_count : (k : ℕ) (slot : HeldView) → held_count k (slot ∷ moved.others) ≡ one_at k slot.number + held_count k moved.others
  split_count k slot = sum_by-cons (λ (h : HeldView). one_at k h.number) slot moved.others

  pub moved_below : old.number < count
  moved_below =
      let all = counted old.number in
      let here = one_here old.number in
      let both = split_count old.number old in
      let low = count_below old.number 0 count (omega (arith, all, here, both)) in
      omega (arith, low)

  alone : held_count old.number moved.others ≡ 0
  alone =
      let all = counted old.number in
      let here = one_here old.number in
      let both = split_count old.number old in
      let once = count_once old.number 0 count in
      omega (arith, all, here, both, once)

  was_told : AllByRecursion (HasTape a) (old ∷ moved.others)
  was_told = all_permuted (HasTape a) (all_of q) (old ∷ moved.others) moved.before rack.told

  pub moved_told : HasTape a old
  moved_told = was_told.0

  pub moved_rack : ((k : ℕ) → (k ≡ old.number → ⊥) → b k ≡ a k) → HasTape b new → AllByRecursion IsFullOn r.full → IsRack count b r
  moved_rack same here full = record {
    told = all_permuted (HasTape b) (new ∷ moved.others) (all_of r) (IsPermutation-sym (all_of r) (new ∷ moved.others) moved.after)
        (here, others_told a b old.number moved.others same (apart old.number moved.others alone) was_told.1);
    numbers = λ k. (
        let all = counted k in
        let first = split_count k old in
        let last = split_count k new in
        let same_number : one_at k new.number ≡ one_at k old.number = ap (one_at k) moved.number in
        let back : held_count k (new ∷ moved.others) ≡ count_in k r = count_permuted k (all_of r) (new ∷ moved.others) moved.after in
        omega (arith, all, first, last, same_number, back)
        );
    full = full;
  }

-- as many slots have each number
pub moved_count : (k : ℕ) (old new : HeldView) (q r : Queues) → IsMoved old new q r → count_in k r ≡ count_in k q
moved_count k old new q r moved =
    let before : held_count k (old ∷ moved.others) ≡ count_in k q = count_permuted k (all_of q) (old ∷ moved.others) moved.before in
    let last : held_count k (new ∷ moved.others) ≡ count_in k r = count_permuted k (all_of r) (new ∷ moved.others) moved.after in
    let first = sum_by-cons (λ (h : HeldView). one_at k h.number) old moved.others in
    let second = sum_by-cons (λ (h : HeldView). one_at k h.number) new moved.others in
    let same : one_at k new.number ≡ one_at k old.number = ap (one_at k) moved.number in
    omega (arith, before, last, first, second, same)

-- ---- the queues

front_of : {X : Type 0} (x : X) (xs : List X) → take 1 xs ≡ x ∷ [] → xs ≡ x ∷ drop 1 xs
front_of x [] is = absurd (cc)
front_of x (y ∷ xs) is = let same : y ≡ x = cc in ap (λ z. z ∷ xs) same

module _ (q : Queues) where
  free_part : List HeldView
  free_part = map held_slot q.free

  full_part : List HeldView
  full_part = map held_full q.full

  aside_part : List HeldView
  aside_part = map held_slot q.aside

  broken_part : List HeldView
  broken_part = map held_broken q.broken

  -- behind the first two, and behind the first three
  behind_two : (xs ys : List HeldView) → IsPermutation xs ys → IsPermutation (xs ++ map held_slot q.aside ++ map held_broken q.broken) (ys ++ map held_slot q.aside ++ map held_broken q.broken)
  behind_two xs ys same = IsPermutation-append_left (map held_broken q.broken) (xs ++ map held_slot q.aside) (ys ++ map held_slot q.aside) (IsPermutation-append_left (map held_slot q.aside) xs ys same)

  pub takes_free : (slot : SlotView) → take 1 q.free ≡ slot ∷ [] → IsPermutation (all_of q) (held_slot slot ∷ all_of (without_free q))
  takes_free slot front =
      subst (λ (l : List SlotView). IsPermutation (map held_slot l ++ map held_full q.full ++ map held_slot q.aside ++ map held_broken q.broken) (held_slot slot ∷ all_of (without_free q))) (sym (front_of slot q.free front))
      (IsPermutation-refl (held_slot slot ∷ all_of (without_free q)))

  pub takes_full : (slot : FullView) → take 1 q.full ≡ slot ∷ [] → IsPermutation (all_of q) (held_full slot ∷ all_of (without_full q))
  takes_full slot front =
      subst (λ (l : List FullView). IsPermutation (map held_slot q.free ++ map held_full l ++ map held_slot q.aside ++ map held_broken q.broken) (held_full slot ∷ all_of (without_full q))) (sym (front_of slot q.full front))
      (behind_two (map held_slot q.free ++ held_full slot ∷ map held_full (drop 1 q.full)) (held_full slot ∷ (map held_slot q.free ++ map held_full (drop 1 q.full)))
      (IsPermutation-middle (map held_slot q.free) (held_full slot) (map held_full (drop 1 q.full))))

  pub puts_free : (slot : SlotView) → IsPermutation (all_of (with_free slot q)) (held_slot slot ∷ all_of q)
  puts_free slot =
      subst (λ (l : List HeldView). IsPermutation (l ++ map held_full q.full ++ map held_slot q.aside ++ map held_broken q.broken) (held_slot slot ∷ all_of q)) (sym (map-append held_slot q.free (slot ∷ [])))
      (behind_two ((map held_slot q.free ++ held_slot slot ∷ []) ++ map held_full q.full) (held_slot slot ∷ (map held_slot q.free ++ map held_full q.full))
      (IsPermutation-append_left (map held_full q.full) (map held_slot q.free ++ held_slot slot ∷ []) (held_slot slot ∷ map held_slot q.free) (IsPermutation-to_front (map held_slot q.free) (held_slot slot))))

  to_front_of : (xs ys : List HeldView) (x : HeldView) → IsPermutation (xs ++ (ys ++ x ∷ [])) (x ∷ (xs ++ ys))
  to_front_of xs ys x = subst (λ (l : List HeldView). IsPermutation l (x ∷ (xs ++ ys))) (append_assoc xs ys (x ∷ [])) (IsPermutation-to_front (xs ++ ys) x)

  pub puts_full : (slot : FullView) → IsPermutation (all_of (with_full slot q)) (held_full slot ∷ all_of q)
  puts_full slot =
      subst (λ (l : List HeldView). IsPermutation (map held_slot q.free ++ l ++ map held_slot q.aside ++ map held_broken q.broken) (held_full slot ∷ all_of q)) (sym (map-append held_full q.full (slot ∷ [])))
      (behind_two (map held_slot q.free ++ (map held_full q.full ++ held_full slot ∷ [])) (held_full slot ∷ (map held_slot q.free ++ map held_full q.full)) (to_front_of (map held_slot q.free) (map held_full q.full) (held_full slot)))

  pub puts_aside : (slot : SlotView) → IsPermutation (all_of (with_aside slot q)) (held_slot slot ∷ all_of q)
  puts_aside slot =
      subst (λ (l : List HeldView). IsPermutation (map held_slot q.free ++ map held_full q.full ++ l ++ map held_broken q.broken) (held_slot slot ∷ all_of q)) (sym (map-append held_slot q.aside (slot ∷ [])))
      (IsPermutation-append_left (map held_broken q.broken) ((map held_slot q.free ++ map held_full q.full) ++ (map held_slot q.aside ++ held_slot slot ∷ [])) (held_slot slot ∷ ((map held_slot q.free ++ map held_full q.full) ++ map held_slot q.aside))
      (to_front_of (map held_slot q.free ++ map held_full q.full) (map held_slot q.aside) (held_slot slot)))

  pub puts_broken : (slot : BrokenView) → IsPermutation (all_of (with_broken slot q)) (held_broken slot ∷ all_of q)
  puts_broken slot =
      subst (λ (l : List HeldView). IsPermutation (map held_slot q.free ++ map held_full q.full ++ map held_slot q.aside ++ l) (held_broken slot ∷ all_of q)) (sym (map-append held_broken q.broken (slot ∷ [])))
      (to_front_of (map held_slot q.free ++ map held_full q.full ++ map held_slot q.aside) (map held_broken q.broken) (held_broken slot))
