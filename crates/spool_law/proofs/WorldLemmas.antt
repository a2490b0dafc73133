-- What holds of a spool at any time, and that each event keeps it.
use Rattle.std.proofs.Common.{◌≡◌, ℕ, zero, suc, ◌+◌, ◌<◌, Bool, true, false, cond, nat_eq, lit≤, lit<, List, [], ◌∷◌, ◌++◌, refl, sym, ap, subst, ◌∙◌, arith, ◌⊎◌, inl, inr}
use Rattle.std.specs.List.{Contains}
use Rattle.std.proofs.lemmas.Bool.Decides.{nat_tests}
use Rattle.std.proofs.lemmas.List.Elements.{Contains-append_left, Contains-append_cases}
use Rattle.fw_disk.specs.Medium.{Medium, IsImage, settled}
use Rattle.fw_disk.specs.Laws.{AreBytes}
use Rattle.fw_disk.specs.Moments.{EachImage}
use Rattle.fw_disk.proofs.MediumLemmas.{settled_image, settled_only}
use Rattle.slot_bytes.proofs.SlotLemmas.{reads_free}
use Rattle.spool_law.specs.World.{Letter, Use, Slot, World, letters, OfLetter, formatted}
use Rattle.spool_law.specs.World.Use.{Unused, Begun, CutOff, Opened}
use Rattle.spool_law.specs.Images.{IsFree, IsKept, IsOneOf}
use Rattle.spool_law.specs.Events.{Step, Event, IsPossibleAt, IsPossible, ArePossible, stepped, begins, finishes, answers, accepts, added, opened, cut_off, put, after, after_all}
use Rattle.spool_law.specs.Events.Step.{Start, Add, Write, Sync, OpenGate, Answer, Accept, CloseGate, SetAside}
use Rattle.spool_law.specs.Events.Event.{At, Crash}
use Rattle.spool_law.specs.Safe.{Stands, IsSafe}
use Rattle.spool_law.proofs.ReadLemmas.{behind_reads}
use Rattle.spool_law.proofs.SlotLemmas.{IsAs, IsGood, IsUnopened, NoneAccepted, StandsIn, no_letter, only_letter, good_more, good_crashed, good_step, whole_opened, stands_step, stands_crashed, answered_now}

-- ---- one slot put in its place

pub either : (b : Bool) → (b ≡ true) ⊎ (b ≡ false)
either true = inl refl
either false = inr refl

same_or : (k n : ℕ) → ((nat_eq k n ≡ true) × (k ≡ n)) ⊎ (nat_eq k n ≡ false)
same_or k n =
    elim (either (nat_eq k n)) [
      | inl e ↦ let is : k ≡ n = grind (arith, nat_tests) in inl (e, is)
      | inr e ↦ inr e
    ]

pub here_is : (k n : ℕ) (s : Slot) (slots : ℕ → Slot) → nat_eq k n ≡ true → put n s slots k ≡ s
here_is k n s slots e = ap (λ (b : Bool). cond b s (slots k)) e

pub away_is : (k n : ℕ) (s : Slot) (slots : ℕ → Slot) → nat_eq k n ≡ false → put n s slots k ≡ slots k
away_is k n s slots e = ap (λ (b : Bool). cond b s (slots k)) e

pub itself : (n : ℕ) → nat_eq n n ≡ true
itself n = grind (arith, nat_tests)

put_each : (P : Slot → Type 0) (n : ℕ) (s : Slot) (slots : ℕ → Slot) → ((k : ℕ) → P (slots k)) → P s → (k : ℕ) → P (put n s slots k)
put_each P n s slots each new k =
    elim (same_or k n) [
      | inl p ↦ subst P (sym (here_is k n s slots p.0)) new
      | inr e ↦ subst P (sym (away_is k n s slots e)) (each k)
    ]

-- ---- numbers

abbrev HasNumber : ℕ → Use → Type 0
HasNumber k u = OfLetter (λ l. l.number ≡ k) u

unopened_number : (k : ℕ) (u : Use) → IsUnopened k u → HasNumber k u
unopened_number k Unused h = h
unopened_number k (Begun l) h = h
unopened_number k (CutOff l) h = h
unopened_number k (Opened l) h = absurd h

added_number : (k : ℕ) (piece : List ℕ) (u : Use) → HasNumber k (added piece u) → HasNumber k u
added_number k piece Unused h = h
added_number k piece (Begun l) h = h
added_number k piece (CutOff l) h = h
added_number k piece (Opened l) h = h

opened_number : (k : ℕ) (u : Use) → HasNumber k (opened u) → HasNumber k u
opened_number k Unused h = h
opened_number k (Begun l) h = h
opened_number k (CutOff l) h = h
opened_number k (Opened l) h = h

cut_number : (k : ℕ) (u : Use) → HasNumber k (cut_off u) → HasNumber k u
cut_number k Unused h = h
cut_number k (Begun l) h = h
cut_number k (CutOff l) h = h
cut_number k (Opened l) h = h

added_unopened : (k : ℕ) (piece : List ℕ) (u : Use) → IsUnopened k (added piece u) → IsUnopened k u
added_unopened k piece Unused h = h
added_unopened k piece (Begun l) h = h
added_unopened k piece (CutOff l) h = h
added_unopened k piece (Opened l) h = h

opened_unopened : (k : ℕ) (u : Use) → IsUnopened k (opened u) → IsUnopened k u
opened_unopened k Unused h = h
opened_unopened k (Begun l) h = absurd h
opened_unopened k (CutOff l) h = absurd h
opened_unopened k (Opened l) h = h

cut_unopened : (k : ℕ) (u : Use) → IsUnopened k (cut_off u) → IsUnopened k u
cut_unopened k Unused h = h
cut_unopened k (Begun l) h = h
cut_unopened k (CutOff l) h = h
cut_unopened k (Opened l) h = h

-- a message was begun with this number
abbrev IsNew : Step → ℕ → ℕ → Type 0
IsNew step number k = (begins step ≡ 1) × (number ≡ k)

number_step : (number k : ℕ) (step : Step) (s : Slot) → HasNumber k (stepped number step s).use_of → IsNew step number k ⊎ HasNumber k s.use_of
number_step number k (Start from rcpts) s h = inl (refl, h)
number_step number k (Add piece) s h = inr (added_number k piece s.use_of h)
number_step number k (Write at bytes o) s h = inr h
number_step number k Sync s h = inr h
number_step number k (OpenGate o) s h = inr (opened_number k s.use_of h)
number_step number k Answer s h = inr h
number_step number k Accept s h = inr h
number_step number k (CloseGate o) s h = inr h
number_step number k (SetAside o) s h = inr h

unopened_step : (number k : ℕ) (step : Step) (s : Slot) → IsUnopened k (stepped number step s).use_of → IsNew step number k ⊎ IsUnopened k s.use_of
unopened_step number k (Start from rcpts) s h = inl (refl, h)
unopened_step number k (Add piece) s h = inr (added_unopened k piece s.use_of h)
unopened_step number k (Write at bytes o) s h = inr h
unopened_step number k Sync s h = inr h
unopened_step number k (OpenGate o) s h = inr (opened_unopened k s.use_of h)
unopened_step number k Answer s h = inr h
unopened_step number k Accept s h = inr h
unopened_step number k (CloseGate o) s h = inr h
unopened_step number k (SetAside o) s h = inr h

-- after a step a slot has a number that it had, or it is the step's slot and the number is new
put_number : (w : World) (n : ℕ) (step : Step) (i k : ℕ) → HasNumber k ((after (At n step) w).slots i).use_of → ((i ≡ n) × IsNew step w.begun k) ⊎ HasNumber k (w.slots i).use_of
put_number w n step i k h =
    let new : Slot = stepped w.begun step (w.slots n) in
    elim (same_or i n) [
      | inl p ↦
          let here : HasNumber k new.use_of = subst (λ (s : Slot). HasNumber k s.use_of) (here_is i n new w.slots p.0) h in
          elim (number_step w.begun k step (w.slots n) here) [
            | inl is ↦ inl (p.1, is)
            | inr old ↦ inr (subst (λ (j : ℕ). HasNumber k (w.slots j).use_of) (sym p.1) old)
          ]
      | inr e ↦ inr (subst (λ (s : Slot). HasNumber k s.use_of) (away_is i n new w.slots e) h)
    ]

put_unopened : (w : World) (n : ℕ) (step : Step) (i k : ℕ) → IsUnopened k ((after (At n step) w).slots i).use_of → ((i ≡ n) × IsNew step w.begun k) ⊎ IsUnopened k (w.slots i).use_of
put_unopened w n step i k h =
    let new : Slot = stepped w.begun step (w.slots n) in
    elim (same_or i n) [
      | inl p ↦
          let here : IsUnopened k new.use_of = subst (λ (s : Slot). IsUnopened k s.use_of) (here_is i n new w.slots p.0) h in
          elim (unopened_step w.begun k step (w.slots n) here) [
            | inl is ↦ inl (p.1, is)
            | inr old ↦ inr (subst (λ (j : ℕ). IsUnopened k (w.slots j).use_of) (sym p.1) old)
          ]
      | inr e ↦ inr (subst (λ (s : Slot). IsUnopened k s.use_of) (away_is i n new w.slots e) h)
    ]

-- ---- what holds at any time

pub record IsSound (w : World) : Type 0 where
  pub good : (n : ℕ) → IsGood w.finished (w.slots n)
  pub apart : (i j k : ℕ) → HasNumber k (w.slots i).use_of → HasNumber k (w.slots j).use_of → i ≡ j
  pub below : (n k : ℕ) → HasNumber k (w.slots n).use_of → k < w.begun
  pub past : (a : Letter) → Contains w.accepted a → a.number < w.begun
  pub finished : (a : Letter) → Contains w.accepted a → Contains w.finished a
  pub none : (n : ℕ) → NoneAccepted w.accepted (w.slots n).use_of
  pub answered : (l : Letter) → Contains w.answered l → Contains w.accepted l ⊎ Stands l w

-- ---- after a step

apart_after : (w : World) (n : ℕ) (step : Step) → IsSound w → (i j k : ℕ) → HasNumber k ((after (At n step) w).slots i).use_of → HasNumber k ((after (At n step) w).slots j).use_of → i ≡ j
apart_after w n step s i j k p q =
    elim (put_number w n step i k p) [
      | inl a ↦ elim (put_number w n step j k q) [
        | inl b ↦ a.0 ∙ sym b.0
        | inr old ↦ let lt = s.below j k old in let is : w.begun ≡ k = a.1.1 in absurd (omega (arith, lt, is))
      ]
      | inr old ↦ elim (put_number w n step j k q) [
        | inl b ↦ let lt = s.below i k old in let is : w.begun ≡ k = b.1.1 in absurd (omega (arith, lt, is))
        | inr too ↦ s.apart i j k old too
      ]
    ]

below_after : (w : World) (n : ℕ) (step : Step) → IsSound w → (i k : ℕ) → HasNumber k ((after (At n step) w).slots i).use_of → k < w.begun + begins step
below_after w n step s i k p =
    elim (put_number w n step i k p) [
      | inl a ↦ let one : begins step ≡ 1 = a.1.0 in let is : w.begun ≡ k = a.1.1 in omega (arith, one, is)
      | inr old ↦ let lt : k < w.begun = s.below i k old in omega (arith, lt)
    ]

letter_number : (u : Use) (a : Letter) → Contains (letters u) a → HasNumber a.number u
letter_number Unused a h = absurd (no_letter a h)
letter_number (Begun l) a h = ap (λ (x : Letter). x.number) (only_letter l a h)
letter_number (CutOff l) a h = ap (λ (x : Letter). x.number) (only_letter l a h)
letter_number (Opened l) a h = ap (λ (x : Letter). x.number) (only_letter l a h)

letter_opened : (u : Use) (l a : Letter) → u ≡ Opened l → Contains (letters u) a → u ≡ Opened a
letter_opened u l a e h = e ∙ ap Opened (only_letter l a (subst (λ (v : Use). Contains (letters v) a) e h))

-- what a step accepts is the slot's message, whose gate was opened
accepts_opened : (finished accepted : List Letter) (step : Step) (s : Slot) (a : Letter) → IsGood finished s → IsPossibleAt step accepted s → Contains (accepts step s.use_of) a → s.use_of ≡ Opened a
accepts_opened finished accepted (Start from rcpts) s a g can h = absurd (no_letter a h)
accepts_opened finished accepted (Add piece) s a g can h = absurd (no_letter a h)
accepts_opened finished accepted (Write at bytes o) s a g can h = absurd (no_letter a h)
accepts_opened finished accepted Sync s a g can h = absurd (no_letter a h)
accepts_opened finished accepted (OpenGate o) s a g can h = absurd (no_letter a h)
accepts_opened finished accepted Answer s a g can h = absurd (no_letter a h)
accepts_opened finished accepted Accept s a g can h = let of = whole_opened finished s g can in letter_opened s.use_of of.0 a of.1 h
accepts_opened finished accepted (CloseGate o) s a g can h = absurd (no_letter a h)
accepts_opened finished accepted (SetAside o) s a g can h = absurd (no_letter a h)

opened_has : (u : Use) (a : Letter) → u ≡ Opened a → HasNumber a.number u
opened_has u a e = subst (HasNumber a.number) (sym e) refl

accepted_below : (w : World) (n : ℕ) (step : Step) → IsSound w → IsPossibleAt step w.accepted (w.slots n) → (a : Letter) → Contains (w.accepted ++ accepts step (w.slots n).use_of) a → a.number < w.begun
accepted_below w n step s can a h =
    elim (Contains-append_cases w.accepted (accepts step (w.slots n).use_of) a h) [
      | inl old ↦ s.past a old
      | inr new ↦ s.below n a.number (opened_has (w.slots n).use_of a (accepts_opened w.finished w.accepted step (w.slots n) a (s.good n) can new))
    ]

-- ---- what is accepted was finished

finished_after : (w : World) (n : ℕ) (step : Step) → IsSound w → IsPossibleAt step w.accepted (w.slots n) → (a : Letter) → Contains (w.accepted ++ accepts step (w.slots n).use_of) a → Contains (w.finished ++ finishes step (w.slots n).use_of) a
finished_after w n step s can a h =
    elim (Contains-append_cases w.accepted (accepts step (w.slots n).use_of) a h) [
      | inl old ↦ Contains-append_left w.finished (finishes step (w.slots n).use_of) a (s.finished a old)
      | inr new ↦
          let is : (w.slots n).use_of ≡ Opened a = accepts_opened w.finished w.accepted step (w.slots n) a (s.good n) can new in
          let as_opened : IsAs w.finished (w.slots n).medium (Opened a) = subst (IsAs w.finished (w.slots n).medium) is (s.good n).is_as in
          Contains-append_left w.finished (finishes step (w.slots n).use_of) a as_opened.1
    ]

none_new : (w : World) (n i : ℕ) (a : Letter) → IsSound w → (w.slots n).use_of ≡ Opened a → IsUnopened a.number (w.slots i).use_of → ⊥
none_new w n i a s e h =
    let same : i ≡ n = s.apart i n a.number (unopened_number a.number (w.slots i).use_of h) (opened_has (w.slots n).use_of a e) in
    subst (IsUnopened a.number) e (subst (λ (j : ℕ). IsUnopened a.number (w.slots j).use_of) same h)

none_after : (w : World) (n : ℕ) (step : Step) → IsSound w → IsPossibleAt step w.accepted (w.slots n) → (i : ℕ)
    → NoneAccepted (w.accepted ++ accepts step (w.slots n).use_of) ((after (At n step) w).slots i).use_of
none_after w n step s can i a has h =
    elim (put_unopened w n step i a.number h) [
      | inl new ↦ let lt = accepted_below w n step s can a has in let is : w.begun ≡ a.number = new.1.1 in absurd (omega (arith, lt, is))
      | inr old ↦ elim (Contains-append_cases w.accepted (accepts step (w.slots n).use_of) a has) [
        | inl before ↦ s.none i a before old
        | inr now ↦ none_new w n i a s (accepts_opened w.finished w.accepted step (w.slots n) a (s.good n) can now) old
      ]
    ]

stands_at : (l : Letter) (w : World) (n : ℕ) → StandsIn l (w.slots n) → Stands l w
stands_at l w n st = record { slot = n; is = st.is; kept = st.kept }

stands_here : (l : Letter) (w : World) (n : ℕ) (step : Step) → StandsIn l (stepped w.begun step (w.slots n)) → Stands l (after (At n step) w)
stands_here l w n step st =
    let new : Slot = stepped w.begun step (w.slots n) in
    stands_at l (after (At n step) w) n (subst (StandsIn l) (sym (here_is n n new w.slots (itself n))) st)

stands_after : (l : Letter) (w : World) (n : ℕ) (step : Step) → IsSound w → IsPossibleAt step w.accepted (w.slots n) → Stands l w → Contains w.accepted l ⊎ Stands l (after (At n step) w)
stands_after l w n step s can st =
    let in_slot : StandsIn l (w.slots st.slot) = record { is = st.is; kept = st.kept } in
    elim (same_or st.slot n) [
      | inl p ↦ elim (stands_step w.accepted w.begun step (w.slots n) l can (s.good n).sound (subst (λ (j : ℕ). StandsIn l (w.slots j)) p.1 in_slot)) [
        | inl is ↦ inl is
        | inr still ↦ inr (stands_here l w n step still)
      ]
      | inr e ↦ inr (stands_at l (after (At n step) w) st.slot (subst (StandsIn l) (sym (away_is st.slot n (stepped w.begun step (w.slots n)) w.slots e)) in_slot))
    ]

new_answer : (finished accepted : List Letter) (number : ℕ) (step : Step) (s : Slot) (l : Letter) → IsGood finished s → IsPossibleAt step accepted s → Contains (answers step s.use_of) l
    → Contains accepted l ⊎ StandsIn l (stepped number step s)
new_answer finished accepted number (Start from rcpts) s l g can h = absurd (no_letter l h)
new_answer finished accepted number (Add piece) s l g can h = absurd (no_letter l h)
new_answer finished accepted number (Write at bytes o) s l g can h = absurd (no_letter l h)
new_answer finished accepted number Sync s l g can h = absurd (no_letter l h)
new_answer finished accepted number (OpenGate o) s l g can h = absurd (no_letter l h)
new_answer finished accepted number Answer s l g can h = answered_now finished accepted s l g can h
new_answer finished accepted number Accept s l g can h = absurd (no_letter l h)
new_answer finished accepted number (CloseGate o) s l g can h = absurd (no_letter l h)
new_answer finished accepted number (SetAside o) s l g can h = absurd (no_letter l h)

either_after : (l : Letter) (w : World) (n : ℕ) (step : Step) → Contains w.accepted l ⊎ Stands l (after (At n step) w) → Contains (after (At n step) w).accepted l ⊎ Stands l (after (At n step) w)
either_after l w n step (inl is) = inl (Contains-append_left w.accepted (accepts step (w.slots n).use_of) l is)
either_after l w n step (inr st) = inr st

answered_step : (w : World) (n : ℕ) (step : Step) → IsSound w → IsPossibleAt step w.accepted (w.slots n) → (l : Letter) → Contains (after (At n step) w).answered l → Contains w.accepted l ⊎ Stands l (after (At n step) w)
answered_step w n step s can l h =
    elim (Contains-append_cases w.answered (answers step (w.slots n).use_of) l h) [
      | inl old ↦ elim (s.answered l old) [
        | inl is ↦ inl is
        | inr st ↦ stands_after l w n step s can st
      ]
      | inr new ↦ elim (new_answer w.finished w.accepted w.begun step (w.slots n) l (s.good n) can new) [
        | inl is ↦ inl is
        | inr st ↦ inr (stands_here l w n step st)
      ]
    ]

good_after : (w : World) (n : ℕ) (step : Step) → IsSound w → IsPossibleAt step w.accepted (w.slots n) → (i : ℕ) → IsGood (after (At n step) w).finished ((after (At n step) w).slots i)
good_after w n step s can =
    let finished : List Letter = w.finished ++ finishes step (w.slots n).use_of in
    put_each (IsGood finished) n (stepped w.begun step (w.slots n)) w.slots
    (λ k. good_more w.finished (finishes step (w.slots n).use_of) (w.slots k) (s.good k))
    (good_step w.finished w.accepted w.begun step (w.slots n) can (s.none n) (s.good n))

sound_step : (w : World) (n : ℕ) (step : Step) → IsSound w → IsPossibleAt step w.accepted (w.slots n) → IsSound (after (At n step) w)
sound_step w n step s can = record {
  good = good_after w n step s can;
  apart = apart_after w n step s;
  below = below_after w n step s;
  finished = λ a h. finished_after w n step s can a h;
  past = λ a h. let lt : a.number < w.begun = accepted_below w n step s can a h in omega (arith, lt);
  none = none_after w n step s can;
  answered = λ l h. either_after l w n step (answered_step w n step s can l h);
}

-- ---- after a crash

crash_answered : (w : World) (images : ℕ → List ℕ) → ((n : ℕ) → IsImage (w.slots n).medium (images n)) → (l : Letter) → Contains w.accepted l ⊎ Stands l w → Contains w.accepted l ⊎ Stands l (after (Crash images) w)
crash_answered w images are l (inl is) = inl is
crash_answered w images are l (inr st) =
    let in_slot : StandsIn l (w.slots st.slot) = record { is = st.is; kept = st.kept } in
    inr (stands_at l (after (Crash images) w) st.slot (stands_crashed (w.slots st.slot) (images st.slot) l (are st.slot) in_slot))

sound_crash : (w : World) (images : ℕ → List ℕ) → IsSound w → ((n : ℕ) → IsImage (w.slots n).medium (images n)) → IsSound (after (Crash images) w)
sound_crash w images s are = record {
  good = λ n. good_crashed w.finished (images n) (w.slots n) (are n) (s.good n);
  apart = λ i j k p q. s.apart i j k (cut_number k (w.slots i).use_of p) (cut_number k (w.slots j).use_of q);
  below = λ n k p. s.below n k (cut_number k (w.slots n).use_of p);
  past = s.past;
  finished = s.finished;
  none = λ n a has h. s.none n a has (cut_unopened a.number (w.slots n).use_of h);
  answered = λ l h. crash_answered w images are l (s.answered l h);
}

-- ---- all events

zeros : AreBytes (0 ∷ 0 ∷ [])
zeros zero = lit< tt
zeros (suc zero) = lit< tt
zeros (suc (suc place)) = lit< tt

formatted_free : EachImage IsFree (settled (0 ∷ 0 ∷ []))
formatted_free image is = subst IsFree (sym (settled_only (0 ∷ 0 ∷ []) image is)) (reads_free (0 ∷ 0 ∷ []) (record { long = lit≤ tt; gate = refl }))

sound_formatted : IsSound formatted
sound_formatted = record {
  good = λ n. record { sound = settled_image (0 ∷ 0 ∷ []) zeros; is_as = formatted_free };
  apart = λ i j k p q. absurd p;
  below = λ n k p. absurd p;
  past = λ a h. absurd (no_letter a h);
  finished = λ a h. absurd (no_letter a h);
  none = λ n a has h. h;
  answered = λ l h. absurd (no_letter l h);
}

sound_event : (w : World) (e : Event) → IsSound w → IsPossible e w → IsSound (after e w)
sound_event w (At n step) s can = sound_step w n step s can
sound_event w (Crash images) s can = sound_crash w images s can

sound_all : (events : List Event) (w : World) → IsSound w → ArePossible events w → IsSound (after_all events w)
sound_all [] w s can = s
sound_all (e ∷ events) w s can = sound_all events (after e w) (sound_event w e s can.0) can.1

-- ---- what an image is

one_of : (finished : List Letter) (l : Letter) (image : List ℕ) → Contains finished l → IsFree image ⊎ IsKept l.mail image → IsFree image ⊎ IsOneOf finished image
one_of finished l image has (inl free) = inl free
one_of finished l image has (inr kept) = inr (record { letter = l; one = has; kept = kept })

as_reads : (finished : List Letter) (m : Medium) (u : Use) → IsAs finished m u → EachImage (λ image. IsFree image ⊎ IsOneOf finished image) m
as_reads finished m Unused h image is = inl (h image is)
as_reads finished m (Begun l) h image is = inl (h image is)
as_reads finished m (CutOff l) h image is = inl (h image is)
as_reads finished m (Opened l) h image is = one_of finished l image h.1 (behind_reads l.mail image is.bytes (h.0 image is))

safe_of : (w : World) → IsSound w → IsSafe w
safe_of w s = record {
  answered = s.answered;
  finished = s.finished;
  images = λ n. as_reads w.finished (w.slots n).medium (w.slots n).use_of (s.good n).is_as;
  sound = λ n. (s.good n).sound;
}

pub always_safe : (events : List Event) → ArePossible events formatted → IsSafe (after_all events formatted)
always_safe events can = safe_of (after_all events formatted) (sound_all events formatted sound_formatted can)

pub sound_always : (events : List Event) → ArePossible events formatted → IsSound (after_all events formatted)
sound_always events can = sound_all events formatted sound_formatted can
