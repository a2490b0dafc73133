-- Events one after another, and the tapes that they lead.
use Rattle.std.proofs.Common.{◌≡◌, refl, sym, ap, subst, ◌∙◌, arith, ℕ, suc, ◌+◌, ◌<◌, ◌≤◌, ◌⊎◌, inl, inr, Bool, true, false, nat_eq, cond, List, [], ◌∷◌, ◌++◌, length, map, append_assoc, append-nil, Option, Some, None}
use Rattle.std.specs.Prelude.{option_map, if◌then◌else◌}
use Rattle.std.specs.List.{AllByRecursion}
use Rattle.std.proofs.lemmas.Bool.Decides.{nat_tests}
use Rattle.fw_disk.specs.DiskView.{DiskView, Tape}
use Rattle.fw_disk.specs.Medium.{Medium, synced_now, written_at}
use Rattle.spool_law.specs.Events.{ArePossible, Event, Step, after, after_all, put, read_after, stepped}
use Rattle.spool_law.specs.Events.Event.{At, Crash}
use Rattle.spool_law.specs.Events.Step.{Start, Add, Write, Sync, OpenGate, Answer, Accept, CloseGate, SetAside}
use Rattle.spool_law.specs.Runs.{Known, known_in, tape_after, tape_on, taped}
use Rattle.spool_law.specs.World.{Slot, World}
use Rattle.spool_runs.specs.OnDisks.{AreOn, AreTaped, IsOn, IsStepOf}

-- ---- lists of events

pub after_both : (a b : List Event) (w : World) → after_all (a ++ b) w ≡ after_all b (after_all a w)
after_both [] b w = refl
after_both (e ∷ a) b w = after_both a b (after e w)

pub possible_both : (a b : List Event) (w : World) → ArePossible a w → ArePossible b (after_all a w) → ArePossible (a ++ b) w
possible_both [] b w x y = y
possible_both (e ∷ a) b w x y = (x.0, possible_both a b (after e w) x.1 y)

pub possible_front : (a b : List Event) (w : World) → ArePossible (a ++ b) w → ArePossible a w
possible_front [] b w x = tt
possible_front (e ∷ a) b w x = (x.0, possible_front a b (after e w) x.1)

pub taped_both : (n : ℕ) (a b : List Event) (w : World) (tape : Tape) → taped n (a ++ b) w tape ≡ taped n b (after_all a w) (taped n a w tape)
taped_both n [] b w tape = refl
taped_both n (e ∷ a) b w tape = taped_both n a b (after e w) (tape_on n e w tape)

pub each_both : {X : Type 0} (P : X → Type 0) (xs ys : List X) → AllByRecursion P xs → AllByRecursion P ys → AllByRecursion P (xs ++ ys)
each_both P [] ys a b = b
each_both P (x ∷ xs) ys a b = (a.0, each_both P xs ys a.1 b)

-- ---- the medium of a slot and its tape

pub same_or : (k n : ℕ) → ((nat_eq k n ≡ true) × (k ≡ n)) ⊎ (nat_eq k n ≡ false)
same_or k n =
    elim (either (nat_eq k n)) [
      | inl e ↦ let is : k ≡ n = grind (arith, nat_tests) in inl (e, is)
      | inr e ↦ inr e
    ] where
      either : (b : Bool) → (b ≡ true) ⊎ (b ≡ false)
      either true = inl refl
      either false = inr refl

-- a step leads medium and tape alike
step_medium : (step : Step) (number : ℕ) (s : Slot) (k : Known) (tape : Tape) → s.medium ≡ tape.now → (stepped number step s).medium ≡ (tape_after step k tape).now
step_medium (Start from rcpts) number s k tape e = e
step_medium (Add piece) number s k tape e = e
step_medium (Write at bytes o) number s k tape e = ap (λ (m : Medium). read_after o (written_at at bytes m)) e
step_medium Sync number s k tape e = ap (λ (m : Medium). synced_now m) e
step_medium (OpenGate o) number s k tape e = ap (λ (m : Medium). read_after o (written_at 0 (1 ∷ []) m)) e
step_medium Answer number s k tape e = e
step_medium Accept number s k tape e = e
step_medium (CloseGate o) number s k tape e = ap (λ (m : Medium). read_after o (written_at 0 (0 ∷ []) m)) e
step_medium (SetAside o) number s k tape e = ap (λ (m : Medium). read_after o (written_at 1 (1 ∷ []) m)) e

step_here : (k n : ℕ) (step : Step) (w : World) (tape : Tape) → (w.slots k).medium ≡ tape.now → ((nat_eq k n ≡ true) × (k ≡ n)) ⊎ (nat_eq k n ≡ false)
    → ((after (At n step) w).slots k).medium ≡ (tape_on k (At n step) w tape).now
step_here k n step w tape e (inl p) =
    let s : Slot = stepped w.begun step (w.slots n) in
    let there : (w.slots n).medium ≡ tape.now = ap (λ (i : ℕ). (w.slots i).medium) (sym p.1) ∙ e in
    ap (λ (b : Bool). let x : Slot = cond b s (w.slots k) in x.medium) p.0
    ∙ step_medium step w.begun (w.slots n) (known_in w k) tape there
    ∙ sym (ap (λ (b : Bool). let t : Tape = if b then tape_after step (known_in w k) tape else tape in t.now) p.0)
step_here k n step w tape e (inr away) =
    let s : Slot = stepped w.begun step (w.slots n) in
    ap (λ (b : Bool). let x : Slot = cond b s (w.slots k) in x.medium) away
    ∙ e
    ∙ sym (ap (λ (b : Bool). let t : Tape = if b then tape_after step (known_in w k) tape else tape in t.now) away)

pub medium_along : (k count : ℕ) (events : List Event) (w : World) (tape : Tape) → AllByRecursion (IsStepOf count) events → (w.slots k).medium ≡ tape.now
    → ((after_all events w).slots k).medium ≡ (taped k events w tape).now
medium_along k count [] w tape are e = e
medium_along k count (At n step ∷ events) w tape are e =
    medium_along k count events (after (At n step) w) (tape_on k (At n step) w tape) are.1 (step_here k n step w tape e (same_or k n))
medium_along k count (Crash images ∷ events) w tape are e = absurd are.0

-- ---- disks

told_same : (n : ℕ) (w : World) (told : Option Tape) → told ≡ option_map (taped n [] w) told
told_same n w None = refl
told_same n w (Some tape) = refl

pub taped_same : (n : ℕ) (w : World) (disks : List DiskView) → AreTaped n [] w disks disks
taped_same n w [] = tt
taped_same n w (disk ∷ disks) = (told_same n w disk.told, taped_same (n + 1) w disks)

told_then : (n : ℕ) (a b : List Event) (w : World) (x y z : Option Tape) → y ≡ option_map (taped n a w) x → z ≡ option_map (taped n b (after_all a w)) y → z ≡ option_map (taped n (a ++ b) w) x
told_then n a b w None y z first more = more ∙ ap (option_map (taped n b (after_all a w))) first
told_then n a b w (Some tape) y z first more = more ∙ ap (option_map (taped n b (after_all a w))) first ∙ ap (λ (t : Tape). Some t) (sym (taped_both n a b w tape))

pub taped_then : (n : ℕ) (a b : List Event) (w : World) (xs ys zs : List DiskView) → AreTaped n a w xs ys → AreTaped n b (after_all a w) ys zs → AreTaped n (a ++ b) w xs zs
taped_then n a b w [] [] [] p q = tt
taped_then n a b w [] [] (z ∷ zs) p q = absurd q
taped_then n a b w [] (y ∷ ys) zs p q = absurd p
taped_then n a b w (x ∷ xs) [] zs p q = absurd p
taped_then n a b w (x ∷ xs) (y ∷ ys) [] p q = absurd q
taped_then n a b w (x ∷ xs) (y ∷ ys) (z ∷ zs) p q = (told_then n a b w x.told y.told z.told p.0 q.0, taped_then (n + 1) a b w xs ys zs p.1 q.1)

pub taped_length : (n : ℕ) (events : List Event) (w : World) (xs ys : List DiskView) → AreTaped n events w xs ys → length ys ≡ length xs
taped_length n events w [] [] p = refl
taped_length n events w [] (y ∷ ys) p = absurd p
taped_length n events w (x ∷ xs) [] p = absurd p
taped_length n events w (x ∷ xs) (y ∷ ys) p = ap (λ (k : ℕ). suc k) (taped_length (n + 1) events w xs ys p.1)

on_one : (n count : ℕ) (events : List Event) (w : World) (old new : DiskView) → AllByRecursion (IsStepOf count) events → IsOn (w.slots n) old → new.told ≡ option_map (taped n events w) old.told → IsOn ((after_all events w).slots n) new
on_one n count events w old new are on told = record {
  tape = taped n events w on.tape;
  told = told ∙ ap (option_map (taped n events w)) on.told;
  now = medium_along n count events w on.tape are on.now;
}

pub on_after : (n count : ℕ) (events : List Event) (w : World) (olds news : List DiskView) → AllByRecursion (IsStepOf count) events → AreOn n w olds → AreTaped n events w olds news → AreOn n (after_all events w) news
on_after n count events w [] [] are on p = tt
on_after n count events w [] (new ∷ news) are on p = absurd p
on_after n count events w (old ∷ olds) [] are on p = absurd p
on_after n count events w (old ∷ olds) (new ∷ news) are on p = (on_one n count events w old new are on.0 p.0, on_after (n + 1) count events w olds news are on.1 p.1)
