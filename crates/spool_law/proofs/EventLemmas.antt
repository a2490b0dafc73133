-- Steps of one slot are events of the spool.
use Rattle.std.proofs.Common.{◌≡◌, ℕ, ◌+◌, Bool, false, nat_eq, List, [], ◌∷◌, ◌++◌, refl, sym, ap, subst, ◌∙◌, arith, inl, inr}
use Rattle.std.proofs.lemmas.List.{append-nil}
use Rattle.std.proofs.lemmas.Bool.Decides.{nat_tests}
use Rattle.fw_disk.specs.Medium.{Medium}
use Rattle.fw_disk.specs.DiskView.{Tape}
use Rattle.spool_law.specs.World.{Letter, Use, Slot, World}
use Rattle.std.specs.Prelude.{map, if◌then◌else◌}
use Rattle.spool_law.specs.Events.{Step, IsPossibleAt, begins, accepts, stepped, after}
use Rattle.spool_law.specs.Events.Event.{At}
use Rattle.spool_law.specs.Events.Step.{Start, Add, Write, Sync, OpenGate, Answer, Accept, CloseGate, SetAside}
use Rattle.spool_law.specs.Runs.{Known, slot_of, known_in, begun_after, accepted_after, known_after, tape_after, tape_on, taped, Does, AreEvents}
use Rattle.spool_law.proofs.WorldLemmas.{here_is, away_is, itself, either}

begun_same : (step : Step) (n : ℕ) → begun_after step n ≡ n + begins step
begun_same (Start from rcpts) n = refl
begun_same (Add piece) n = omega arith
begun_same (Write at bytes o) n = omega arith
begun_same Sync n = omega arith
begun_same (OpenGate o) n = omega arith
begun_same Answer n = omega arith
begun_same Accept n = omega arith
begun_same (CloseGate o) n = omega arith
begun_same (SetAside o) n = omega arith

accepted_same : (step : Step) (u : Use) (accepted : List Letter) → accepted_after step u accepted ≡ accepted ++ accepts step u
accepted_same (Start from rcpts) u accepted = sym (append-nil accepted)
accepted_same (Add piece) u accepted = sym (append-nil accepted)
accepted_same (Write at bytes o) u accepted = sym (append-nil accepted)
accepted_same Sync u accepted = sym (append-nil accepted)
accepted_same (OpenGate o) u accepted = sym (append-nil accepted)
accepted_same Answer u accepted = sym (append-nil accepted)
accepted_same Accept u accepted = refl
accepted_same (CloseGate o) u accepted = sym (append-nil accepted)
accepted_same (SetAside o) u accepted = sym (append-nil accepted)

abbrev known_of : ℕ → List Letter → Use → Known
known_of n accepted u = record { begun = n; accepted = accepted; use_of = u }

abbrev slot_with : Medium → Use → Slot
slot_with m u = record { medium = m; use_of = u }

known_same : (a b : ℕ) (p q : List Letter) (u v : Use) → a ≡ b → p ≡ q → u ≡ v → known_of a p u ≡ known_of b q v
known_same a b p q u v e f g =
    ap (λ (x : ℕ). known_of x p u) e ∙ ap (λ (x : List Letter). known_of b x u) f ∙ ap (λ (x : Use). known_of b q x) g

medium_same : (u : Use) (a b : Medium) → a ≡ b → slot_with a u ≡ slot_with b u
medium_same u a b e = ap (λ (x : Medium). slot_with x u) e

-- the slot is where its tape is
slot_same : (w : World) (n : ℕ) (old : Tape) → (w.slots n).medium ≡ old.now → w.slots n ≡ slot_of (known_in w n) old
slot_same w n old e = medium_same (w.slots n).use_of (w.slots n).medium old.now e

known_next : (step : Step) (w : World) (n : ℕ) (old : Tape) → (w.slots n).medium ≡ old.now → known_after step old (known_in w n) ≡ known_in (after (At n step) w) n
known_next step w n old e =
    let new : Slot = stepped w.begun step (w.slots n) in
    let use_is : (stepped w.begun step (slot_of (known_in w n) old)).use_of ≡ ((after (At n step) w).slots n).use_of =
    ap (λ (s : Slot). (stepped w.begun step s).use_of) (sym (slot_same w n old e))
    ∙ ap (λ (s : Slot). s.use_of) (sym (here_is n n new w.slots (itself n))) in
    known_same (begun_after step w.begun) (w.begun + begins step) (accepted_after step (w.slots n).use_of w.accepted) (w.accepted ++ accepts step (w.slots n).use_of)
    (stepped w.begun step (slot_of (known_in w n) old)).use_of ((after (At n step) w).slots n).use_of
    (begun_same step w.begun) (accepted_same step (w.slots n).use_of w.accepted) use_is

-- a step that the tape doesn't note leaves the medium
medium_step : (step : Step) (k : Known) (old : Tape) → (stepped k.begun step (slot_of k old)).medium ≡ (tape_after step k old).now
medium_step (Start from rcpts) k old = refl
medium_step (Add piece) k old = refl
medium_step (Write at bytes o) k old = refl
medium_step Sync k old = refl
medium_step (OpenGate o) k old = refl
medium_step Answer k old = refl
medium_step Accept k old = refl
medium_step (CloseGate o) k old = refl
medium_step (SetAside o) k old = refl

medium_next : (step : Step) (w : World) (n : ℕ) (old : Tape) → (w.slots n).medium ≡ old.now → ((after (At n step) w).slots n).medium ≡ (tape_after step (known_in w n) old).now
medium_next step w n old e =
    let new : Slot = stepped w.begun step (w.slots n) in
    ap (λ (s : Slot). s.medium) (here_is n n new w.slots (itself n))
    ∙ ap (λ (s : Slot). (stepped w.begun step s).medium) (slot_same w n old e)
    ∙ medium_step step (known_in w n) old

differs : (k n : ℕ) → (k ≡ n → ⊥) → nat_eq k n ≡ false
differs k n other =
    elim (either (nat_eq k n)) [
      | inl e ↦ let is : k ≡ n = grind (arith, nat_tests) in absurd (other is)
      | inr e ↦ e
    ]

-- the tape of the slot itself, and that of another
tape_here : (step : Step) (w : World) (n : ℕ) (old : Tape) → tape_on n (At n step) w old ≡ tape_after step (known_in w n) old
tape_here step w n old = ap (λ (b : Bool). if b then tape_after step (known_in w n) old else old) (itself n)

tape_away : (step : Step) (w : World) (k n : ℕ) (tape : Tape) → nat_eq k n ≡ false → tape_on k (At n step) w tape ≡ tape
tape_away step w k n tape e = ap (λ (b : Bool). if b then tape_after step (known_in w k) tape else tape) e

pub are_events : (steps : List Step) (w : World) (n : ℕ) (old new : Tape) (l : Known) → (w.slots n).medium ≡ old.now → Does steps (known_in w n) old l new → AreEvents steps w n old l new
are_events [] w n old new l e d = record {
  possible = tt;
  known = sym d.0;
  slot = slot_same w n old e ∙ ap (λ (t : Tape). slot_of (known_in w n) t) (sym d.1) ∙ ap (λ (k : Known). slot_of k new) (sym d.0);
  tape = sym d.1;
  others = λ k other. refl;
  other_tapes = λ k tape other. refl;
}
are_events (step ∷ steps) w n old new l e d =
    let next : World = after (At n step) w in
    let can : IsPossibleAt step w.accepted (w.slots n) = subst (IsPossibleAt step w.accepted) (sym (slot_same w n old e)) d.0 in
    let does : Does steps (known_in next n) (tape_after step (known_in w n) old) l new =
    subst (λ (k : Known). Does steps k (tape_after step (known_in w n) old) l new) (known_next step w n old e) d.1 in
    let rest = are_events steps next n (tape_after step (known_in w n) old) new l (medium_next step w n old e) does in
    record {
      possible = (can, rest.possible);
      known = rest.known;
      slot = rest.slot;
      tape = ap (λ (t : Tape). taped n (map (At n) steps) next t) (tape_here step w n old) ∙ rest.tape;
      others = λ k other. rest.others k other ∙ away_is k n (stepped w.begun step (w.slots n)) w.slots (differs k n other);
      other_tapes = λ k tape other. ap (λ (t : Tape). taped k (map (At n) steps) next t) (tape_away step w k n tape (differs k n other)) ∙ rest.other_tapes k tape other;
    }
