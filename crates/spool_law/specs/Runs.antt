-- What a call does to the disk of a slot, as steps of that slot.
use Rattle.std.specs.Prelude.{◌≡◌, ℕ, ◌+◌, ◌==◌, Bool, true, false, List, [], ◌∷◌, ◌++◌, map, Option, Some, None, if◌then◌else◌}
use Rattle.fw_disk.specs.Medium.{Medium}
use Rattle.fw_disk.specs.DiskView.{Tape, DiskView, onward}
use Rattle.spool_law.specs.World.{Letter, Use, Slot, World, letters}
use Rattle.spool_law.specs.Events.{Step, Event, IsPossibleAt, ArePossible, stepped, after, after_all}
use Rattle.spool_law.specs.Events.Event.{At, Crash}
use Rattle.spool_law.specs.Events.Step.{Start, Write, Sync, OpenGate, Accept, CloseGate, SetAside}

-- What is known of a slot beside its disk: how many messages were begun in the spool, which were accepted, and what the
-- slot is used for.
pub record Known : Type 0 where
  pub begun : ℕ
  pub accepted : List Letter
  pub use_of : Use

abbrev pub slot_of : Known → Tape → Slot
slot_of k tape = record { medium = tape.now; use_of = k.use_of }

-- of one slot of a spool
abbrev pub known_in : World → ℕ → Known
known_in w n = record { begun = w.begun; accepted = w.accepted; use_of = (w.slots n).use_of }

-- ---- after a step

abbrev pub begun_after : Step → ℕ → ℕ
begun_after (Start from rcpts) n = n + 1
begun_after _ n = n

abbrev pub accepted_after : Step → Use → List Letter → List Letter
accepted_after Accept u accepted = accepted ++ letters u
accepted_after _ u accepted = accepted

abbrev pub known_after : Step → Tape → Known → Known
known_after step tape k = record {
  begun = begun_after step k.begun;
  accepted = accepted_after step k.use_of k.accepted;
  use_of = (stepped k.begun step (slot_of k tape)).use_of;
}

-- whether a step is a change or a sync of the disk, which its tape notes
abbrev pub is_noted : Step → Bool
is_noted (Write at bytes o) = true
is_noted Sync = true
is_noted (OpenGate o) = true
is_noted (CloseGate o) = true
is_noted (SetAside o) = true
is_noted _ = false

abbrev pub tape_after : Step → Known → Tape → Tape
tape_after step k tape = if is_noted step then onward (stepped k.begun step (slot_of k tape)).medium tape else tape

-- ---- steps

-- These steps, each possible when it comes, lead from what was known to what is known, and from one tape to the other:
-- the media that the disk had since are those that the steps lead through.
abbrev pub Does : List Step → Known → Tape → Known → Tape → Type 0
Does [] k old l new = (l ≡ k) × (new ≡ old)
Does (step ∷ steps) k old l new =
    IsPossibleAt step k.accepted (slot_of k old) × Does steps (known_after step old k) (tape_after step k old) l new

-- some steps do
pub record IsRun (k : Known) (old : Tape) (l : Known) (new : Tape) : Type 0 where
  pub steps : List Step
  pub does : Does steps k old l new

-- the same where it is told; a disk that tells goes on, and no other begins
abbrev pub IsToldRun : Known → Option Tape → Known → Option Tape → Type 0
IsToldRun k None l None = Unit {0}
IsToldRun k (Some old) l (Some new) = IsRun k old l new
IsToldRun k _ l _ = ⊥

abbrev pub Runs : Known → DiskView → Known → DiskView → Type 0
Runs k old l new = IsToldRun k old.told l new.told

-- with another use
abbrev pub used_for : Use → Known → Known
used_for u k = record { begun = k.begun; accepted = k.accepted; use_of = u }

-- ---- moments

-- some first of these steps, each possible when it comes, lead to this medium
pub record IsReached (steps : List Step) (k : Known) (old : Tape) (m : Medium) : Type 0 where
  pub front : List Step
  pub rest : List Step
  pub are : steps ≡ front ++ rest
  pub l : Known
  pub tape : Tape
  pub does : Does front k old l tape
  pub now : tape.now ≡ m

-- ---- in a spool

-- the tape of the disk with the slot of this number after an event; a crash begins another tape
abbrev pub tape_on : ℕ → Event → World → Tape → Tape
tape_on n (At k step) w tape = if n == k then tape_after step (known_in w n) tape else tape
tape_on n (Crash images) w tape = tape

abbrev pub taped : ℕ → List Event → World → Tape → Tape
taped n [] w tape = tape
taped n (e ∷ events) w tape = taped n events (after e w) (tape_on n e w tape)

-- These steps of one slot, as events of the spool, are each possible when they come. They lead to what is known after
-- them, and the slot to where its tape went, and leave the other slots and their tapes alone. So the steps of a further
-- call can follow.
pub record AreEvents (steps : List Step) (w : World) (n : ℕ) (old : Tape) (l : Known) (new : Tape) : Type 0 where
  pub possible : ArePossible (map (At n) steps) w
  pub known : known_in (after_all (map (At n) steps) w) n ≡ l
  pub slot : (after_all (map (At n) steps) w).slots n ≡ slot_of l new
  pub tape : taped n (map (At n) steps) w old ≡ new
  pub others : (k : ℕ) → (k ≡ n → ⊥) → (after_all (map (At n) steps) w).slots k ≡ w.slots k
  pub other_tapes : (k : ℕ) (tape : Tape) → (k ≡ n → ⊥) → taped k (map (At n) steps) w tape ≡ tape
