-- What a run over the slots of a spool does to the spool, as events on its disks.
use Rattle.std.specs.Prelude.{◌≡◌, ℕ, ◌+◌, ◌<◌, ◌≤◌, List, [], ◌∷◌, ◌++◌, length, map, Some, option_map}
use Rattle.std.specs.List.{AllByRecursion}
use Rattle.fw_disk.specs.DiskView.{DiskView, Tape}
use Rattle.fw_disk.specs.Medium.{settled}
use Rattle.slot_bytes.specs.Layout.{Mail}
use Rattle.spool_law.specs.Events.{ArePossible, Event, after_all}
use Rattle.spool_law.specs.Events.Event.{At, Crash}
use Rattle.spool_law.specs.Runs.{taped}
use Rattle.spool_law.specs.World.{Letter, Slot, World, formatted}

-- ---- a spool on disks

-- the disk tells, and its medium is the slot's
pub record IsOn (slot : Slot) (disk : DiskView) : Type 0 where
  pub tape : Tape
  pub told : disk.told ≡ Some tape
  pub now : slot.medium ≡ tape.now

-- the slots from a number on are those on these disks, in their order
abbrev pub AreOn : ℕ → World → List DiskView → Type 0
AreOn n w [] = Unit {0}
AreOn n w (disk ∷ disks) = IsOn (w.slots n) disk × AreOn (n + 1) w disks

-- the disk tells, and has two zeros, which are synced: a slot that was formatted
pub record IsNew (disk : DiskView) : Type 0 where
  pub tape : Tape
  pub told : disk.told ≡ Some tape
  pub zeros : tape.now ≡ settled (0 ∷ 0 ∷ [])

-- events led to it from slots that were formatted
pub record IsReachable (w : World) : Type 0 where
  pub events : List Event
  pub possible : ArePossible events formatted
  pub is : after_all events formatted ≡ w

-- ---- messages

-- each of these messages has a number of its own, from a number on and below another
abbrev pub AreNumbered : ℕ → List Letter → ℕ → Type 0
AreNumbered from [] below = from ≤ below
AreNumbered from (l ∷ letters) below = (from ≤ l.number) × AreNumbered (l.number + 1) letters below

-- These messages were answered for in this time, in order, and no other. Each was begun in this time, as one of its own.
pub record AreAnswered (mails : List Mail) (old new : World) : Type 0 where
  pub letters : List Letter
  pub grew : new.answered ≡ old.answered ++ letters
  pub are : map (λ l. l.mail) letters ≡ mails
  pub begun : AreNumbered old.begun letters new.begun

-- a mailer accepted these messages in this time, in order, and no other
pub record AreAccepted (mails : List Mail) (old new : World) : Type 0 where
  pub letters : List Letter
  pub grew : new.accepted ≡ old.accepted ++ letters
  pub are : map (λ l. l.mail) letters ≡ mails

-- ---- a run

-- a step of one of so many slots, and no crash
abbrev pub IsStepOf : ℕ → Event → Type 0
IsStepOf count (At n step) = n < count
IsStepOf count (Crash images) = ⊥

-- each disk's tape went as these events lead that of its slot, and as many disks are there
abbrev pub AreTaped : ℕ → List Event → World → List DiskView → List DiskView → Type 0
AreTaped n events w [] [] = Unit {0}
AreTaped n events w (old ∷ olds) (new ∷ news) = (new.told ≡ option_map (taped n events w) old.told) × AreTaped (n + 1) events w olds news
AreTaped n events w _ _ = ⊥

-- What was done to the disks are events of the spool on them, each possible when it comes: by these the messages were
-- answered for, and accepted.
pub record SpoolRun (answered accepted : List Mail) (old new : List DiskView) (w : World) : Type 0 where
  pub events : List Event
  pub are : AllByRecursion (IsStepOf (length old)) events
  pub possible : ArePossible events w
  pub disks : AreTaped 0 events w old new
  pub answers : AreAnswered answered w (after_all events w)
  pub accepts : AreAccepted accepted w (after_all events w)

-- so it is for each spool that may stand on the disks
abbrev pub RunsSpool : List Mail → List Mail → List DiskView → List DiskView → Type 0
RunsSpool answered accepted old new = (w : World) → IsReachable w → AreOn 0 w old → SpoolRun answered accepted old new w
