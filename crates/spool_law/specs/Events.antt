-- What happens in a spool, when it is possible, and what it leaves.
use Rattle.std.specs.Prelude.{ℕ, ◌+◌, ◌≤◌, ◌==◌, List, [], ◌∷◌, ◌++◌, length, if◌then◌else◌, ◌⊎◌}
use Rattle.std.specs.List.{Contains}
use Rattle.fw_disk.specs.Medium.{Medium, IsImage, written_at, settled, synced_now}
use Rattle.fw_disk.specs.Laws.{AreBytes}
use Rattle.fw_disk.specs.Moments.{EachImage}
use Rattle.spool_law.specs.World.{Letter, Use, Slot, World, letters, OfLetter}
use Rattle.spool_law.specs.World.Use.{Unused, Begun, CutOff, Opened}
use Rattle.spool_law.specs.Images.{IsFree, IsKept, IsWhole, IsReady}

-- How a write ended: it succeeded, or it failed and a read gives these bytes.
pub data Outcome : Type 0 where
  Done : Outcome
  Failed : List ℕ → Outcome

-- What happens to one slot. A message is begun with a sender and recipients, and goes on by a piece of its body. Bytes
-- are written for it. Its gate is opened. 250 is answered for it. A mailer accepts it. The gate is closed. It is set
-- aside.
pub data Step : Type 0 where
  Start : List ℕ → List (List ℕ) → Step
  Add : List ℕ → Step
  Write : ℕ → List ℕ → Outcome → Step
  Sync : Step
  OpenGate : Outcome → Step
  Answer : Step
  Accept : Step
  CloseGate : Outcome → Step
  SetAside : Outcome → Step

-- A step of one slot, or a crash, which leaves these images of all slots.
pub data Event : Type 0 where
  At : ℕ → Step → Event
  Crash : (ℕ → List ℕ) → Event

-- ---- when a step is possible

-- a failed write may leave these bytes to a read
abbrev pub MayLeave : Outcome → Medium → Type 0
MayLeave Done m = Unit {0}
MayLeave (Failed seen) m = IsImage m seen

abbrev pub IsBegun : Use → Type 0
IsBegun (Begun l) = Unit {0}
IsBegun _ = ⊥

-- bytes for a message that is being written: behind its gate, and within the file or at its end
pub record CanWrite (at : ℕ) (bytes : List ℕ) (outcome : Outcome) (s : Slot) : Type 0 where
  pub begun : IsBegun s.use_of
  pub behind : 1 ≤ at
  pub within : at ≤ length s.medium.seen
  pub are : AreBytes bytes
  pub leaves : MayLeave outcome (written_at at bytes s.medium)

-- every image is free and, with 1 in byte 0, the slot's message
pub record CanOpen (outcome : Outcome) (s : Slot) : Type 0 where
  pub ready : OfLetter (λ l. EachImage (IsReady l.mail) s.medium) s.use_of
  pub leaves : MayLeave outcome (written_at 0 (1 ∷ []) s.medium)

-- the slot's message was accepted
pub record CanClose (outcome : Outcome) (accepted : List Letter) (s : Slot) : Type 0 where
  pub is_accepted : OfLetter (Contains accepted) s.use_of
  pub leaves : MayLeave outcome (written_at 0 (0 ∷ []) s.medium)

-- every image is some message
pub record CanSetAside (outcome : Outcome) (s : Slot) : Type 0 where
  pub whole : EachImage IsWhole s.medium
  pub leaves : MayLeave outcome (written_at 1 (1 ∷ []) s.medium)

-- every image is the slot's message, set aside or not, or that message was accepted
abbrev pub CanAnswer : List Letter → Slot → Type 0
CanAnswer accepted s = OfLetter (λ l. EachImage (IsKept l.mail) s.medium ⊎ Contains accepted l) s.use_of

abbrev pub IsPossibleAt : Step → List Letter → Slot → Type 0
IsPossibleAt (Start from rcpts) accepted s = EachImage IsFree s.medium
IsPossibleAt (Add piece) accepted s = IsBegun s.use_of
IsPossibleAt (Write at bytes outcome) accepted s = CanWrite at bytes outcome s
IsPossibleAt Sync accepted s = Unit {0}
IsPossibleAt (OpenGate outcome) accepted s = CanOpen outcome s
IsPossibleAt Answer accepted s = CanAnswer accepted s
IsPossibleAt Accept accepted s = EachImage IsWhole s.medium
IsPossibleAt (CloseGate outcome) accepted s = CanClose outcome accepted s
IsPossibleAt (SetAside outcome) accepted s = CanSetAside outcome s

-- a crash leaves one image of each slot
abbrev pub IsPossible : Event → World → Type 0
IsPossible (At n step) w = IsPossibleAt step w.accepted (w.slots n)
IsPossible (Crash images) w = (n : ℕ) → IsImage (w.slots n).medium (images n)

-- ---- what a step leaves

abbrev pub read_after : Outcome → Medium → Medium
read_after Done m = m
read_after (Failed seen) m = record m { seen = seen }

abbrev pub new_letter : ℕ → List ℕ → List (List ℕ) → Letter
new_letter number from rcpts = record { number = number; mail = record { from = from; rcpts = rcpts; body = [] } }

abbrev pub longer : List ℕ → Letter → Letter
longer piece l = record l { mail = record { from = l.mail.from; rcpts = l.mail.rcpts; body = l.mail.body ++ piece } }

abbrev pub added : List ℕ → Use → Use
added piece (Begun l) = Begun (longer piece l)
added piece other = other

abbrev pub opened : Use → Use
opened Unused = Unused
opened (Begun l) = Opened l
opened (CutOff l) = Opened l
opened (Opened l) = Opened l

-- a crash ends the adding to a message
abbrev pub cut_off : Use → Use
cut_off (Begun l) = CutOff l
cut_off other = other

-- the slot after a step; the number is for a message that is begun
abbrev pub stepped : ℕ → Step → Slot → Slot
stepped number (Start from rcpts) s = record { medium = s.medium; use_of = Begun (new_letter number from rcpts) }
stepped number (Add piece) s = record { medium = s.medium; use_of = added piece s.use_of }
stepped number (Write at bytes outcome) s =
    record { medium = read_after outcome (written_at at bytes s.medium); use_of = s.use_of }
stepped number Sync s = record { medium = synced_now s.medium; use_of = s.use_of }
stepped number (OpenGate outcome) s =
    record { medium = read_after outcome (written_at 0 (1 ∷ []) s.medium); use_of = opened s.use_of }
stepped number Answer s = s
stepped number Accept s = s
stepped number (CloseGate outcome) s =
    record { medium = read_after outcome (written_at 0 (0 ∷ []) s.medium); use_of = s.use_of }
stepped number (SetAside outcome) s =
    record { medium = read_after outcome (written_at 1 (1 ∷ []) s.medium); use_of = s.use_of }

-- the messages that a step begins, finishes, answers for and accepts: none or the slot's one
abbrev pub begins : Step → ℕ
begins (Start from rcpts) = 1
begins _ = 0

abbrev pub finishes : Step → Use → List Letter
finishes (OpenGate outcome) u = letters u
finishes _ u = []

abbrev pub answers : Step → Use → List Letter
answers Answer u = letters u
answers _ u = []

abbrev pub accepts : Step → Use → List Letter
accepts Accept u = letters u
accepts _ u = []

-- these slots, but this one in the place of that of a number
abbrev pub put : ℕ → Slot → (ℕ → Slot) → ℕ → Slot
put n s slots k = if k == n then s else slots k

-- one image of a slot is left, and it is synced
abbrev pub crashed : List ℕ → Slot → Slot
crashed image s = record { medium = settled image; use_of = cut_off s.use_of }

abbrev pub after : Event → World → World
after (At n step) w = record {
  slots = put n (stepped w.begun step (w.slots n)) w.slots;
  begun = w.begun + begins step;
  finished = w.finished ++ finishes step (w.slots n).use_of;
  answered = w.answered ++ answers step (w.slots n).use_of;
  accepted = w.accepted ++ accepts step (w.slots n).use_of;
}
after (Crash images) w = record w { slots = λ n. crashed (images n) (w.slots n) }

-- ---- lists of events

abbrev pub ArePossible : List Event → World → Type 0
ArePossible [] w = Unit {0}
ArePossible (e ∷ events) w = IsPossible e w × ArePossible events (after e w)

abbrev pub after_all : List Event → World → World
after_all [] w = w
after_all (e ∷ events) w = after_all events (after e w)
