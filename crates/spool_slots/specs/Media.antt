-- What the media of a slot's disk are while it is free, filled, and holds a message.
use Rattle.std.specs.Prelude.{◌≡◌, ℕ, ◌≤◌, false, List, [], ◌∷◌, ◌++◌, length, get_or}
use Rattle.fw_disk.specs.Medium.{Medium, IsImage, is_written, settled}
use Rattle.slot_bytes.specs.Layout.{Mail, IsMail, AreMarks, all_waiting, slot_bytes, tagged_head}
use Rattle.slot_bytes.specs.Reading.{Reading, reads}
use Rattle.slot_bytes.specs.Reading.Reading.{Whole, Aside}

-- ---- bytes as read

-- the byte at this place, as read, is this
abbrev pub HasByte : ℕ → ℕ → Medium → Type 0
HasByte place byte m = get_or m.seen place 0 ≡ byte

-- ---- a closed gate

-- the gate is closed on the disk, and wasn't written since
pub record IsShut (m : Medium) : Type 0 where
  pub long : 2 ≤ m.least
  pub unwritten : is_written m 0 ≡ false
  pub gate : get_or m.synced 0 1 ≡ 0

-- the gate is closed, and the file has two bytes
pub record IsVacant (m : Medium) : Type 0 where
  pub shut : IsShut m
  pub long : 2 ≤ length m.seen

-- ---- a message that is being written

-- how far a message is written: where the next bytes go, the end of the body that is held back until then, and the
-- body's length so far
pub record Pen : Type 0 where
  pub at : ℕ
  pub held : List ℕ
  pub len : ℕ

-- the message so far: who sends it to whom, and nothing yet
abbrev pub begun : List ℕ → List (List ℕ) → Mail
begun from rcpts = record { from = from; rcpts = rcpts; body = [] }

-- a message with more behind its body
abbrev pub longer : Mail → List ℕ → Mail
longer m piece = record { from = m.from; rcpts = m.rcpts; body = m.body ++ piece }

-- a gate, not set aside, and the head in version 2, with the body's length still 0 and each recipient waiting
abbrev pub draft_head : ℕ → Mail → List ℕ
draft_head gate m = gate ∷ 0 ∷ tagged_head 50 0 (all_waiting m.rcpts) m.from m.rcpts

-- The bytes as read are that head, and the message's body but for what is held; the pen is at the body's end.
pub record IsDraft (m : Mail) (pen : Pen) (medium : Medium) : Type 0 where
  pub gate : ℕ
  pub written : List ℕ
  pub rest : List ℕ
  pub mail : IsMail m
  pub body : m.body ≡ written ++ pen.held
  pub len : pen.len ≡ length m.body
  pub seen : medium.seen ≡ (draft_head gate m ++ written) ++ rest
  pub place : pen.at ≡ length (draft_head gate m ++ written)

-- some message is being written behind the closed gate
pub record IsFilling (pen : Pen) (medium : Medium) : Type 0 where
  pub shut : IsShut medium
  pub m : Mail
  pub draft : IsDraft m pen medium

-- ---- a message that stands

-- the bytes as read are the only image, and are read so
pub record IsSettled (reading : Reading) (m : Medium) : Type 0 where
  pub clean : m ≡ settled m.seen
  pub sound : IsImage m m.seen
  pub read : reads m.seen ≡ reading

-- what a file has beside its gate, its second byte and its message: the version's digit, the marks, and what follows the
-- body
pub record Frame : Type 0 where
  pub version : ℕ
  pub marks : List ℕ
  pub after : List ℕ

abbrev pub framed : ℕ → ℕ → Mail → Frame → List ℕ
framed gate aside m frame = slot_bytes frame.version gate aside frame.marks m ++ frame.after

-- so does one, with this gate and this second byte, in either version and whatever the marks and what follows the body
pub record IsStanding (gate aside : ℕ) (m : Mail) (medium : Medium) : Type 0 where
  pub frame : Frame
  pub clean : medium ≡ settled medium.seen
  pub sound : IsImage medium medium.seen
  pub are_marks : AreMarks frame.version (length m.rcpts) frame.marks
  pub mail : IsMail m
  pub seen : medium.seen ≡ framed gate aside m frame

-- some message, whole
pub record IsFull (medium : Medium) : Type 0 where
  pub m : Mail
  pub settled_as : IsSettled (Whole m) medium

-- some message, set aside
pub record IsAside (medium : Medium) : Type 0 where
  pub m : Mail
  pub settled_as : IsSettled (Aside m) medium
