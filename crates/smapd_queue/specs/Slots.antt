-- What a turn does to the disk of its slot.
use Rattle.std.specs.Prelude.{◌≡◌, ◌++◌, Bool, true, false, IfSome}
use Rattle.fw_disk.specs.DiskView.{DiskView}
use Rattle.fw_disk.specs.Moments.{EachImage, Now, Through}
use Rattle.fw_types.specs.declared.message.Message.{Message}
use Rattle.slot_bytes.specs.Layout.{Mail}
use Rattle.slot_bytes.specs.SlotView.{mail_view}
use Rattle.spool_law.specs.Runs.{Known, Runs}
use Rattle.spool_law.specs.World.{OfLetter, letters}
use Rattle.spool_slots.specs.Images.{HasMessageBehind, IsFreeImage, IsFreeOrWhole, IsWholeOrAside}
use Rattle.spool_slots.specs.Media.{IsFull}
use Rattle.spool_slots.specs.States.{BrokenView, FullView, IsBrokenFull, IsOnward, Keeps, KeepsAside, SlotView}
use Rattle.smapd_queue.specs.Turns.{Fate, Turn}
use Rattle.smapd_queue.specs.Turns.Fate.{Freed, NotFreed, PutAside, NotAside, PutBack, Unread}

-- ---- the message

-- the slot has a message, and it is this one, where its disk tells
abbrev pub IsItsMessage : Message → FullView → Type 0
IsItsMessage message slot = Now IsFull slot.disk × ((m : Mail) → Keeps m slot → IfSome slot.disk.told (λ _. mail_view message ≡ m))

-- ---- events of the spool

-- what is known of a slot once its message was accepted
abbrev pub accepted_in : Known → Known
accepted_in k = record { begun = k.begun; accepted = k.accepted ++ letters k.use_of; use_of = k.use_of }

-- What is known is of the slot's message. Then the message was accepted, and what was done to the disk is events after that.
abbrev pub RunsAccepted : FullView → DiskView → Type 0
RunsAccepted slot new = (k : Known) → OfLetter (λ l. Keeps l.mail slot) k.use_of → Runs k slot.disk (accepted_in k) new

-- what was done to the disk is events that leave what the slot is used for, and none is the acceptance of its message
abbrev pub RunsUnaccepted : FullView → DiskView → Type 0
RunsUnaccepted slot new = (k : Known) → Runs k slot.disk k new

-- ---- moments

-- at each moment every image is the slot's message
abbrev pub StaysWholeOrAside : FullView → DiskView → Type 0
StaysWholeOrAside slot new = (m : Mail) → Keeps m slot → Through (EachImage (IsWholeOrAside m)) slot.disk new

abbrev pub StaysFreeOrWhole : FullView → DiskView → Type 0
StaysFreeOrWhole slot new = (m : Mail) → Keeps m slot → Through (EachImage (IsFreeOrWhole m)) slot.disk new

-- at last the slot's message stands behind the first two bytes of every image
abbrev pub StandsBehind : FullView → DiskView → Type 0
StandsBehind slot new = (m : Mail) → Keeps m slot → Now (EachImage (HasMessageBehind m)) new

-- ---- what became of the slot

-- its message was accepted, and then its gate closed
pub record IsFreed (slot : FullView) (free : SlotView) : Type 0 where
  pub onward : IsOnward slot.number slot.disk free.number free.disk
  pub images_now : Now (EachImage IsFreeImage) free.disk
  pub images : StaysFreeOrWhole slot free.disk
  pub events : RunsAccepted slot free.disk

-- its message was accepted, and then its disk failed
pub record IsNotFreed (slot : FullView) (broken : BrokenView) : Type 0 where
  pub broke : IsBrokenFull slot.number slot.disk broken
  pub images : StaysFreeOrWhole slot broken.disk
  pub message : StandsBehind slot broken.disk
  pub events : RunsAccepted slot broken.disk

-- its message was refused, and then set aside
pub record IsPutAside (slot : FullView) (aside : SlotView) : Type 0 where
  pub onward : IsOnward slot.number slot.disk aside.number aside.disk
  pub keeps : (m : Mail) → Keeps m slot → KeepsAside m aside
  pub images : StaysWholeOrAside slot aside.disk
  pub events : RunsUnaccepted slot aside.disk

-- its message was refused, and then its disk failed
pub record IsNotAside (slot : FullView) (broken : BrokenView) : Type 0 where
  pub broke : IsBrokenFull slot.number slot.disk broken
  pub images : StaysWholeOrAside slot broken.disk
  pub message : StandsBehind slot broken.disk
  pub events : RunsUnaccepted slot broken.disk

-- it has a message, but its disk failed when it was read, and nothing was done to it
pub record IsUnread (slot : FullView) (broken : BrokenView) : Type 0 where
  pub full : Now IsFull slot.disk
  pub broke : IsBrokenFull slot.number slot.disk broken
  pub told : broken.disk.told ≡ slot.disk.told
  pub message : StandsBehind slot broken.disk

-- a message that was handed over is the slot's
abbrev pub IsFateOf : FullView → Fate → Type 0
IsFateOf slot (Freed message free) = IsItsMessage message slot × IsFreed slot free
IsFateOf slot (NotFreed message broken) = IsItsMessage message slot × IsNotFreed slot broken
IsFateOf slot (PutAside message aside) = IsItsMessage message slot × IsPutAside slot aside
IsFateOf slot (NotAside message broken) = IsItsMessage message slot × IsNotAside slot broken
IsFateOf slot (PutBack message) = IsItsMessage message slot
IsFateOf slot (Unread broken) = IsUnread slot broken

-- ---- after a turn

-- the disk
abbrev pub disk_by : FullView → Fate → DiskView
disk_by slot (Freed message free) = free.disk
disk_by slot (NotFreed message broken) = broken.disk
disk_by slot (PutAside message aside) = aside.disk
disk_by slot (NotAside message broken) = broken.disk
disk_by slot (PutBack message) = slot.disk
disk_by slot (Unread broken) = broken.disk

abbrev pub disk_after : Turn → DiskView
disk_after turn = disk_by turn.slot turn.fate

-- whether its message was accepted
abbrev pub is_accepted : Fate → Bool
is_accepted (Freed message free) = true
is_accepted (NotFreed message broken) = true
is_accepted _ = false

-- a slot whose message wasn't accepted has it at each moment, whole or set aside, whatever a crash leaves
abbrev pub KeepsUnaccepted : Turn → Type 0
KeepsUnaccepted turn = is_accepted turn.fate ≡ false → StaysWholeOrAside turn.slot (disk_after turn)

-- and what is done to a slot's disk is events of the spool, with the acceptance of its message first if it was accepted
abbrev pub RunsBy : FullView → Fate → Type 0
RunsBy slot (Freed message free) = RunsAccepted slot free.disk
RunsBy slot (NotFreed message broken) = RunsAccepted slot broken.disk
RunsBy slot (PutAside message aside) = RunsUnaccepted slot aside.disk
RunsBy slot (NotAside message broken) = RunsUnaccepted slot broken.disk
RunsBy slot (PutBack message) = RunsUnaccepted slot slot.disk
RunsBy slot (Unread broken) = RunsUnaccepted slot broken.disk
