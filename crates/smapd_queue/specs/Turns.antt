-- A turn of a round: a slot that was taken with its message, and what became of that.
use Rattle.std.specs.Prelude.{ℕ, List, [], ◌∷◌, ◌++◌, Option, Some, None, codes}
use Rattle.std.specs.Fmt.{decimal}
use Rattle.fw_types.specs.declared.message.Message.{Message}
use Rattle.spool_slots.specs.States.{BrokenView, FullView, SlotView}
use Rattle.smapd_queue.specs.declared.round.Trouble.{Trouble}
use Rattle.smapd_queue.specs.declared.round.Trouble.TheVariants.{Mailer, Disk}

-- What became of the message of a slot, and that slot after it. `Freed`: it was accepted, and its slot is free. `PutAside`: it
-- was refused, and its slot is set aside. `PutBack`: its hand failed, and its slot is full, as it was. The slot is broken if
-- its disk failed: at the closing of the gate of a message that was accepted (`NotFreed`), at the setting aside of one that was
-- refused (`NotAside`), or when the message was read, so that it was handed to nobody (`Unread`).
pub data Fate : Type 0 where
  Freed : Message → SlotView → Fate
  NotFreed : Message → BrokenView → Fate
  PutAside : Message → SlotView → Fate
  NotAside : Message → BrokenView → Fate
  PutBack : Message → Fate
  Unread : BrokenView → Fate

pub record Turn : Type 0 where
  pub slot : FullView
  pub fate : Fate

-- ---- the line of the log

abbrev pub word_of : Fate → List ℕ
word_of (Freed message free) = codes "accepted"
word_of (NotFreed message broken) = codes "broken"
word_of (PutAside message aside) = codes "refused"
word_of (NotAside message broken) = codes "broken"
word_of (PutBack message) = codes "failed"
word_of (Unread broken) = codes "broken"

-- `handed slot N WORD`
abbrev pub handed_line : ℕ → List ℕ → List ℕ
handed_line number word = codes "handed slot " ++ decimal number ++ codes " " ++ word ++ codes "\n"

abbrev pub line_of : Turn → List ℕ
line_of turn = handed_line turn.slot.number (word_of turn.fate)

abbrev pub lines_of : List Turn → List ℕ
lines_of [] = []
lines_of (turn ∷ turns) = line_of turn ++ lines_of turns

-- ---- what became of the messages

-- the message that a mailer accepted, if this is so
abbrev pub accepted_by : Fate → List Message
accepted_by (Freed message free) = message ∷ []
accepted_by (NotFreed message broken) = message ∷ []
accepted_by (PutAside message aside) = []
accepted_by (NotAside message broken) = []
accepted_by (PutBack message) = []
accepted_by (Unread broken) = []

abbrev pub accepted_of : List Turn → List Message
accepted_of [] = []
accepted_of (turn ∷ turns) = accepted_by turn.fate ++ accepted_of turns

-- whether a mailer refused a message, and whether it failed
abbrev pub refused_by : Fate → ℕ
refused_by (Freed message free) = 0
refused_by (NotFreed message broken) = 0
refused_by (PutAside message aside) = 1
refused_by (NotAside message broken) = 1
refused_by (PutBack message) = 0
refused_by (Unread broken) = 0

abbrev pub failed_by : Fate → ℕ
failed_by (PutBack message) = 1
failed_by _ = 0

-- ---- where the slots are

-- each turn's slot, as it was taken
abbrev pub taken_of : List Turn → List FullView
taken_of [] = []
taken_of (turn ∷ turns) = turn.slot ∷ taken_of turns

-- the slot that is free after a turn, the one that was put back full, the one set aside, and the broken one
abbrev pub freed_by : Fate → List SlotView
freed_by (Freed message free) = free ∷ []
freed_by _ = []

abbrev pub put_back_by : FullView → Fate → List FullView
put_back_by slot (PutBack message) = slot ∷ []
put_back_by slot _ = []

abbrev pub put_aside_by : Fate → List SlotView
put_aside_by (PutAside message aside) = aside ∷ []
put_aside_by _ = []

abbrev pub broken_by : Fate → List BrokenView
broken_by (Freed message free) = []
broken_by (NotFreed message broken) = broken ∷ []
broken_by (PutAside message aside) = []
broken_by (NotAside message broken) = broken ∷ []
broken_by (PutBack message) = []
broken_by (Unread broken) = broken ∷ []

abbrev pub freed_of : List Turn → List SlotView
freed_of [] = []
freed_of (turn ∷ turns) = freed_by turn.fate ++ freed_of turns

abbrev pub put_back_of : List Turn → List FullView
put_back_of [] = []
put_back_of (turn ∷ turns) = put_back_by turn.slot turn.fate ++ put_back_of turns

abbrev pub put_aside_of : List Turn → List SlotView
put_aside_of [] = []
put_aside_of (turn ∷ turns) = put_aside_by turn.fate ++ put_aside_of turns

abbrev pub broken_of : List Turn → List BrokenView
broken_of [] = []
broken_of (turn ∷ turns) = broken_by turn.fate ++ broken_of turns

-- ---- trouble

-- the device that failed in a turn, if one did: the mailer, or the disk of the slot
abbrev pub trouble_by : ℕ → Fate → Option Trouble
trouble_by number (Freed message free) = None
trouble_by number (NotFreed message broken) = Some (Disk number)
trouble_by number (PutAside message aside) = None
trouble_by number (NotAside message broken) = Some (Disk number)
trouble_by number (PutBack message) = Some Mailer
trouble_by number (Unread broken) = Some (Disk number)

abbrev pub or_else : Option Trouble → Option Trouble → Option Trouble
or_else None other = other
or_else (Some trouble) other = Some trouble

-- that of the first turn in which one failed
abbrev pub trouble_of : List Turn → Option Trouble
trouble_of [] = None
trouble_of (turn ∷ turns) = or_else (trouble_by turn.slot.number turn.fate) (trouble_of turns)
