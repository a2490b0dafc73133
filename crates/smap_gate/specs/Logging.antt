-- When the log is given a line. No row is named here.
use Rattle.std.specs.Prelude.{◌≡◌, ℕ, List, [], ◌∷◌, length, Option, Some, None, Result, Ok, Err}
use Rattle.fw_types.specs.declared.peer.Peer.{Peer}
use Rattle.session_acts.specs.Acts.{Act, Outcome}
use Rattle.session_acts.specs.Acts.Act.{Deposit, Log}
use Rattle.session_acts.specs.Deeds.{Deed}
use Rattle.session_acts.specs.declared.deposited.Deposited.{Deposited}
use Rattle.session_acts.specs.declared.deposited.Deposited.TheVariants as ends
use Rattle.smap_gate.specs.LogLines.{mail_line}

-- a message that was kept has a line, with its slot, how many recipients and how many bytes
abbrev pub line_by : Peer → (rcpts : ℕ) → Deposited → Option (List ℕ)
line_by peer rcpts (ends.Kept slot bytes) = Some (mail_line peer slot rcpts bytes)
line_by peer rcpts ends.NoSlot = None
line_by peer rcpts ends.NotBegun = None
line_by peer rcpts ends.TooLarge = None
line_by peer rcpts ends.Faulted = None
line_by peer rcpts ends.Ended = None

abbrev pub line_of : {Halted : Type 0} → Peer → (rcpts : ℕ) → Result (Deposited × List ℕ) Halted → Option (List ℕ)
line_of peer rcpts (Ok answer) = line_by peer rcpts answer.0
line_of peer rcpts (Err halt) = None

-- the line that is due behind a deed
abbrev pub line_due : Peer → (act : Act) → Outcome act → Option (List ℕ)
line_due peer (Deposit sender rcpts words most) outcome = line_of peer (length rcpts) outcome
line_due peer act outcome = None

-- Where a line is due it is logged next, before anything is told or heard, and before the end; else none is logged.
abbrev pub IsDue : Act → Option (List ℕ) → Type 0
IsDue (Log text) due = due ≡ Some text
IsDue act due = due ≡ None

abbrev pub LogsDue : Peer → Option (List ℕ) → List Deed → Type 0
LogsDue peer due [] = due ≡ None
LogsDue peer due (deed ∷ deeds) = IsDue deed.act due × LogsDue peer (line_due peer deed.act deed.outcome) deeds
