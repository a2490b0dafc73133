-- How a reader of replies keeps a line: enough of it to tell its code, and whether it is too long.
use Rattle.std.specs.Prelude.{ℕ, Bool, true, false, List, [], Option, None}
use Rattle.ftp_lines.specs.ReplyReaderView.{short}
use Rattle.ftp_lines.specs.Reply.{without_end}

-- one byte more than the longest line and its CR
abbrev pub most_kept : ℕ
most_kept = 514

-- the bytes that are kept, and whether the last byte ended their line
pub record ReplyLineView : Type 0 where
  pub kept : List ℕ
  pub ended : Bool

-- the bytes of the line that goes on
abbrev pub going : List ℕ → Bool → List ℕ
going kept true = []
going kept false = kept

-- the line that has just ended
abbrev pub heard_of : List ℕ → Bool → Option (List ℕ)
heard_of kept true = short (without_end kept)
heard_of kept false = None
