-- A reader of replies (RFC 959, 4.2), which is fed byte by byte.
use Rattle.std.specs.Prelude.{◌≡◌, ℕ, nat_le, List, [], length, Option, Some, None, if◌then◌else◌}
use Rattle.ftp_lines.specs.declared.reply_step.ReplyStep.{ReplyStep}
use Rattle.ftp_lines.specs.declared.reply_step.ReplyStep.TheVariants.{More, Line, Last}

-- the bytes that were fed since the reply began, and the line that the last byte ended, where that isn't too long
pub record ReplyReaderView : Type 0 where
  pub fed : List ℕ
  pub heard : Option (List ℕ)

-- a line of at most 512 bytes
abbrev pub short : List ℕ → Option (List ℕ)
short line = if nat_le (length line) 512 then Some line else None

-- what an LF ends, by the first reply of the bytes up to it
abbrev pub step_of : Option (ℕ × ℕ) → ReplyStep
step_of None = Line
step_of (Some reply) = Last reply.1

-- what the next reply has of the bytes up to here
abbrev pub fed_after : ReplyStep → List ℕ → List ℕ
fed_after (Last code) fed = []
fed_after _ fed = fed

-- where a reply ends, its bytes and its code are so
abbrev pub IsReplyStep : ReplyStep → Option (ℕ × ℕ) → ℕ → Type 0
IsReplyStep (Last code) reply count = reply ≡ Some (count, code)
IsReplyStep Line reply count = reply ≡ None
IsReplyStep More reply count = reply ≡ None
