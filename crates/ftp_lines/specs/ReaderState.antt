-- What a reader of replies keeps, by the bytes that it was fed since the reply began.
use Rattle.std.specs.Prelude.{◌≡◌, ℕ, List, take, None}
use Rattle.ftp_lines.specs.declared.opening.Opening.{Opening}
use Rattle.ftp_lines.specs.ReplyLineView.{ReplyLineView, going, most_kept}
use Rattle.ftp_lines.specs.Opening.{opening_of}
use Rattle.ftp_lines.specs.Reply.{ended_parts, first_reply, unended_part}

pub record IsReaderState (fed : List ℕ) (opening : Opening) (line : ReplyLineView) : Type 0 where
  pub tail : going line.kept line.ended ≡ take most_kept (unended_part fed)
  pub opens : opening ≡ opening_of (ended_parts fed)
  pub going_on : first_reply fed ≡ None
