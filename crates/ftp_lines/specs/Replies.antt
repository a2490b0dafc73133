-- The replies of a whole text, one behind the other (RFC 959, 4.2).
use Rattle.std.specs.Prelude.{ℕ, zero, suc, List, [], ◌∷◌, length, take, drop, Option, Some, None}
use Rattle.ftp_lines.specs.Reply.{first_reply}

-- the bytes of a reply, with the end of its last line, and its code
pub record ReplyText : Type 0 where
  pub bytes : List ℕ
  pub code : ℕ

-- the first reply of a text, if one has ended, and those behind it
abbrev pub replies_from : (List ℕ → List ReplyText) → List ℕ → Option (ℕ × ℕ) → List ReplyText
replies_from behind text None = []
replies_from behind text (Some reply) =
    record { bytes = take reply.0 text; code = reply.1 } ∷ behind (drop reply.0 text)

-- at most so many of the replies of a text
unfoldable pub replies_within : ℕ → List ℕ → List ReplyText
replies_within zero text = []
replies_within (suc n) text = replies_from (replies_within n) text (first_reply text)

-- the replies of a text, of which there are no more than bytes
unfoldable pub replies_of : List ℕ → List ReplyText
replies_of text = replies_within (length text) text
