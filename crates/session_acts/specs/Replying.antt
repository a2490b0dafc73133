-- A server's reply: what is a whole one, and what the client is given of it.
use Rattle.std.specs.Prelude.{◌≡◌, ℕ, ◌≤◌, ◌/◌, ◌==◌, Bool, List, [], ◌∷◌, ◌++◌, length, Option, Some, None, if◌then◌else◌}
use Rattle.ftp_lines.specs.Reply.{ended_parts, ending_code, first_code, first_reply, unended_part, without_end}
use Rattle.ftp_lines.specs.ReplyReaderView.{short}
use Rattle.ftp_lines.specs.Six.{find_of}
use Rattle.session_acts.specs.declared.replied.Replied.{Replied}
use Rattle.session_acts.specs.declared.replied.Replied.TheVariants.{Whole, Ended}
use Rattle.session_acts.specs.declared.reply_use.ReplyUse.{ReplyUse}
use Rattle.session_acts.specs.declared.reply_use.ReplyUse.TheVariants.{Passed, Dropped, Greeting}

-- ---- whole replies

-- the last of some parts
abbrev pub last_part : List (List ℕ) → List ℕ
last_part [] = []
last_part (part ∷ []) = part
last_part (part ∷ next ∷ more) = last_part (next ∷ more)

abbrev pub six_in : Option (List ℕ) → Option (List ℕ × ℕ)
six_in None = None
six_in (Some line) = find_of line

-- the address and the port that the last line of a reply tells, where it has at most 512 bytes
abbrev pub six_told : List ℕ → Option (List ℕ × ℕ)
six_told text = six_in (short (without_end (last_part (ended_parts text))))

-- a whole reply, with its code and what its last line tells; or the beginning of one
abbrev pub IsReplied : Replied → List ℕ → Type 0
IsReplied (Whole code six) text = (first_reply text ≡ Some (length text, code)) × (six ≡ six_told text)
IsReplied Ended text = first_reply text ≡ None

-- a whole reply at most, or the beginning of one: none ends before the text's last byte
pub record IsAtMostOne (text : List ℕ) : Type 0 where
  pub front : List ℕ
  pub last : List ℕ
  pub cut : text ≡ front ++ last
  pub short : length last ≤ 1
  pub unended : first_reply front ≡ None

-- ---- the greeting

-- a code that begins with 2
abbrev pub is_welcome : ℕ → Bool
is_welcome code = code / 100 == 2

-- what is passed of a text that has this code
abbrev pub unless_welcome : ℕ → List ℕ → List ℕ
unless_welcome code text = if is_welcome code then [] else text

abbrev pub reply_code : Option (ℕ × ℕ) → Option ℕ
reply_code None = None
reply_code (Some reply) = Some reply.1

-- the first of two codes that is told
abbrev pub or_code : Option ℕ → Option ℕ → Option ℕ
or_code (Some code) later = Some code
or_code None later = later

-- The code that a greeting tells, of which these bytes have come, and then this one. An LF tells that of the reply that it ends;
-- another byte that of the first line, or that of a line that will end the reply.
abbrev pub code_with : List ℕ → ℕ → Option ℕ
code_with text byte =
    if byte == 10 then reply_code (first_reply (text ++ byte ∷ [])) else or_code (first_code (text ++ byte ∷ [])) (ending_code (unended_part (text ++ byte ∷ [])))

-- what is passed once the code is told
abbrev pub said_once : Option ℕ → List ℕ → List ℕ → List ℕ
said_once (Some code) text later = unless_welcome code text
said_once None text later = later

-- of these bytes of a greeting, behind those before them
abbrev pub said_behind : List ℕ → List ℕ → List ℕ
said_behind text [] = []
said_behind text (byte ∷ rest) = said_once (code_with text byte) (unended_part text ++ byte ∷ rest) (said_behind (text ++ byte ∷ []) rest)

-- A greeting is held back up to the byte with which its code is told. From the beginning of the line in which that stands it
-- is passed, unless the code begins with 2.
unfoldable pub greeting_said : List ℕ → List ℕ
greeting_said text = said_behind [] text

-- ---- what the client is given

-- of the bytes of a reply that have come
abbrev pub said_of : ReplyUse → List ℕ → List ℕ
said_of Passed text = text
said_of Dropped text = []
said_of Greeting text = greeting_said text
