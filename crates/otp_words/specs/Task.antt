-- What the calculator of passwords is asked (RFC 2289, 6.0): two lines of its input, a challenge and a pass phrase.
use Rattle.std.specs.Prelude.{ℕ, Bool, ◌&&◌, nat_lt, nat_le, List, length, Option, Some, None, if◌then◌else◌}
use Rattle.fw_outside.specs.Lines.{first_line}
use Rattle.otp_md5.specs.Passwords.{password}
use Rattle.otp_words.specs.Challenge.{challenge_of}

-- 1 to 255 bytes
abbrev pub is_phrase : List ℕ → Bool
is_phrase line = nat_lt 0 (length line) && nat_le (length line) 255

-- the password for a challenge and a pass phrase
abbrev pub password_for : Option (ℕ × List ℕ) → Option (List ℕ × List ℕ) → Option ℕ
password_for (Some asked) (Some line) = if is_phrase line.0 then Some (password asked.1 line.0 asked.0) else None
password_for _ _ = None

-- the challenge stands in a line of at most 512 bytes, and the pass phrase in the next
abbrev pub password_after : Option (List ℕ × List ℕ) → Option ℕ
password_after (Some line) = if nat_le (length line.0) 512 then password_for (challenge_of line.0) (first_line line.1) else None
password_after None = None

-- The password that a text asks for. Each of its two lines ends at LF, and one CR before it is dropped; a rest without LF is no
-- line; what follows the second is ignored. Kept by `hear_password`.
unfoldable pub password_asked : List ℕ → Option ℕ
password_asked text = password_after (first_line text)
