-- What a reader of replies knows of the lines that have ended since the reply began.
use Rattle.std.specs.Prelude.{ℕ, List, [], ◌∷◌, Option, Some, None, if◌then◌else◌}
use Rattle.ftp_lines.specs.declared.opening.Opening.{Opening}
use Rattle.ftp_lines.specs.declared.opening.Opening.TheVariants.{Unheard, Plain, Coded}
use Rattle.ftp_lines.specs.Reply.{code_of, ends_reply, front_code, without_end, opening_code}

-- the code that the reply's last line must have, where it must be that one
abbrev pub awaited : Opening → Option ℕ
awaited (Coded code) = Some code
awaited _ = None

abbrev pub opening_by : Option ℕ → Opening
opening_by None = Plain
opening_by (Some code) = Coded code

abbrev pub opening_of : List (List ℕ) → Opening
opening_of [] = Unheard
opening_of (first ∷ more) = opening_by (opening_code (without_end first))

-- the same, once a line has ended that doesn't end the reply
abbrev pub opening_behind : Opening → List ℕ → Opening
opening_behind Unheard line = opening_by (opening_code line)
opening_behind opening line = opening

-- the code of the reply that a line ends
abbrev pub closing_code : Option ℕ → List ℕ → Option ℕ
closing_code code line = if ends_reply code line then Some (code_of line) else None

-- the code that the first line tells, of which these bytes have come where it hasn't ended
abbrev pub first_code_by : Opening → List ℕ → Option ℕ
first_code_by Unheard front = front_code front
first_code_by Plain front = None
first_code_by (Coded code) front = Some code
