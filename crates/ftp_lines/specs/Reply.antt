-- Replies of a server of the File Transfer Protocol, in the whole text that it sends (RFC 959, 4.2). Other than
-- there, a line of three digits alone ends a reply, too.
use Rattle.std.specs.Prelude.{ℕ, ◌≡◌, ◌+◌, ◌<◌, ◌≤◌, Bool, ◌&&◌, ◌||◌, ◌==◌, not, nat_le, List, [], ◌∷◌, ◌++◌, length, take, slice_index, Option, Some, None, if◌then◌else◌}
use Rattle.std.specs.Char.{is_ascii_digit}
use Rattle.std.specs.List.{find, list_all, slice_split, sum_by, take_while}
use Rattle.std.specs.Str.Lines.{strip_carriage_return}
use Rattle.std.specs.Str.Parse.{digits_value}
use Rattle.fw_outside.specs.Lines.{is_lf}

-- of the parts between LFs, those that an LF ends, and the last one, which none ends
abbrev pub ended : List (List ℕ) → List (List ℕ)
ended [] = []
ended (last ∷ []) = []
ended (part ∷ next ∷ more) = part ∷ ended (next ∷ more)

abbrev pub unended : List (List ℕ) → List ℕ
unended [] = []
unended (last ∷ []) = last
unended (part ∷ next ∷ more) = unended (next ∷ more)

abbrev pub ended_parts : List ℕ → List (List ℕ)
ended_parts text = ended (slice_split is_lf text)

abbrev pub unended_part : List ℕ → List ℕ
unended_part text = unended (slice_split is_lf text)

-- the line that a part before an LF is: one CR before the LF is no part of it
abbrev pub without_end : List ℕ → List ℕ
without_end part = strip_carriage_return part

-- a line that begins with three digits, and their number
abbrev pub has_code : List ℕ → Bool
has_code line = nat_le 3 (length line) && list_all is_ascii_digit (take 3 line)

abbrev pub code_of : List ℕ → ℕ
code_of line = digits_value 10 (take 3 line)

-- three digits, and then a space or the line's end
abbrev pub is_closing : List ℕ → Bool
is_closing line = has_code line && (length line == 3 || slice_index line 3 == 32)

-- the code of a line with three digits and then a hyphen
abbrev pub opening_code : List ℕ → Option ℕ
opening_code line = if has_code line && slice_index line 3 == 45 then Some (code_of line) else None

-- the code with which a reply's first line says that more lines follow
abbrev pub opened : List (List ℕ) → Option ℕ
opened [] = None
opened (first ∷ more) = opening_code (without_end first)

-- the code that a line tells: three digits, and then a space, its end or a hyphen
abbrev pub told_code : List ℕ → Option ℕ
told_code line = if is_closing line then Some (code_of line) else opening_code line

-- the code that the first bytes of a line tell, however it goes on: three digits, and then a space or a hyphen
abbrev pub front_code : List ℕ → Option ℕ
front_code front = if nat_le 4 (length front) then told_code front else None

-- the code of a reply that the line with these first bytes ends, however it goes on: three digits, and then a space
abbrev pub ending_code : List ℕ → Option ℕ
ending_code front = if nat_le 4 (length front) && is_closing front then Some (code_of front) else None

-- the code that the first of these lines tells; without one, that of the bytes that no LF has ended yet
abbrev pub first_code_in : List (List ℕ) → List ℕ → Option ℕ
first_code_in [] front = front_code front
first_code_in (first ∷ more) front = told_code (without_end first)

-- the code that the first line of a text tells, as soon as its bytes tell one
unfoldable pub first_code : List ℕ → Option ℕ
first_code text = first_code_in (ended_parts text) (unended_part text)

-- whether a line ends a reply whose first line is so
abbrev pub ends_reply : Option ℕ → List ℕ → Bool
ends_reply None line = is_closing line
ends_reply (Some code) line = is_closing line && code_of line == code

-- the length of lines with their ends
abbrev pub size : List (List ℕ) → ℕ
size parts = sum_by (λ part. length part + 1) parts

-- the length and the code of a reply of these lines, of which the last one ends it
abbrev pub measured : List (List ℕ) → Option (List ℕ) → Option (ℕ × ℕ)
measured before None = None
measured before (Some last) = Some (size (before ++ last ∷ []), code_of (without_end last))

-- the lines up to the first one that ends the reply
abbrev pub first_of_lines : (List ℕ → Bool) → List (List ℕ) → Option (ℕ × ℕ)
first_of_lines ends parts = measured (take_while (λ part. not (ends part)) parts) (find ends parts)

abbrev pub reply_in : List (List ℕ) → Option (ℕ × ℕ)
reply_in parts = first_of_lines (λ part. ends_reply (opened parts) (without_end part)) parts

-- how many bytes of a text its first reply takes, and the code of that reply; nothing where none has ended
unfoldable pub first_reply : List ℕ → Option (ℕ × ℕ)
first_reply text = reply_in (ended_parts text)

-- the first reply of a text is its first bytes, whatever follows them, and no fewer bytes are a reply
pub record IsFirst (text : List ℕ) (count code : ℕ) : Type 0 where
  pub within : count ≤ length text
  pub alone : first_reply (take count text) ≡ Some (count, code)
  pub least : (at : ℕ) → at < count → first_reply (take at text) ≡ None
