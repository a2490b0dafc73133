-- The lines of a client's data (RFC 854, "THE NVT PRINTER AND KEYBOARD"): each ends at LF, CR LF or CR NUL. A CR before any
-- other byte is dropped. A rest without an end is no line.
use Rattle.std.specs.Prelude.{ℕ, ◌==◌, ◌||◌, nat_le, List, [], ◌∷◌, ◌++◌, length, map, Option, Some, None, if◌then◌else◌}
use Rattle.telnet.specs.Items.{data_of}

-- bytes at the front of the first line, if there is one
abbrev pub before : List ℕ → List (List ℕ) → List (List ℕ)
before front [] = []
before front (line ∷ lines) = (front ++ line) ∷ lines

unfoldable pub lines_of : List ℕ → List (List ℕ)
lines_of [] = []
lines_of (b ∷ []) = if b == 10 then [] ∷ [] else []
lines_of (b ∷ c ∷ rest) =
    if b == 10 then [] ∷ lines_of (c ∷ rest)
    else if b == 13 then (if c == 10 || c == 0 then [] ∷ lines_of rest else lines_of (c ∷ rest))
    else before (b ∷ []) (lines_of (c ∷ rest))

-- a line of at most 512 bytes is heard; of a longer one only that it was there
abbrev pub heard : List ℕ → Option (List ℕ)
heard line = if nat_le (length line) 512 then Some line else None

-- the lines of data, as they are heard
abbrev pub data_heard : List ℕ → List (Option (List ℕ))
data_heard bytes = map heard (lines_of bytes)

-- the lines of a client's text, as they are heard
abbrev pub lines_heard : List ℕ → List (Option (List ℕ))
lines_heard text = data_heard (data_of text)
