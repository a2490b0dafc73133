-- The names of hosts, as a hosts file has them: lines of an address and names, with comments behind `#`.
use Rattle.std.specs.Prelude.{ℕ, ◌==◌, Bool, not, List, [], ◌∷◌, take, Option, Some, None, if◌then◌else◌}
use Rattle.std.specs.List.{prefix_len, slice_split}
use Rattle.std.specs.Str.{bytes_eq}
use Rattle.authsrv_lines.specs.Words.{words}
use Rattle.fw_types.specs.HostName.{host_name_of}
use Rattle.fw_types.specs.Quad.{quad_of}

abbrev pub is_lf : ℕ → Bool
is_lf b = b == 10

abbrev pub is_no_hash : ℕ → Bool
is_no_hash b = not (b == 35)

-- what stands before the comment
abbrev pub before_hash : List ℕ → List ℕ
before_hash line = take (prefix_len is_no_hash line) line

-- the name, where it stands beside this address
abbrev pub name_if : List ℕ → Option (List ℕ) → Option (List ℕ) → Option (List ℕ)
name_if host None name = None
name_if host (Some found) name = if bytes_eq found host then name else None

-- the first name behind the address
abbrev pub named : List ℕ → List (List ℕ) → Option (List ℕ)
named host (quad ∷ name ∷ more) = name_if host (quad_of quad) (host_name_of name)
named host _ = None

-- the name that a line gives an address
abbrev pub line_name : List ℕ → List ℕ → Option (List ℕ)
line_name host line = named host (words (before_hash line))

abbrev pub either : Option (List ℕ) → Option (List ℕ) → Option (List ℕ)
either (Some name) later = Some name
either None later = later

-- the name that the first line which gives one gives
abbrev pub first_name : List ℕ → List (List ℕ) → Option (List ℕ)
first_name host [] = None
first_name host (line ∷ lines) = either (line_name host line) (first_name host lines)

-- the name of the host at an address
unfoldable pub name_in : List ℕ → List ℕ → Option (List ℕ)
name_in host text = first_name host (slice_split is_lf text)
