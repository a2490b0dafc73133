-- Six decimal numbers, which are an address and a port (RFC 959, 4.1.2, PORT and PASV; 5.3.2, where a number is 1 to 255:
-- here it may be 0, as servers send it).
use Rattle.std.specs.Prelude.{◌≡◌, ℕ, ◌+◌, ◌*◌, ◌/◌, ◌%◌, ◌<◌, Bool, true, false, ◌&&◌, ◌==◌, not, nat_le, All, List, [], ◌∷◌, ◌++◌, length, drop, map, slice_index, Option, Some, None, if◌then◌else◌}
use Rattle.std.specs.Char.{is_ascii_digit}
use Rattle.std.specs.Fmt.{decimal}
use Rattle.std.specs.List.{join_with_byte, slice_split, take_while}
use Rattle.fw_types.specs.Number.{in_range, number_of}

abbrev pub is_comma : ℕ → Bool
is_comma b = b == 44

-- the number from 0 to 255 that a text of one to three digits is
abbrev pub octet_in : List ℕ → Option ℕ
octet_in text = if nat_le (length text) 3 then in_range 0 255 (number_of text) else None

-- four bytes of an address, and two bytes of a port, the greatest first
abbrev pub six_octets : Option ℕ → Option ℕ → Option ℕ → Option ℕ → Option ℕ → Option ℕ → Option (List ℕ × ℕ)
six_octets (Some a) (Some b) (Some c) (Some d) (Some e) (Some f) = Some (a ∷ b ∷ c ∷ d ∷ [], e * 256 + f)
six_octets _ _ _ _ _ _ = None

abbrev pub six_parts : List (List ℕ) → Option (List ℕ × ℕ)
six_parts (a ∷ b ∷ c ∷ d ∷ e ∷ f ∷ []) = six_octets (octet_in a) (octet_in b) (octet_in c) (octet_in d) (octet_in e) (octet_in f)
six_parts _ = None

-- the address and the port that a text is: six numbers with commas between
unfoldable pub six_of : List ℕ → Option (List ℕ × ℕ)
six_of text = six_parts (slice_split is_comma text)

-- the digits at the beginning of a text
abbrev pub run_of : List ℕ → List ℕ
run_of text = take_while is_ascii_digit text

-- the same, where something may stand behind the digits of the sixth number
abbrev pub six_first_parts : List (List ℕ) → Option (List ℕ × ℕ)
six_first_parts (a ∷ b ∷ c ∷ d ∷ e ∷ f ∷ more) = six_octets (octet_in a) (octet_in b) (octet_in c) (octet_in d) (octet_in e) (octet_in (run_of f))
six_first_parts _ = None

-- the address and the port with which a text begins: each number has all digits that stand there
unfoldable pub six_at : List ℕ → Option (List ℕ × ℕ)
six_at text = six_first_parts (slice_split is_comma text)

abbrev pub or_else : Option (List ℕ × ℕ) → Option (List ℕ × ℕ) → Option (List ℕ × ℕ)
or_else (Some six) later = Some six
or_else None later = later

-- those at the leftmost place of a text at which six numbers begin
abbrev pub find_of : List ℕ → Option (List ℕ × ℕ)
find_of [] = None
find_of (b ∷ bs) = or_else (six_at (b ∷ bs)) (find_of bs)

-- the text of an address and a port
unfoldable pub six_text : List ℕ → ℕ → List ℕ
six_text addr port = join_with_byte 44 (map decimal (addr ++ port / 256 ∷ port % 256 ∷ []))

-- four bytes of an address, and a port
pub record AreSix (addr : List ℕ) (port : ℕ) : Type 0 where
  pub four : length addr ≡ 4
  pub bytes : All (λ b. b < 256) addr
  pub small : port < 65536

-- a text from which no number reaches beyond its end: none of its digits stands at its end or before a comma
abbrev pub is_quiet : List ℕ → Bool
is_quiet [] = true
is_quiet (b ∷ []) = not (is_ascii_digit b)
is_quiet (b ∷ c ∷ more) = not (is_ascii_digit b && is_comma c) && is_quiet (c ∷ more)

-- no digit stands first
abbrev pub IsBeyond : List ℕ → Type 0
IsBeyond text = is_ascii_digit (slice_index text 0) ≡ false

-- no six numbers begin in a text before what follows it
abbrev pub IsPassed : List ℕ → List ℕ → Type 0
IsPassed before rest = (at : ℕ) → at < length before → six_at (drop at (before ++ rest)) ≡ None

-- a text that begins with six numbers, each of which has all digits that stand there
pub record IsLeadingSix (text : List ℕ) (six : List ℕ × ℕ) : Type 0 where
  pub numbers : List ℕ
  pub rest : List ℕ
  pub whole : text ≡ numbers ++ rest
  pub is : six_of numbers ≡ Some six
  pub beyond : IsBeyond rest

-- the leftmost place of a text at which six numbers begin
pub record IsLeftmostSix (text : List ℕ) (six : List ℕ × ℕ) : Type 0 where
  pub at : ℕ
  pub within : at < length text
  pub here : six_at (drop at text) ≡ Some six
  pub none_before : (place : ℕ) → place < at → six_at (drop place text) ≡ None
