-- The items of a text and their data (RFC 854, "TELNET COMMAND STRUCTURE"; subnegotiation: RFC 855, its closing note).
-- An item is a byte below 255, which is data; IAC IAC, which is the data byte 255; IAC SB up to the IAC SE that ends it;
-- IAC with WILL, WON'T, DO or DON'T and an option's code; or IAC with any other byte. IAC is 255.
use Rattle.std.specs.Prelude.{ℕ, zero, suc, ◌==◌, Bool, true, ◌&&◌, not, nat_le, List, [], ◌∷◌, ◌++◌, length, Option, Some, None, if◌then◌else◌}

-- the data of an item, and what follows it
pub record Item : Type 0 where
  pub data_bytes : List ℕ
  pub rest : List ℕ

-- an item without data
abbrev pub no_data : List ℕ → Option Item
no_data rest = Some record { data_bytes = []; rest = rest }

-- WILL, WON'T, DO or DON'T
abbrev pub is_choice : ℕ → Bool
is_choice c = nat_le 251 c && nat_le c 254

-- behind IAC and WILL, WON'T, DO or DON'T: an option's code
abbrev pub behind_choice : List ℕ → Option Item
behind_choice [] = None
behind_choice (code ∷ rest) = no_data rest

-- behind IAC SB: up to IAC SE. IAC and the byte after it are one pair.
abbrev pub behind_begin : List ℕ → Option Item
behind_begin [] = None
behind_begin (b ∷ []) = None
behind_begin (b ∷ c ∷ rest) =
    if b == 255 then (if c == 240 then no_data rest else behind_begin rest)
    else behind_begin (c ∷ rest)

-- behind IAC
abbrev pub behind_command : List ℕ → Option Item
behind_command [] = None
behind_command (c ∷ rest) =
    if c == 255 then Some record { data_bytes = 255 ∷ []; rest = rest }
    else if c == 250 then behind_begin rest
    else if is_choice c then behind_choice rest
    else no_data rest

-- the first item of a text, or nothing where none is finished
abbrev pub first_item : List ℕ → Option Item
first_item [] = None
first_item (b ∷ rest) = if b == 255 then behind_command rest else Some record { data_bytes = b ∷ []; rest = rest }

-- the data of an item and then of what follows it
abbrev pub item_data : (List ℕ → List ℕ) → Option Item → List ℕ
item_data data_behind None = []
item_data data_behind (Some item) = item.data_bytes ++ data_behind item.rest

-- the data of so many items
unfoldable pub data_within : ℕ → List ℕ → List ℕ
data_within zero text = []
data_within (suc n) text = item_data (data_within n) (first_item text)

-- the data of a text, which has no more items than bytes
unfoldable pub data_of : List ℕ → List ℕ
data_of text = data_within (length text) text

-- a text with each 255 written twice
abbrev pub doubled : List ℕ → List ℕ
doubled [] = []
doubled (b ∷ text) = if b == 255 then 255 ∷ 255 ∷ doubled text else b ∷ doubled text

-- what may stand between the beginning and the end of a subnegotiation: bytes below 255, and pairs of 255 and a byte other than 240
abbrev pub is_inside : List ℕ → Bool
is_inside [] = true
is_inside (b ∷ []) = not (b == 255)
is_inside (b ∷ c ∷ rest) = if b == 255 then not (c == 240) && is_inside rest else is_inside (c ∷ rest)
