-- Long names of users, and seeds of one-time passwords.
use Rattle.std.specs.Prelude.{ℕ, Bool, ◌&&◌, ◌||◌, nat_le, nat_lt, List, length, Option, Some, None, if◌then◌else◌}
use Rattle.std.specs.List.{list_all}
use Rattle.std.specs.Char.{is_ascii_lowercase, is_ascii_digit, is_ascii_alphanumeric}
use Rattle.std.specs.Str.{str_to_ascii_lowercase}

-- a byte from the space to `~`
abbrev pub is_printable : ℕ → Bool
is_printable b = nat_le 32 b && nat_le b 126

-- at most 64 of them
abbrev pub is_long_name : List ℕ → Bool
is_long_name text = nat_le (length text) 64 && list_all is_printable text

-- the long name that a text is
abbrev pub long_name_of : List ℕ → Option (List ℕ)
long_name_of text = if is_long_name text then Some text else None

-- a lower-case letter or a digit
abbrev pub is_seed_byte : ℕ → Bool
is_seed_byte b = is_ascii_lowercase b || is_ascii_digit b

-- 1 to 16 of them (RFC 2289, 6.0)
abbrev pub is_seed : List ℕ → Bool
is_seed text = nat_lt 0 (length text) && nat_le (length text) 16 && list_all is_seed_byte text

-- 1 to 16 letters and digits, in any case
abbrev pub is_seed_text : List ℕ → Bool
is_seed_text text = nat_lt 0 (length text) && nat_le (length text) 16 && list_all is_ascii_alphanumeric text

-- the seed that a text is: a seed is kept in lower case (RFC 2289, 6.0)
abbrev pub seed_of : List ℕ → Option (List ℕ)
seed_of text = if is_seed_text text then Some (str_to_ascii_lowercase text) else None
