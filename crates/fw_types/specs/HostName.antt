-- Names of hosts.
use Rattle.std.specs.Prelude.{ℕ, Bool, ◌&&◌, ◌||◌, ◌==◌, not, nat_le, nat_lt, List, length, Option, Some, None, if◌then◌else◌}
use Rattle.std.specs.List.{list_all}
use Rattle.std.specs.Char.{is_ascii_digit}
use Rattle.std.specs.Str.{str_to_ascii_lowercase}
use Rattle.fw_types.specs.Bytes.{is_name_byte}

-- a digit or a period, of which addresses are made
abbrev pub is_address_byte : ℕ → Bool
is_address_byte b = is_ascii_digit b || b == 46

-- 1 to 255 letters, digits, periods, dashes and underscores, but not digits and periods alone
abbrev pub is_host_name : List ℕ → Bool
is_host_name text = nat_lt 0 (length text) && nat_le (length text) 255 && list_all is_name_byte text && not (list_all is_address_byte text)

-- the name that the text is, in lower case
abbrev pub host_name_of : List ℕ → Option (List ℕ)
host_name_of text = if is_host_name text then Some (str_to_ascii_lowercase text) else None
