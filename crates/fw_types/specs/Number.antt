-- Decimal numbers: 1 to 10 digits without a sign. Leading zeros are allowed.
use Rattle.std.specs.Prelude.{ℕ, Bool, ◌&&◌, nat_le, nat_lt, List, length, Option, Some, None, if◌then◌else◌}
use Rattle.std.specs.Char.{is_ascii_digit}
use Rattle.std.specs.List.{list_all}
use Rattle.std.specs.Str.Parse.{digits_value}

abbrev pub is_number : List ℕ → Bool
is_number text = nat_lt 0 (length text) && nat_le (length text) 10 && list_all is_ascii_digit text

-- the number that the text is
abbrev pub number_of : List ℕ → Option ℕ
number_of text = if is_number text then Some (digits_value 10 text) else None

-- a number from the lowest to the highest, both included
abbrev pub in_range : ℕ → ℕ → Option ℕ → Option ℕ
in_range lowest highest None = None
in_range lowest highest (Some n) = if nat_le lowest n && nat_le n highest then Some n else None
