-- A password as four groups of four upper-case hexadecimal digits (RFC 2289, 6.0, the form of output).
use Rattle.std.specs.Prelude.{ℕ, ◌+◌, List, map, nat_lt, if◌then◌else◌}
use Rattle.std.specs.List.{join_with_byte}
use Rattle.otp_words.specs.SixWords.{digits}

-- `0` to `9`, `A` to `F`
abbrev pub hex_digit : ℕ → ℕ
hex_digit digit = if nat_lt digit 10 then 48 + digit else 55 + digit

-- four digits
abbrev pub group_of : ℕ → List ℕ
group_of number = map hex_digit (digits 16 4 number)

-- the groups, with one space between
unfoldable pub groups_of : ℕ → List ℕ
groups_of password = join_with_byte 32 (map group_of (digits 65536 4 password))
