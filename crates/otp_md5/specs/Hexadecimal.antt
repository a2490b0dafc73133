-- A password as hexadecimal digits (RFC 2289, 6.0, the form of output).
use Rattle.std.specs.Prelude.{ℕ, ◌+◌, ◌*◌, Bool, ◌&&◌, ◌||◌, ◌==◌, not, List, length, filter, fold, Option, Some, None, unwrap_or, if◌then◌else◌}
use Rattle.std.specs.List.{list_all}
use Rattle.hex.specs.Hex.{hex_digit_value, is_hex_digit}

-- a space or a tab
abbrev pub is_blank : ℕ → Bool
is_blank b = b == 32 || b == 9

-- what is left of a text without its blanks
abbrev pub unblanked : List ℕ → List ℕ
unblanked text = filter (λ b. not (is_blank b)) text

-- sixteen digits, in either case
abbrev pub are_digits : List ℕ → Bool
are_digits digits = length digits == 16 && list_all is_hex_digit digits

-- the number that hexadecimal digits are, the greatest first
abbrev pub hex_number_of : List ℕ → ℕ
hex_number_of digits = fold (λ n digit. 16 * n + unwrap_or (hex_digit_value digit) 0) 0 digits

-- the password that digits are
abbrev pub hex_word_of : List ℕ → Option ℕ
hex_word_of digits = if are_digits digits then Some (hex_number_of digits) else None

-- the password that a text is
unfoldable pub read_of : List ℕ → Option ℕ
read_of text = hex_word_of (unblanked text)
