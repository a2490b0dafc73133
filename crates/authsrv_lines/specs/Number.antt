-- Numbers in decimal, without leading zeros.
-- No public clause cites these: they say what private functions answer.
use Rattle.std.specs.Prelude.{ℕ, ◌&&◌, nat_le, List, Option, Some, None, if◌then◌else◌}
use Rattle.std.specs.Fmt.{decimal}
use Rattle.std.specs.Str.{bytes_eq}
use Rattle.std.specs.Str.Parse.{digits_value}

-- the number, where it is at most the greatest and the text is its decimal
abbrev pub if_decimal : ℕ → List ℕ → ℕ → Option ℕ
if_decimal most text n = if nat_le n most && bytes_eq text (decimal n) then Some n else None

abbrev pub checked : ℕ → List ℕ → Option ℕ → Option ℕ
checked most text None = None
checked most text (Some n) = if_decimal most text n

-- the number of at most the greatest whose decimal the text is
unfoldable pub number_up_to : ℕ → List ℕ → Option ℕ
number_up_to most text = if_decimal most text (digits_value 10 text)
