-- The count that new one-time passwords begin with.
use Rattle.std.specs.Prelude.{ℕ, ◌&&◌, nat_le, Option, Some, None, if◌then◌else◌}

-- the count that a number is
abbrev pub otp_number_of : ℕ → Option ℕ
otp_number_of n = if nat_le 1 n && nat_le n 9999 then Some n else None
