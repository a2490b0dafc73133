-- A one-time password as six numbers of 11 bits (RFC 2289, 6.2).
use Rattle.std.specs.Prelude.{ℕ, zero, suc, ◌+◌, ◌*◌, ◌/◌, ◌%◌, ◌==◌, List, [], ◌∷◌, ◌++◌, sum, fold, Option, Some, None, if◌then◌else◌}

-- so many digits of a number to a base, the greatest first
unfoldable pub digits : ℕ → ℕ → ℕ → List ℕ
digits base zero number = []
digits base (suc count) number = digits base count (number / base) ++ number % base ∷ []

-- the two check bits: the two low bits of the sum of the password's 32 pairs of bits
unfoldable pub check_of : ℕ → ℕ
check_of password = sum (digits 4 32 password) % 4

-- the six numbers, greatest first, of the 66 bits that are the password's 64 and then the check bits
unfoldable pub six : ℕ → List ℕ
six password = digits 2048 6 (4 * password + check_of password)

-- the bits that numbers of 11 bits are
abbrev pub bits_of : List ℕ → ℕ
bits_of numbers = fold (λ bits number. 2048 * bits + number) 0 numbers

-- the password that six numbers are, where its check bits follow it
unfoldable pub password_of : List ℕ → Option ℕ
password_of numbers = if bits_of numbers % 4 == check_of (bits_of numbers / 4) then Some (bits_of numbers / 4) else None
