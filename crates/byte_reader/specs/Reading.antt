-- Reading from left to right. A reader answers what it read and the bytes after it. Where it can't, it answers how many
-- bytes there are from the first bad one on, which is 0 where the bytes end too early.
use Rattle.std.specs.Prelude.{◌≡◌, ℕ, ◌+◌, ◌-◌, ◌*◌, ◌/◌, ◌%◌, ◌<◌, Bool, ◌&&◌, ◌==◌, nat_le, nat_lt, List, [], ◌∷◌, length, take, drop, Result, Ok, Err, if◌then◌else◌}
use Rattle.std.specs.Int.{w64, from_be_bytes}
use Rattle.std.specs.List.{AllByRecursion, prefix_len}
use Rattle.byte_reader.specs.declared.stop.Stop.{Stop}

abbrev pub IsBytes : List ℕ → Type 0
IsBytes bytes = AllByRecursion (λ b. b < 256) bytes

abbrev pub Read : Type 0 → Type 0
Read A = Result (A × List ℕ) ℕ

infixl 10 ◌>>=◌
abbrev pub ◌>>=◌ : {A B : Type 0} → Result A ℕ → (A → Result B ℕ) → Result B ℕ
(Ok x) >>= f = f x
(Err left) >>= f = Err left

-- a byte from the least to the most
abbrev pub byte_at : ℕ → ℕ → List ℕ → Read ℕ
byte_at least most [] = Err 0
byte_at least most (b ∷ rest) = if nat_le least b && nat_le b most then Ok (b, rest) else Err (length rest + 1)

-- n bytes that each pass a test
abbrev pub text_at : (ℕ → Bool) → ℕ → List ℕ → Read (List ℕ)
text_at test n bytes = if nat_lt (prefix_len test bytes) n then Err (length bytes - prefix_len test bytes) else Ok (take n bytes, drop n bytes)

-- n bytes
abbrev pub bytes_at : ℕ → List ℕ → Read (List ℕ)
bytes_at n bytes = if nat_lt (length bytes) n then Err 0 else Ok (take n bytes, drop n bytes)

-- the least and the most that a number's second byte can be, behind a first byte
abbrev pub second_least : ℕ → ℕ → ℕ
second_least least first = if first == least / 256 then least % 256 else 0

abbrev pub second_most : ℕ → ℕ → ℕ
second_most most first = if first == most / 256 then most % 256 else 255

-- a number from the least to the most in two bytes, the greater first
unfoldable pub short_at : ℕ → ℕ → List ℕ → Read ℕ
short_at least most bytes = do
  first ← byte_at (least / 256) (most / 256) bytes
  second ← byte_at (second_least least first.0) (second_most most first.0) first.1
  Ok (256 * first.0 + second.0, second.1)

-- eight bytes as a number, the greatest first
unfoldable pub long_number_at : List ℕ → Read ℕ
long_number_at bytes = do
  eight ← bytes_at 8 bytes
  Ok (from_be_bytes w64 eight.0, eight.1)

-- a text behind its length in one byte, from the least length to the most; which bytes may stand in it may depend on
-- the length
unfoldable pub counted_at : ℕ → ℕ → (ℕ → ℕ → Bool) → List ℕ → Read (List ℕ)
counted_at least most test bytes = do
  n ← byte_at least most bytes
  text_at (test n.0) n.0 n.1

-- what a function returned is what reading gives, seen by a view of what was read
abbrev pub IsReadAs : {X Y : Type 0} → (X → Y) → Result X Stop → Result Y ℕ → Type 0
IsReadAs view (Ok x) read = read ≡ Ok (view x)
IsReadAs view (Err stop) read = read ≡ Err stop.left
