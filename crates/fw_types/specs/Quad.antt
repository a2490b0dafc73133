-- IPv4 addresses as text: four numbers from 0 to 255 in decimal without leading zeros, with periods between.
use Rattle.std.specs.Prelude.{ℕ, ◌&&◌, ◌==◌, nat_lt, List, [], ◌∷◌, map, Option, Some, None, if◌then◌else◌}
use Rattle.std.specs.List.{join_with_byte, slice_split}
use Rattle.std.specs.Fmt.{decimal}
use Rattle.std.specs.Str.{bytes_eq}
use Rattle.std.specs.Str.Parse.{digits_value}

-- the text of an address
abbrev pub dotted : List ℕ → List ℕ
dotted addr = join_with_byte 46 (map decimal addr)

-- the number below 256 whose decimal the text is
abbrev pub octet_of : List ℕ → Option ℕ
octet_of text = let n = digits_value 10 text in if nat_lt n 256 && bytes_eq text (decimal n) then Some n else None

-- four numbers, where there are four
abbrev pub four_of : Option ℕ → Option ℕ → Option ℕ → Option ℕ → Option (List ℕ)
four_of (Some a) (Some b) (Some c) (Some d) = Some (a ∷ b ∷ c ∷ d ∷ [])
four_of _ _ _ _ = None

abbrev pub four_octets : List (List ℕ) → Option (List ℕ)
four_octets (a ∷ b ∷ c ∷ d ∷ []) = four_of (octet_of a) (octet_of b) (octet_of c) (octet_of d)
four_octets _ = None

-- the address that the text is
abbrev pub quad_of : List ℕ → Option (List ℕ)
quad_of text = four_octets (slice_split (λ b. b == 46) text)
