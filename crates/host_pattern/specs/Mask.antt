-- Bodies that are an address and a mask: two dotted quads joined by a colon, which is the byte 58.
use Rattle.std.specs.Prelude.{ℕ, ◌+◌, ◌==◌, ◌&&◌, ◌||◌, not, List, [], ◌∷◌, take, drop, is_some, Bool, true, false, Option, Some, None, bit_and}
use Rattle.std.specs.List.{list_any, position}
use Rattle.fw_types.specs.Quad.{quad_of}
use Rattle.host_pattern.specs.declared.mask.Masked.{Masked}

abbrev pub is_colon : ℕ → Bool
is_colon b = b == 58

abbrev pub has_colon : List ℕ → Bool
has_colon body = list_any is_colon body

-- an address and a mask, where there are both
abbrev pub joined : Option (List ℕ) → Option (List ℕ) → Option Masked
joined (Some address) (Some mask) = Some (record { address = address; mask = mask })
joined _ _ = None

-- the address that stands before the colon at a place, and the mask after it
abbrev pub masked_at : Option ℕ → List ℕ → Option Masked
masked_at None body = None
masked_at (Some at) body = joined (quad_of (take at body)) (quad_of (drop (at + 1) body))

-- the address and the mask that the body is
unfoldable pub masked_of : List ℕ → Option Masked
masked_of body = masked_at (position is_colon body) body

-- where the body has a colon, it is an address and a mask
abbrev pub is_well_masked : List ℕ → Bool
is_well_masked body = not (has_colon body) || is_some (masked_of body)

-- two octets are equal in every bit that the mask has
abbrev pub octets_agree : ℕ → ℕ → ℕ → Bool
octets_agree mask one other = bit_and one mask == bit_and other mask

-- two addresses are equal in every bit that the mask has
abbrev pub agree : List ℕ → List ℕ → List ℕ → Bool
agree (m ∷ mask) (a ∷ one) (b ∷ other) = octets_agree m a b && agree mask one other
agree [] [] [] = true
agree _ _ _ = false

-- whether there is an address, and it agrees with the masked one
abbrev pub fits_masked : Option Masked → Option (List ℕ) → Bool
fits_masked (Some masked) (Some addr) = agree masked.mask masked.address addr
fits_masked _ _ = false
