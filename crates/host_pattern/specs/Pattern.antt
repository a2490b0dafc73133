-- How a pattern is written: an optional `!`, and a body. `!` is the byte 33, `*` is 42.
use Rattle.std.specs.Prelude.{ℕ, List, [], ◌∷◌, length, position, Bool, false, not, ◌&&◌, ◌||◌, ◌==◌, nat_lt, nat_le, if◌then◌else◌, Option, Some, None, Result, Ok, Err}
use Rattle.std.specs.List.{list_all}
use Rattle.fw_types.specs.Bytes.{is_name_byte}
use Rattle.host_pattern.specs.declared.fault.PatternFault.{PatternFault}
use Rattle.host_pattern.specs.declared.fault.PatternFault.TheVariants.{Empty, TooLong, BadByte, BadMask}
use Rattle.host_pattern.specs.Mask.{is_well_masked}

-- a pattern as it is written: whether it begins with `!`, and the rest
pub record Written : Type 0 where
  pub negated : Bool
  pub body : List ℕ

-- a letter, a digit, a period, a dash, an underscore, a star or a colon
abbrev pub is_body_byte : ℕ → Bool
is_body_byte b = is_name_byte b || b == 42 || b == 58

-- 1 to 255 of them, which are an address and a mask where a colon is among them
abbrev pub is_body : List ℕ → Bool
is_body body = nat_lt 0 (length body) && nat_le (length body) 255 && list_all is_body_byte body && is_well_masked body

abbrev pub begins_negated : List ℕ → Bool
begins_negated [] = false
begins_negated (b ∷ rest) = b == 33

abbrev pub body_of : List ℕ → List ℕ
body_of [] = []
body_of (b ∷ rest) = if b == 33 then rest else b ∷ rest

abbrev pub unless_bad_mask : Written → Result Written PatternFault
unless_bad_mask pattern = if is_well_masked pattern.body then Ok pattern else Err BadMask

abbrev pub unless_bad : Option ℕ → Written → Result Written PatternFault
unless_bad None pattern = unless_bad_mask pattern
unless_bad (Some at) pattern = Err (BadByte at)

abbrev pub with_body : Bool → List ℕ → Result Written PatternFault
with_body negated body =
    if length body == 0 then Err Empty
    else if nat_lt 255 (length body) then Err TooLong
    else unless_bad (position (λ b. not (is_body_byte b)) body) (record { negated = negated; body = body })

-- the pattern that a text is, or what is wrong with its body
unfoldable pub parsed : List ℕ → Result Written PatternFault
parsed text = with_body (begins_negated text) (body_of text)

-- the pattern that a text is, where it is one
abbrev pub read_as : List ℕ → Written
read_as text = record { negated = begins_negated text; body = body_of text }

-- the text of a pattern
abbrev pub written : Written → List ℕ
written pattern = if pattern.negated then 33 ∷ pattern.body else pattern.body
