-- A text of letters and digits in lower case is a seed.
use Rattle.std.proofs.Common.{◌≡◌, ℕ, Bool, true, false, ◌&&◌, nat_lt, nat_le, List, [], ◌∷◌, length, map, refl, arith}
use Rattle.std.specs.List.{list_all}
use Rattle.std.specs.Char.{is_ascii_alphanumeric, to_ascii_lowercase}
use Rattle.std.specs.Str.{str_to_ascii_lowercase}
use Rattle.std.proofs.lemmas.Bool.Decides.{nat_tests}
use Rattle.std.proofs.lemmas.List.{length-map}
use Rattle.auth_records.specs.Texts.{is_seed_byte, is_seed, is_seed_text}

pub and_both : (a b : Bool) → (a && b) ≡ true → (a ≡ true) × (b ≡ true)
and_both true b h = (refl, h)
and_both false b h = absurd cc

pub and_all : (a b : Bool) → a ≡ true → b ≡ true → (a && b) ≡ true
and_all a b h k = rw (h, k) refl

byte_is : (c : ℕ) → is_ascii_alphanumeric c ≡ true → is_seed_byte (to_ascii_lowercase c) ≡ true
byte_is c h = grind (arith, nat_tests)

bytes_are : (text : List ℕ) → list_all is_ascii_alphanumeric text ≡ true → list_all is_seed_byte (map to_ascii_lowercase text) ≡ true
bytes_are [] h = refl
bytes_are (c ∷ text) h =
    let parts = and_both (is_ascii_alphanumeric c) (list_all is_ascii_alphanumeric text) h in
    and_all _ _ (byte_is c parts.0) (bytes_are text parts.1)

pub lower_is : (text : List ℕ) → is_seed_text text ≡ true → is_seed (str_to_ascii_lowercase text) ≡ true
lower_is text h =
    let parts = and_both (nat_lt 0 (length text) && nat_le (length text) 16) (list_all is_ascii_alphanumeric text) h in
    rw (length-map text to_ascii_lowercase) (and_all _ _ parts.0 (bytes_are text parts.1))
