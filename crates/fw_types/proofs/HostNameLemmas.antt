-- Letters put to lower case leave a host's name a host's name.
use Rattle.std.proofs.Common.{◌≡◌, ℕ, Bool, List, [], ◌∷◌, refl, arith}
use Rattle.std.specs.Char.{to_ascii_lowercase}
use Rattle.std.specs.List.{list_all}
use Rattle.std.specs.Prelude.{IsTrue}
use Rattle.std.specs.Str.{str_to_ascii_lowercase}
use Rattle.std.proofs.lemmas.Bool.Decides.{nat_tests}
use Rattle.std.proofs.lemmas.List.{length-map}
use Rattle.fw_types.specs.Bytes.{is_name_byte}
use Rattle.fw_types.specs.HostName.{is_address_byte, is_host_name}

lower_lower : (b : ℕ) → to_ascii_lowercase (to_ascii_lowercase b) ≡ to_ascii_lowercase b
lower_lower b = grind (arith, nat_tests)

lower_name_byte : (b : ℕ) → is_name_byte (to_ascii_lowercase b) ≡ is_name_byte b
lower_name_byte b = grind (arith, nat_tests)

lower_address_byte : (b : ℕ) → is_address_byte (to_ascii_lowercase b) ≡ is_address_byte b
lower_address_byte b = grind (arith, nat_tests)

-- a test that doesn't tell the cases apart passes the lower text where it passes the text
all_lower : (p : ℕ → Bool) → ((b : ℕ) → p (to_ascii_lowercase b) ≡ p b) → (t : List ℕ) → list_all p (str_to_ascii_lowercase t) ≡ list_all p t
all_lower p same [] = refl
all_lower p same (b ∷ bs) = let one = same b in let more = all_lower p same bs in cc

-- what is in lower case stays as it is
pub lower_twice : (t : List ℕ) → str_to_ascii_lowercase (str_to_ascii_lowercase t) ≡ str_to_ascii_lowercase t
lower_twice [] = refl
lower_twice (b ∷ bs) = let one = lower_lower b in let more = lower_twice bs in cc

is_host_name-lower : (t : List ℕ) → is_host_name (str_to_ascii_lowercase t) ≡ is_host_name t
is_host_name-lower t =
    let long = length-map t to_ascii_lowercase in
    let name = all_lower is_name_byte lower_name_byte t in
    let address = all_lower is_address_byte lower_address_byte t in
    rw (long, name, address) refl

pub lower_is_host_name : (t : List ℕ) → IsTrue (is_host_name t) → IsTrue (is_host_name (str_to_ascii_lowercase t))
lower_is_host_name t h = rw (is_host_name-lower t) h
