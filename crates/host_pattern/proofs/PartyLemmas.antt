-- A body for addresses has no letters, so lower case is no other text.
use Rattle.std.proofs.Common.{◌≡◌, ℕ, List, [], ◌∷◌, true, ◌||◌, ◌==◌, IsTrue, refl, arith}
use Rattle.std.proofs.lemmas.Bool.{and_parts}
use Rattle.std.proofs.lemmas.Bool.Decides.{nat_tests}
use Rattle.std.specs.Char.{to_ascii_lowercase}
use Rattle.std.specs.Str.{str_to_ascii_lowercase}
use Rattle.fw_types.specs.HostName.{is_address_byte}
use Rattle.host_pattern.specs.Party.{is_for_addresses}

no_letter : (b : ℕ) → (is_address_byte b || b == 42) ≡ true → to_ascii_lowercase b ≡ b
no_letter b h = grind (arith, nat_tests)

pub addresses_are_low : (body : List ℕ) → IsTrue (is_for_addresses body) → str_to_ascii_lowercase body ≡ body
addresses_are_low [] h = refl
addresses_are_low (b ∷ body) h =
    let parts = and_parts _ _ h in
    rw (no_letter b parts.0, addresses_are_low body parts.1) refl
