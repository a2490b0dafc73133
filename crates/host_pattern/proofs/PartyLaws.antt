-- Which kinds of body need what of a party.
use Rattle.std.proofs.Common.{◌≡◌, ℕ, List, [], ◌∷◌, true, false, ◌||◌, ◌==◌, None, IsTrue, refl, arith}
use Rattle.std.proofs.lemmas.Bool.{and_parts, and_left, or_right, both_ways, false_from_ne_true}
use Rattle.std.proofs.lemmas.Bool.Decides.{nat_tests}
use Rattle.std.specs.Char.{to_ascii_lowercase}
use Rattle.fw_types.specs.HostName.{is_address_byte}
use Rattle.fw_types.specs.declared.peer.Peer.{Peer}
use Rattle.host_pattern.specs.Mask.{has_colon}
use Rattle.host_pattern.specs.Party.{is_unknown, is_stars, is_for_addresses, body_matches}

-- stars are for addresses, too
pub stars_for_addresses : (body : List ℕ) → IsTrue (is_stars body) → is_for_addresses body ≡ true
stars_for_addresses [] h = refl
stars_for_addresses (b ∷ body) h =
    let parts = and_parts _ _ h in
    rw (or_right (is_address_byte b) (b == 42) parts.0, stars_for_addresses body parts.1) refl

no_u : (b : ℕ) → (is_address_byte b || b == 42) ≡ true → (to_ascii_lowercase b == 117) ≡ false
no_u b h = grind (arith, nat_tests)

-- and no such body is `unknown`
pub known : (body : List ℕ) → IsTrue (is_for_addresses body) → is_unknown body ≡ false
known [] h = refl
known (b ∷ body) h = and_left _ _ (no_u b (and_parts _ _ h).0)

pub everyone : (body : List ℕ) (party : Peer) → IsTrue (is_stars body) → IsTrue (body_matches body party)
unfolding body_matches
everyone body party h = rw (known body (stars_for_addresses body h), h) refl

pub names : (body : List ℕ) (party : Peer) → is_unknown body ≡ false → is_for_addresses body ≡ false → has_colon body ≡ false → party.name ≡ None → body_matches body party ≡ false
unfolding body_matches
names body party u a m n =
    let s : is_stars body ≡ false = false_from_ne_true (is_stars body) (λ h. both_ways _ a (stars_for_addresses body h)) in
    rw (u, s, a, m, n) refl

pub addresses : (body : List ℕ) (party : Peer) → IsTrue (is_for_addresses body) → is_stars body ≡ false → party.addr ≡ None → body_matches body party ≡ false
unfolding body_matches
addresses body party a s n = rw (known body a, s, a, n) refl
