-- Which parties the body of a pattern matches. A party has an address, a name, both or neither.
use Rattle.std.specs.Prelude.{ℕ, List, Bool, true, false, ◌||◌, ◌==◌, if◌then◌else◌, Option, Some, None, is_none, codes}
use Rattle.std.specs.List.{list_all}
use Rattle.std.specs.Str.{bytes_eq, str_to_ascii_lowercase}
use Rattle.fw_types.specs.HostName.{is_address_byte}
use Rattle.fw_types.specs.Quad.{dotted}
use Rattle.fw_types.specs.declared.peer.Peer.{Peer}
use Rattle.host_pattern.specs.Glob.{glob}
use Rattle.host_pattern.specs.Mask.{fits_masked, has_colon, masked_of}

-- The kinds of body, of which the first that fits counts: `unknown` in any case; stars alone; digits, periods and stars;
-- an address and a mask, joined by a colon; any other body is one for names.

abbrev pub is_unknown : List ℕ → Bool
is_unknown body = bytes_eq (str_to_ascii_lowercase body) (codes "unknown")

abbrev pub is_stars : List ℕ → Bool
is_stars body = list_all (λ b. b == 42) body

abbrev pub is_for_addresses : List ℕ → Bool
is_for_addresses body = list_all (λ b. is_address_byte b || b == 42) body

-- whether there is an address, and the body globs its dotted text
abbrev pub globs_address : List ℕ → Option (List ℕ) → Bool
globs_address body None = false
globs_address body (Some addr) = glob body (dotted addr)

-- whether there is a name, and the body in lower case globs it
abbrev pub globs_name : List ℕ → Option (List ℕ) → Bool
globs_name body None = false
globs_name body (Some name) = glob (str_to_ascii_lowercase body) name

-- whether the body matches the party, by its kind. Kept by `Pattern::matches` (`answer`); body: src/party.rt.
unfoldable pub body_matches : List ℕ → Peer → Bool
body_matches body party =
    if is_unknown body then is_none party.name
    else if is_stars body then true
    else if is_for_addresses body then globs_address body party.addr
    else if has_colon body then fits_masked (masked_of body) party.addr
    else globs_name body party.name
