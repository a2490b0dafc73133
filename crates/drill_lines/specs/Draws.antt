-- The numbers that are drawn, the lines of a table and the peers that they make.
use Rattle.std.specs.Prelude.{ℕ, zero, suc, ◌+◌, ◌*◌, ◌/◌, ◌%◌, ◌==◌, List, [], ◌∷◌, ◌++◌, Some, None, codes, if◌then◌else◌}
use Rattle.std.specs.Fmt.{decimal}
use Rattle.fw_types.specs.declared.peer.Peer.{Peer}

-- the number after this one, of 31 bits
abbrev pub next_number : ℕ → ℕ
next_number x = (x * 1103515245 + 12345) % 2147483648

-- so many draws, from a number on: each has the highest 15 bits of the number after the last one
abbrev pub draws : ℕ → ℕ → List ℕ
draws zero x = []
draws (suc n) x = (next_number x / 65536) ∷ draws n (next_number x)

-- an even draw permits, an odd one denies
abbrev pub attribute_text : ℕ → List ℕ
attribute_text p = if p % 2 == 0 then codes "permit-hosts" else codes "deny-hosts"

-- three draws make a line of `tn-gw` over the addresses that begin with 10 to 13, and then with 0 to 7
abbrev pub line_text : ℕ → ℕ → ℕ → List ℕ
line_text p q s = codes "tn-gw: " ++ attribute_text p ++ codes " " ++ decimal (10 + q % 4) ++ codes "." ++ decimal (s % 8) ++ codes ".*\n"

-- the lines of all draws, three for each
abbrev pub lines_text : List ℕ → List ℕ
lines_text (p ∷ q ∷ s ∷ more) = line_text p q s ++ lines_text more
lines_text _ = []

-- two draws make a peer without a name, at an address that such a line may name
abbrev pub peer_at : ℕ → ℕ → Peer
peer_at q s = record { addr = Some ((10 + q % 4) ∷ (s % 8) ∷ 0 ∷ 1 ∷ []); name = None }

-- the peers of all draws, two for each
abbrev pub peers_of : List ℕ → List Peer
peers_of (q ∷ s ∷ more) = peer_at q s ∷ peers_of more
peers_of _ = []
