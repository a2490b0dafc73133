-- Who is at the other end, as the log names it.
use Rattle.std.specs.Prelude.{ℕ, List, ◌∷◌, ◌++◌, Option, Some, None, codes}
use Rattle.fw_types.specs.declared.peer.Peer.{Peer}
use Rattle.fw_types.specs.Quad.{dotted}

-- the name, or `unknown`
abbrev pub name_text : Option (List ℕ) → List ℕ
name_text (Some name) = name
name_text None = codes "unknown"

-- the dotted address, or `unknown`
abbrev pub addr_text : Option (List ℕ) → List ℕ
addr_text (Some addr) = dotted addr
addr_text None = codes "unknown"

-- the name, a slash and the address
abbrev pub peer_text : Peer → List ℕ
peer_text peer = name_text peer.name ++ 47 ∷ addr_text peer.addr
