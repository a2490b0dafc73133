-- Destinations as parties that patterns are tested against.
use Rattle.std.specs.Prelude.{Some, None}
use Rattle.fw_types.specs.declared.dest.Dest.{Dest}
use Rattle.fw_types.specs.declared.host.Host.{Host}
use Rattle.fw_types.specs.declared.host.Host.TheVariants.{Addr, Name}
use Rattle.fw_types.specs.declared.peer.Peer.{Peer}

-- an address alone, or a name alone
abbrev pub party_at : Host → Peer
party_at (Addr addr) = record { addr = Some addr; name = None }
party_at (Name name) = record { addr = None; name = Some name }

-- the party that is asked for: its port doesn't count
abbrev pub party_of : Dest → Peer
party_of dest = party_at dest.host
