-- A word that is a destination: `HOST:PORT`.
use Rattle.std.specs.Prelude.{ℕ, ◌+◌, ◌==◌, List, take, drop, Bool, Option, Some, None}
use Rattle.std.specs.List.{position}
use Rattle.fw_types.specs.Host.{host_of}
use Rattle.fw_types.specs.Port.{port_of}
use Rattle.fw_types.specs.declared.dest.Dest.{Dest}
use Rattle.fw_types.specs.declared.host.Host.{Host}

abbrev pub is_colon : ℕ → Bool
is_colon b = b == 58

-- a host and a port, where there are both
abbrev pub dest_of : Option Host → Option ℕ → Option Dest
dest_of (Some host) (Some port) = Some (record { host = host; port = port })
dest_of _ _ = None

-- the host that stands before the colon at a place, and the port after it
abbrev pub dest_at : Option ℕ → List ℕ → Option Dest
dest_at None word = None
dest_at (Some at) word = dest_of (host_of (take at word)) (port_of (drop (at + 1) word))

-- the destination that the word is: a host, the first colon, and a port
unfoldable pub dest_in : List ℕ → Option Dest
dest_in word = dest_at (position is_colon word) word
