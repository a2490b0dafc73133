-- Hosts, which are addresses or names.
use Rattle.std.specs.Prelude.{ℕ, List, Option, Some, None}
use Rattle.fw_types.specs.declared.host.Host.{Host}
use Rattle.fw_types.specs.declared.host.Host.TheVariants.{Addr, Name}
use Rattle.fw_types.specs.HostName.{host_name_of}
use Rattle.fw_types.specs.Quad.{dotted, quad_of}

-- the host that an address is, or else a name
abbrev pub host_by : Option (List ℕ) → Option (List ℕ) → Option Host
host_by (Some addr) name = Some (Addr addr)
host_by None (Some name) = Some (Name name)
host_by None None = None

-- the host that the text is
abbrev pub host_of : List ℕ → Option Host
host_of text = host_by (quad_of text) (host_name_of text)

-- the text of a host
abbrev pub host_text : Host → List ℕ
host_text (Addr addr) = dotted addr
host_text (Name name) = name
