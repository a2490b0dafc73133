-- A dialer over the network, and where its links lead.
use Rattle.std.specs.Prelude.{◌≡◌, ℕ, true, None}
use Rattle.fw_outside.specs.DialerView.{DialerView}
use Rattle.fw_types.specs.declared.dest.Dest.{Dest}
use Rattle.fw_types.specs.declared.host.Host.{Host}
use Rattle.fw_types.specs.declared.host.Host.TheVariants.{Addr, Name}
use Rattle.real_links.specs.Names.{can_be_looked_up, without_last_period}
use Rattle.real_links.specs.declared.address.Address.{Address}

-- a dialer that tells only counts, and how long links wait
abbrev pub untold_dialer : ℕ → ℕ → ℕ → ℕ → ℕ → ℕ → ℕ → DialerView
untold_dialer came refusals link_faults link_idles data_faults data_idles waits = record {
  asked = None;
  ended = None;
  came = came;
  refusals = refusals;
  link_faults = link_faults;
  link_idles = link_idles;
  data_faults = data_faults;
  data_idles = data_idles;
  waits = waits;
}

-- the address and port of the destination; or its port at an address for its name, which may be looked up
abbrev pub LeadsToHost : Host → ℕ → Address → Type 0
LeadsToHost (Addr addr) port to = to ≡ record { host = addr; port = port }
LeadsToHost (Name name) port to = (to.port ≡ port) × (can_be_looked_up (without_last_period name) ≡ true)

abbrev pub LeadsTo : Dest → Address → Type 0
LeadsTo dest to = LeadsToHost dest.host dest.port to
