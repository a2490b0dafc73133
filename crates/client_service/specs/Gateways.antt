-- What the sessions of the gateways have in common, of Telnet and of FTP: they are held behind the line of the permission.
use Rattle.std.specs.Prelude.{◌≡◌, ◌≢◌, ◌⊎◌, Bool, List, ℕ}
use Rattle.fw_acts.specs.Acts.{Row, PlaceTable}
use Rattle.fw_types.specs.declared.ending.Ending.{Ending}
use Rattle.fw_types.specs.declared.ending.Ending.TheVariants as endings
use Rattle.session_acts.specs.Causes.{Caused}
use Rattle.session_acts.specs.Client.{LogFails, with_line}
use Rattle.session_acts.specs.Met.{acts}
use Rattle.session_acts.specs.Session.{SessionAs}
use Rattle.session_acts.specs.World.{Devices}
use Rattle.tn_gate.specs.Dummies.{lent}

-- the devices that a gateway's client meets: dice and a mail store have no part in its session
abbrev pub gate_devices : {Origin : Type 0} → Devices Origin → Devices Origin
gate_devices devices = lent devices.port devices.inlet devices.outlet devices.logs devices.dialer devices.clock

-- either the log failed within this line, and nothing else was done; or it was given the line whole, and then the session of
-- these rows was held
abbrev pub HeldAs : {Origin P : Type 0} → Bool → List ℕ → PlaceTable (acts Origin) P → Row (acts Origin) P → Ending → Devices Origin → Devices Origin → Type 0
HeldAs relays line rows first ending old new =
    LogFails line old new ending ⊎ SessionAs relays rows first (with_line line old) new ending

-- the causes of a session that may reach a server; but none ends since a destination couldn't be reached
abbrev pub CausedGated : {Origin : Type 0} → Ending → Devices Origin → Devices Origin → Type 0
CausedGated endings.NoRoute old new = ⊥
CausedGated ending old new = Caused ending old new

-- what port and clock tell stays as it was, and the session ends neither by the port nor for want of memory
pub record StaysUnasked {Origin : Type 0} (ending : Ending) (old new : Devices Origin) : Type 0 where
  pub port : new.port ≡ old.port
  pub clock : new.clock ≡ old.clock
  pub unfailed : ending ≢ endings.AuthFault
  pub ample : ending ≢ endings.NoMemory
