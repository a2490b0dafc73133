-- How a session of mail ends.
use Rattle.std.specs.Prelude.{Bool, true, false}
use Rattle.fw_types.specs.declared.ending.Ending.{Ending}
use Rattle.fw_types.specs.declared.ending.Ending.TheVariants.{Done, Denied, ClientFault, ServerFault, LogFault, AuthFault, Idle, NoRoute, Spent, NoMemory}

-- neither by a server nor by a port, and whom the table denies has no session
abbrev pub is_own : Ending → Bool
is_own (Denied line) = false
is_own ServerFault = false
is_own AuthFault = false
is_own NoRoute = false
is_own Done = true
is_own ClientFault = true
is_own LogFault = true
is_own Idle = true
is_own Spent = true
is_own NoMemory = true
