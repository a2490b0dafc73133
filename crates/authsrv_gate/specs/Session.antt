-- What a session of `authsrv` is lent, and how it ends.
use Rattle.std.specs.Prelude.{Bool, true, false}
use Rattle.auth_events.specs.Port.{Port}
use Rattle.fw_outside.specs.ClockView.{ClockView}
use Rattle.fw_outside.specs.DiceView.{DiceView}
use Rattle.fw_outside.specs.SinkView.{SinkView}
use Rattle.fw_outside.specs.SourceView.{SourceView}
use Rattle.fw_types.specs.declared.ending.Ending.{Ending}
use Rattle.fw_types.specs.declared.ending.Ending.TheVariants.{Done, Denied, ClientFault, ServerFault, LogFault, AuthFault, Idle, NoRoute, Spent, NoMemory}
use Rattle.session_acts.specs.Dummies.{nowhere, silent}
use Rattle.session_acts.specs.World.{Devices, devices_with}

-- these devices; it has no log and no server
abbrev pub lent : {Origin : Type 0} → Port Origin → SourceView → SinkView → ClockView → DiceView → Devices Origin
lent port inlet outlet clock dice = devices_with port inlet outlet silent nowhere clock dice

-- it ends neither by a log nor by a server, and whom the table denies has no session
abbrev pub is_own : Ending → Bool
is_own (Denied line) = false
is_own ServerFault = false
is_own LogFault = false
is_own NoRoute = false
is_own Done = true
is_own ClientFault = true
is_own AuthFault = true
is_own Idle = true
is_own Spent = true
is_own NoMemory = true
