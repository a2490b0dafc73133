-- What devices mean that stand in for those which a session of mail doesn't have.
use Rattle.std.specs.Prelude.{◌^◌, ◌-◌, [], false, None}
use Rattle.auth_events.specs.Port.{Port}
use Rattle.fw_outside.specs.ClockView.{ClockView}
use Rattle.fw_outside.specs.DiceView.{DiceView}
use Rattle.fw_outside.specs.SinkView.{SinkView}
use Rattle.fw_outside.specs.SourceView.{SourceView}
use Rattle.session_acts.specs.Dummies.{nowhere}
use Rattle.session_acts.specs.World.{Devices, mail_devices_with}
use Rattle.spool_rack.specs.Store.{StoreView}

-- a port of which nothing is seen, whose count of requests stands at its last value
abbrev pub no_port : Port (Unit {0})
no_port = record { seen = []; mine = []; full = None; refused = false; asks = 2 ^ 64 - 1; faults = 0; odd = 0; origin = tt; home = [] }

abbrev pub no_clock : ClockView
no_clock = record { told = None }

abbrev pub no_dice : DiceView
no_dice = record { told = None }

-- what a session of mail is lent
abbrev pub lent : SourceView → SinkView → SinkView → StoreView → Devices (Unit {0})
lent inlet outlet logs store = mail_devices_with no_port inlet outlet logs nowhere no_clock no_dice store
