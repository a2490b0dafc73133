-- What a session of `ftp-gw` is lent.
use Rattle.std.specs.Prelude.{None}
use Rattle.auth_events.specs.Port.{Port}
use Rattle.fw_outside.specs.ClockView.{ClockView}
use Rattle.fw_outside.specs.DialerView.{DialerView}
use Rattle.fw_outside.specs.DiceView.{DiceView}
use Rattle.fw_outside.specs.SinkView.{SinkView}
use Rattle.fw_outside.specs.SourceView.{SourceView}
use Rattle.session_acts.specs.World.{Devices, devices_with}

-- it has no dice
abbrev pub no_dice : DiceView
no_dice = record { told = None }

abbrev pub lent : {Origin : Type 0} → Port Origin → SourceView → SinkView → SinkView → DialerView → ClockView → Devices Origin
lent port inlet outlet logs dialer clock = devices_with port inlet outlet logs dialer clock no_dice
