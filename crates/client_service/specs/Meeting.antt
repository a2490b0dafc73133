-- How a client is met: its source and the links wait as the rules have it, and the line of the verdict is logged first.
use Rattle.std.specs.Prelude.{ℕ, ◌^◌, ◌-◌, min, List, Option, Some, None}
use Rattle.fw_acts.specs.Acts.{Row}
use Rattle.fw_acts.specs.Acts.Row.{Do, Over}
use Rattle.fw_outside.specs.DialerView.{DialerView, dialer_waiting}
use Rattle.fw_outside.specs.SourceView.{waiting}
use Rattle.fw_types.specs.declared.ending.Ending.{Ending}
use Rattle.fw_types.specs.declared.ending.Ending.TheVariants as endings
use Rattle.gate_rules.specs.Reading.{RuleBook}
use Rattle.gate_rules.specs.Verdict.{setting_of}
use Rattle.gate_rules.specs.declared.setting.Setting.TheVariants.{Timeout}
use Rattle.gate_rules.specs.declared.verdict.Verdict.{Verdict}
use Rattle.gate_rules.specs.declared.verdict.Verdict.TheVariants.{Permit, Deny}
use Rattle.session_acts.specs.Acts.Act.{Log}
use Rattle.session_acts.specs.Denying.{denying_row}
use Rattle.session_acts.specs.Met.{acts}
use Rattle.session_acts.specs.World.{Devices, no_store}
use Rattle.session_acts.specs.declared.denying.NoPlace.{NoPlace}

-- the seconds that a source waits for a client: as the table sets them, or else an hour
abbrev pub seconds_by : Option (ℕ × ℕ) → ℕ
seconds_by None = 3600
seconds_by (Some set) = min set.0 (2 ^ 32 - 1)

abbrev pub timeout_of : RuleBook → ℕ
timeout_of rules = seconds_by (setting_of rules Timeout)

-- these devices, whose source and whose links wait so long
abbrev pub patient : {Origin : Type 0} → ℕ → Devices Origin → Devices Origin
patient seconds devices = record devices { inlet = waiting devices.inlet seconds; dialer = dialer_waiting devices.dialer seconds }

-- the devices that a session without mail meets: a mail store has no part in it
abbrev pub mailless : {Origin : Type 0} → Devices Origin → Devices Origin
mailless devices = record devices { store = no_store }

-- how long links wait is set for whom the verdict permits
abbrev pub dialer_then : Verdict → RuleBook → DialerView → DialerView
dialer_then (Permit line) rules dialer = dialer_waiting dialer (timeout_of rules)
dialer_then (Deny line) rules dialer = dialer

-- the devices as a client meets them: they wait as the rules have it for whom the verdict permits
abbrev pub lent_by : {Origin : Type 0} → Verdict → RuleBook → Devices Origin → Devices Origin
lent_by (Permit line) rules devices = patient (timeout_of rules) devices
lent_by (Deny line) rules devices = devices

-- a line is logged, and then this
abbrev pub logged_row : {Origin P : Type 0} → List ℕ → Row (acts Origin) P → Row (acts Origin) P
logged_row line first = Do (Log line) (λ done. first)

-- a line is logged, and nothing else is done
abbrev pub silent_row : {Origin : Type 0} → List ℕ → Row (acts Origin) NoPlace
silent_row line = Do (Log line) (λ logged. Over)

-- a line is logged, and then it is tried to tell the client these words, where there are any
abbrev pub away_row : {Origin : Type 0} → List ℕ → Option (List ℕ) → Row (acts Origin) NoPlace
away_row line None = silent_row line
away_row line (Some words) = denying_row line words

-- whom a line denies ends as denied, where that was logged
abbrev pub denied_by : ℕ → Ending → Ending
denied_by line endings.Done = endings.Denied line
denied_by line ending = ending
