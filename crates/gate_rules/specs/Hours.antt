-- When lines about operations are open: each day from one minute to another, in UTC.
use Rattle.std.specs.Prelude.{ℕ, ◌/◌, ◌%◌, ◌&&◌, ◌||◌, nat_le, nat_lt, Bool, true, List, drop, Option, Some, None, Result, Ok, Err, if◌then◌else◌}
use Rattle.host_pattern.specs.Pattern.{Written}
use Rattle.host_pattern.specs.declared.word.Word.{Word}
use Rattle.netperm_table.specs.declared.line.Line.{Line}
use Rattle.gate_rules.specs.declared.fault.Why.{Why}
use Rattle.gate_rules.specs.declared.hours.Hours.{Hours}
use Rattle.gate_rules.specs.Lists.{options_in}
use Rattle.gate_rules.specs.Operation.{read_operation}
use Rattle.gate_rules.specs.OperationHosts.{is_about_operations}
use Rattle.gate_rules.specs.Times.{hours_said}

-- the minute of its day at which a moment is, in seconds since a midnight
abbrev pub minute_of : ℕ → ℕ
minute_of now = now % 86400 / 60

-- From one minute on and before the other; over midnight where the other is the earlier one; all day where both are one.
abbrev pub is_within : ℕ → ℕ → ℕ → Bool
is_within from to minute =
    if nat_lt from to then nat_le from minute && nat_lt minute to
    else if nat_lt to from then nat_le from minute || nat_lt minute to
    else true

-- whether the hours are open at a moment
abbrev pub is_open_at : Hours → ℕ → Bool
is_open_at hours now = is_within hours.from hours.to (minute_of now)

-- whether a line with these hours is open at a moment: one without hours always is
abbrev pub is_open : Option Hours → ℕ → Bool
is_open None now = true
is_open (Some hours) now = is_open_at hours now

-- the hours that stand after the holder, the name, the gateway and the host list
abbrev pub hours_if_read : Result (List Written) Why → List Word → Option Hours
hours_if_read (Err why) words = None
hours_if_read (Ok hosts) words = hours_said (options_in (drop 3 words))

-- the hours of a line about operations, where the whole line can be read
unfoldable pub hours_of_operation : Line → Option Hours
hours_of_operation line = if is_about_operations line then hours_if_read (read_operation line.words) line.words else None
