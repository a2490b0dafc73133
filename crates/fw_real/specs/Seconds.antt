-- The time of the system.
use Rattle.std.specs.Prelude.{ℕ, ◌/◌, Option, Some, None}
use Rattle.std.specs.Duration.{as_nanos}
use Rattle.std.specs.declared.time.Duration.{Duration}
use Rattle.fw_outside.specs.ClockView.{ClockView}

-- a clock that tells no moments
abbrev pub untold_moments : ClockView
untold_moments = record { told = None }

-- the whole seconds, or 0 where the time isn't known
abbrev pub seconds_of : Option Duration → ℕ
seconds_of None = 0
seconds_of (Some since) = as_nanos since / 1_000_000_000
