-- A clock in memory.
use Rattle.std.specs.Prelude.{ℕ, ◌-◌, min, List, length, get_or, if◌then◌else◌}
use Rattle.fw_outside.specs.ClockView.{ClockView}
use Rattle.fw_memory.specs.CallCounter.{CallCounter, answers}

-- the moments that it was given, and the calls
pub record MemClockView : Type 0 where
  pub moments : List ℕ
  pub counter : CallCounter

-- the moment of a call by its number: past the list the last one, and 0 where there are none
abbrev pub moment_of : List ℕ → ℕ → ℕ
moment_of moments call = get_or moments (min call (length moments - 1)) 0

-- the moment of the next call: one that can't be counted is past the list
abbrev pub moment_next : MemClockView → ℕ
moment_next w = moment_of w.moments (if w.counter.over then length w.moments else w.counter.calls)

-- it tells all, as long as the calls can be counted
abbrev pub clock_view_of : MemClockView → ClockView
clock_view_of w = record { told = answers (moment_of w.moments) w.counter }
