-- What a clock means, and what asking it does to that.
use Rattle.std.specs.Prelude.{ℕ, List, Option}
use Rattle.fw_outside.specs.ToldList.{AddsOne}

-- the moments that it gave, in order, where it tells
pub record ClockView : Type 0 where
  pub told : Option (List ℕ)

-- it gave this moment
abbrev pub GaveTime : ℕ → ClockView → ClockView → Type 0
GaveTime moment old new = AddsOne moment old.told new.told
