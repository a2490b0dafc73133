-- What dice mean, and what drawing a salt does to that.
use Rattle.std.specs.Prelude.{ℕ, List, Option}
use Rattle.fw_outside.specs.ToldList.{AddsOne}

-- the salts that they gave, in order, where they tell
pub record DiceView : Type 0 where
  pub told : Option (List (List ℕ))

-- they gave this salt
abbrev pub GaveSalt : List ℕ → DiceView → DiceView → Type 0
GaveSalt salt old new = AddsOne salt old.told new.told
