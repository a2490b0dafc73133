-- What a sink of bytes means, and what its calls do to that.
use Rattle.std.specs.Prelude.{◌≡◌, ◌≢◌, ℕ, Bool, true, List, [], ◌++◌, Option, Result, Ok, Err}
use Rattle.std.specs.Option.{option_map}
use Rattle.fw_outside.specs.declared.failed.Failed.{Failed}
use Rattle.fw_outside.specs.declared.mark.Mark.{Mark}
use Rattle.fw_outside.specs.Counts.{Rose}
use Rattle.fw_outside.specs.ToldList.{grown}

-- the bytes given, and whether it was said that no more come, where the sink tells; how often it failed; and as what its link was
-- asked for, which no call changes
pub record SinkView : Type 0 where
  pub given : Option (List ℕ)
  pub shut : Option Bool
  pub faults : ℕ
  pub mark : Mark

-- the sink failed within these bytes: a front of them was given, and not all, unless there were none
pub record Cut (bytes : List ℕ) (old new : SinkView) : Type 0 where
  pub part : List ℕ
  pub rest : List ℕ
  pub count : ℕ
  pub cut : bytes ≡ part ++ rest
  pub short : bytes ≢ [] → rest ≢ []
  pub rose : Rose old.faults count
  pub is : new ≡ record old { given = grown old.given part; faults = count }

-- what a gift of these bytes answers and leaves
abbrev pub Gives : Result (Unit {0}) Failed → List ℕ → SinkView → SinkView → Type 0
Gives (Ok _) bytes old new = new ≡ record old { given = grown old.given bytes }
Gives (Err _) bytes old new = Cut bytes old new

-- the end couldn't be told, which is counted
pub record Unheard (old new : SinkView) : Type 0 where
  pub count : ℕ
  pub rose : Rose old.faults count
  pub is : new ≡ record old { faults = count }

-- what telling the end answers and leaves
abbrev pub TellsEnd : Result (Unit {0}) Failed → SinkView → SinkView → Type 0
TellsEnd (Ok _) old new = new ≡ record old { shut = option_map (λ _. true) old.shut }
TellsEnd (Err _) old new = Unheard old new
