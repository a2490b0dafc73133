-- What a call of a session says of the acts that it did.
use Rattle.std.specs.Prelude.{◌≡◌, List, Result, Ok, Err}
use Rattle.fw_acts.specs.Acts.{Sig, Step, Row, PlaceTable}
use Rattle.fw_acts.specs.Acts.Row.{Do, At, Over}
use Rattle.fw_acts.specs.Runs.{Run, DoesAll, Next}

-- the session stops at the next act of a row, for one of its causes
abbrev pub StopsAt : {S : Sig} {P : Type 0} → PlaceTable S P → Row S P → S.Stop → S.World → S.World → Type 0
StopsAt {S} rows (Do act go) stop old new = S.stops act stop old new
StopsAt {S} rows (At place) stop old new = S.stops (rows.act place) stop old new
StopsAt rows Over stop old new = ⊥

-- where an answer leaves the run: at a row, or stopped at an act, for one of its causes
abbrev pub Comes : {S : Sig} {P T : Type 0} → PlaceTable S P → (T → Row S P) → Result T S.Stop → S.World → Row S P → S.World → Type 0
Comes rows at (Ok x) new s mid = (s ≡ at x) × (mid ≡ new)
Comes rows at (Err stop) new s mid = StopsAt rows s stop mid new

-- a call does a row's acts up to where its answer says, or stops at one
pub record Ran {S : Sig} {P T : Type 0} (rows : PlaceTable S P) (r : Row S P) (at : T → Row S P) (old new : S.World) (result : Result T S.Stop) : Type 0 where
  pub steps : List (Step S)
  pub left : Row S P
  pub mid : S.World
  pub run : Run rows r steps left
  pub does : DoesAll steps old mid
  pub comes : Comes rows at result new left mid

-- the act at which a session stopped, and why
pub record Stopped {S : Sig} {P : Type 0} (rows : PlaceTable S P) (s : Row S P) (stop : S.Stop) (old new : S.World) : Type 0 where
  pub act : S.Act
  pub next : Next rows s act
  pub why : S.stops act stop old new
