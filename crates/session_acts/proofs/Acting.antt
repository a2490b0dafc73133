-- By which steps the check follows the rows.
use Rattle.std.proofs.Common.{◌≡◌, Result, Ok, Err, IsErrAnd}
use Rattle.fw_acts.specs.Acts.{Row, PlaceTable}
use Rattle.fw_acts.specs.Acts.Row.{Do, At}
use Rattle.fw_acts.specs.Ran.{Ran}
use Rattle.fw_acts.proofs.RanLemmas.{ran_at, ran_did, ran_here, ran_on}
use Rattle.session_acts.specs.Acts.{Act, Answer}
use Rattle.session_acts.specs.Met.{Met, Stops, acts}
use Rattle.session_acts.specs.World.{World}
use Rattle.session_acts.specs.declared.cause.Cause.{Cause}

module _ {Origin P T : Type 0} {rows : PlaceTable (acts Origin) P} {at : T → Row (acts Origin) P} {old mid new : World Origin} {result : Result T Cause} where
  -- an act was done, and then what follows its answer
  pub did : {act : Act} {answer : Answer act} {go : Answer act → Row (acts Origin) P} → Met act (Ok answer) old mid → Ran rows (go answer) at mid new result → Ran rows (Do act go) at old new result
  did {act} {answer} {go} met rest = ran_did {S = acts Origin} {rows = rows} {act = act} {go = go} {at = at} {old = old} {mid = mid} {new = new} {result = result} answer met rest

  -- so it is with a place's act
  pub did_at : {place : P} {answer : Answer (rows.act place)} → Met (rows.act place) (Ok answer) old mid → Ran rows (rows.go place answer) at mid new result → Ran rows (At place) at old new result
  did_at {place} {answer} met rest = ran_at {S = acts Origin} {rows = rows} {place = place} {at = at} {old = old} {mid = mid} {new = new} {result = result} answer met rest

module _ {Origin P T : Type 0} {rows : PlaceTable (acts Origin) P} {at : T → Row (acts Origin) P} {old new : World Origin} {result : Result T Cause} where
  -- an act stopped
  pub halted : {act : Act} {cause : Cause} {go : Answer act → Row (acts Origin) P} → Stops act cause old new → IsErrAnd result (λ e. e ≡ cause) → Ran rows (Do act go) at old new result
  halted {act} {cause} {go} stops same = ran_on (ran_here {S = acts Origin} {T = T} {rows = rows} {r = Do act go} {at = at} {old = old} {new = new} {result = Err cause} stops) same

  pub halted_at : {place : P} {cause : Cause} → Stops (rows.act place) cause old new → IsErrAnd result (λ e. e ≡ cause) → Ran rows (At place) at old new result
  halted_at {place} {cause} stops same = ran_on (ran_here {S = acts Origin} {T = T} {rows = rows} {r = At place} {at = at} {old = old} {new = new} {result = Err cause} stops) same

pub ruleset acting = (ran_here, did, did_at, halted, halted_at)
