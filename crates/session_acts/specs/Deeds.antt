-- All that a session did, as one list of deeds.
use Rattle.std.specs.Prelude.{◌≡◌, List, [], ◌∷◌, ◌++◌, map, Result, Ok, Err}
use Rattle.std.specs.List.{flat_map}
use Rattle.fw_acts.specs.Acts.{Row, Step, PlaceTable}
use Rattle.fw_acts.specs.Acts.Row.{Do, At, Over}
use Rattle.fw_acts.specs.Ran.{Comes, Ran}
use Rattle.session_acts.specs.Acts.{Act, Outcome}
use Rattle.session_acts.specs.Met.{Met, acts}
use Rattle.session_acts.specs.World.{World}
use Rattle.session_acts.specs.declared.cause.Cause.{Cause}

-- an act, and how it came out
pub record Deed : Type 0 where
  pub act : Act
  pub outcome : Outcome act

-- these deeds, one after another, lead from one world to another
abbrev pub DeedsAll : {Origin : Type 0} → List Deed → World Origin → World Origin → Type 0
DeedsAll [] old new = old ≡ new
DeedsAll {Origin} (deed ∷ deeds) old new = (mid : World Origin) × Met deed.act deed.outcome old mid × DeedsAll deeds mid new

-- what each deed gives, one after another
abbrev pub gives : {A : Type 0} → ((act : Act) → Outcome act → List A) → List Deed → List A
gives of deeds = flat_map (λ deed. of deed.act deed.outcome) deeds

-- the world grows by what each deed gives: by nothing where nothing is done, and by both where one comes after another
pub record Gains (Origin : Type 0) {A : Type 0} (of : (act : Act) → Outcome act → List A) (Grew : List A → World Origin → World Origin → Type 0) : Type 0 where
  pub none : (world : World Origin) → Grew [] world world
  pub both : (first more : List A) (old mid new : World Origin) → Grew first old mid → Grew more mid new → Grew (first ++ more) old new
  pub one : (act : Act) (outcome : Outcome act) (old new : World Origin) → Met act outcome old new → Grew (of act outcome) old new

-- each deed keeps this
pub record Lasts (Origin : Type 0) (Stays : World Origin → World Origin → Type 0) : Type 0 where
  pub none : (world : World Origin) → Stays world world
  pub both : (old mid new : World Origin) → Stays old mid → Stays mid new → Stays old new
  pub one : (act : Act) (outcome : Outcome act) (old new : World Origin) → Met act outcome old new → Stays old new

-- ---- what a call of a session did

abbrev pub done : {Origin : Type 0} → Step (acts Origin) → Deed
done step = record { act = step.act; outcome = Ok step.answer }

-- the act at which it stopped, if it did at one
abbrev pub deed_last : {Origin P T : Type 0} (rows : PlaceTable (acts Origin) P) (at : T → Row (acts Origin) P) (result : Result T Cause) (new : World Origin) (left : Row (acts Origin) P) (mid : World Origin) → Comes rows at result new left mid → List Deed
deed_last rows at (Ok x) new left mid comes = []
deed_last rows at (Err cause) new (Do act go) mid comes = record { act = act; outcome = Err comes.halt } ∷ []
deed_last rows at (Err cause) new (At place) mid comes = record { act = rows.act place; outcome = Err comes.halt } ∷ []
deed_last rows at (Err cause) new Over mid comes = []

abbrev pub deeds_ran : {Origin P T : Type 0} {rows : PlaceTable (acts Origin) P} {r : Row (acts Origin) P} {at : T → Row (acts Origin) P} {old new : World Origin} {result : Result T Cause} → Ran rows r at old new result → List Deed
deeds_ran {rows = rows} {at = at} {new = new} {result = result} ran =
    map done ran.steps ++ deed_last rows at result new ran.left ran.mid ran.comes
