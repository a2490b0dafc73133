-- Which acts lead from one row to another, and what they do to the world.
use Rattle.std.specs.Prelude.{◌≡◌, List, [], ◌∷◌}
use Rattle.fw_acts.specs.Acts.{Sig, Step, Row, PlaceTable}
use Rattle.fw_acts.specs.Acts.Row.{Do, At, Over}

-- these acts, one after another, lead from a row to what is left of it
abbrev pub Run : {S : Sig} {P : Type 0} → PlaceTable S P → Row S P → List (Step S) → Row S P → Type 0
Run rows r [] s = r ≡ s
Run {S} rows (Do act go) (step ∷ steps) s =
    (answer : S.Answer act) × (step ≡ record { act = act; answer = answer }) × Run rows (go answer) steps s
Run {S} rows (At place) (step ∷ steps) s =
    (answer : S.Answer (rows.act place)) × (step ≡ record { act = rows.act place; answer = answer }) × Run rows (rows.go place answer) steps s
Run rows Over (step ∷ steps) s = ⊥

-- these acts, one after another, lead from one world to another
abbrev pub DoesAll : {S : Sig} → List (Step S) → S.World → S.World → Type 0
DoesAll [] old new = old ≡ new
DoesAll {S} (step ∷ steps) old new =
    (mid : S.World) × S.does step.act step.answer old mid × DoesAll steps mid new

-- this act comes next
abbrev pub Next : {S : Sig} {P : Type 0} → PlaceTable S P → Row S P → S.Act → Type 0
Next rows (Do first go) act = first ≡ act
Next rows (At place) act = rows.act place ≡ act
Next rows Over act = ⊥

-- a run of acts and then others is a run of the first ones, and then one of the others
pub record Parted {S : Sig} {P : Type 0} (rows : PlaceTable S P) (r : Row S P) (first more : List (Step S)) (t : Row S P) : Type 0 where
  pub between : Row S P
  pub before : Run rows r first between
  pub after : Run rows between more t

-- what acts and then others do is what the first ones do, and then what the others do
pub record DoesParted {S : Sig} (first more : List (Step S)) (old new : S.World) : Type 0 where
  pub mid : S.World
  pub before : DoesAll first old mid
  pub after : DoesAll more mid new
