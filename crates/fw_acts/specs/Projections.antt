-- What a run said, logged or asked: a projection of its acts.
use Rattle.std.specs.Prelude.{◌≡◌, List, [], ◌∷◌, ◌++◌}
use Rattle.std.specs.List.{flat_map}
use Rattle.fw_acts.specs.Acts.{Sig, Step, Row, PlaceTable}
use Rattle.fw_acts.specs.Acts.Row.{Over}
use Rattle.fw_acts.specs.Runs.{Run}

-- what each of these acts with its answer gives, one after another
abbrev pub projection : {S : Sig} {A : Type 0} → ((act : S.Act) → S.Answer act → List A) → List (Step S) → List A
projection gives steps = flat_map (λ step. gives step.act step.answer) steps

-- the world grows by what each act gives: by nothing where nothing is done, and by both where one comes after another
pub record Grows (S : Sig) {A : Type 0} (gives : (act : S.Act) → S.Answer act → List A) (Grew : List A → S.World → S.World → Type 0) : Type 0 where
  pub none : (world : S.World) → Grew [] world world
  pub both : (first more : List A) (old mid new : S.World) → Grew first old mid → Grew more mid new → Grew (first ++ more) old new
  pub act : (act : S.Act) (answer : S.Answer act) (old new : S.World) → S.does act answer old new → Grew (gives act answer) old new

-- an act that stopped has given a part of what it gives when it is done, whatever it would be answered
pub record InPart (S : Sig) {A : Type 0} (gives : (act : S.Act) → S.Answer act → List A) (Grew : List A → S.World → S.World → Type 0) (act : S.Act) (old new : S.World) : Type 0 where
  pub part : List A
  pub front : (answer : S.Answer act) → (rest : List A) × (gives act answer ≡ part ++ rest)
  pub grew : Grew part old new

-- each act that stops has given a part
abbrev pub Cuts : (S : Sig) {A : Type 0} → ((act : S.Act) → S.Answer act → List A) → (List A → S.World → S.World → Type 0) → Type 0
Cuts S gives Grew =
    (act : S.Act) (stop : S.Stop) (old new : S.World) → S.stops act stop old new → InPart S gives Grew act old new

-- what was given is what the acts give that were done, and then a part of what the next one gives: a front of what each run
-- gives that goes on with that act; and where none is next, there is no such part
pub record Gave {S : Sig} {P A : Type 0} (rows : PlaceTable S P) (gives : (act : S.Act) → S.Answer act → List A) (Grew : List A → S.World → S.World → Type 0) (steps : List (Step S)) (left : Row S P) (old new : S.World) : Type 0 where
  pub part : List A
  pub grew : Grew (projection gives steps ++ part) old new
  pub front : (step : Step S) (more : List (Step S)) (t : Row S P) → Run rows left (step ∷ more) t → (rest : List A) × (projection gives (steps ++ (step ∷ more)) ≡ (projection gives steps ++ part) ++ rest)
  pub over : left ≡ Over → part ≡ []
