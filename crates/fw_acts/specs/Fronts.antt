-- When two runs have the same answers, and how a run goes on.
use Rattle.std.proofs.Common.{subst}
use Rattle.std.specs.Prelude.{◌≡◌, List, [], ◌∷◌, ◌++◌, ◌⊎◌}
use Rattle.fw_acts.specs.Acts.{Sig, Step, Row, PlaceTable}
use Rattle.fw_acts.specs.Acts.Row.{Do, At, Over}
use Rattle.fw_acts.specs.Runs.{Run}

-- each of these acts was answered as this answerer answers it after the acts before it
abbrev pub IsAnsweredBy : {S : Sig} → (List (Step S) → (act : S.Act) → S.Answer act) → List (Step S) → List (Step S) → Type 0
IsAnsweredBy answers past [] = Unit {0}
IsAnsweredBy answers past (step ∷ steps) =
    (step.answer ≡ answers past step.act) × IsAnsweredBy answers (past ++ (step ∷ [])) steps

-- wherever both lists have one act in one position, it was answered the same, in whatever way the acts are equal
abbrev pub Agree : {S : Sig} → List (Step S) → List (Step S) → Type 0
Agree [] others = Unit {0}
Agree (step ∷ steps) [] = Unit {0}
Agree {S} (step ∷ steps) (other ∷ others) = ((same : step.act ≡ other.act) → subst S.Answer same step.answer ≡ other.answer) × Agree steps others

-- the first acts are a front of the others, which go on from the row that the first ones left
pub record GoesOn {S : Sig} {P : Type 0} (rows : PlaceTable S P) (first : List (Step S)) (s : Row S P) (all : List (Step S)) (t : Row S P) : Type 0 where
  pub more : List (Step S)
  pub joined : all ≡ first ++ more
  pub run : Run rows s more t

-- of two runs one is a front of the other
abbrev pub OneGoesOn : {S : Sig} {P : Type 0} → PlaceTable S P → List (Step S) → Row S P → List (Step S) → Row S P → Type 0
OneGoesOn rows a s b t = GoesOn rows a s b t ⊎ GoesOn rows b t a s

-- a row has no act before the next place, or the end
abbrev pub IsSettled : {S : Sig} {P : Type 0} → Row S P → Type 0
IsSettled (Do act go) = ⊥
IsSettled (At place) = Unit {0}
IsSettled Over = Unit {0}

-- a run that left a row is a front of a longer one, which goes on from there with these answers and ends so
pub record Longer {S : Sig} {P : Type 0} (answers : List (Step S) → (act : S.Act) → S.Answer act) (rows : PlaceTable S P) (r : Row S P) (first : List (Step S)) (s : Row S P) (Ends : List (Step S) → Row S P → Type 0) : Type 0 where
  pub more : List (Step S)
  pub left : Row S P
  pub joint : Run rows r (first ++ more) left
  pub after : Run rows s more left
  pub answered : IsAnsweredBy answers first more
  pub ends : Ends more left
