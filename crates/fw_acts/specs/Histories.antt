-- What the rows keep of what was done so far, and which acts they let come next.
use Rattle.std.specs.Prelude.{List, [], ◌∷◌}
use Rattle.fw_acts.specs.Acts.{Sig, Step, Row, PlaceTable}
use Rattle.fw_acts.specs.Acts.Row.{Do, At, Over}

-- a watch over a session: what it notes of each act, which act may come after what was noted, and what holds at each place and at the end
pub record Watch (S : Sig) (P : Type 0) : Type 1 where
  pub Noted : Type 0
  pub note : Noted → (act : S.Act) → S.Answer act → Noted
  pub may : Noted → S.Act → Type 0
  pub holds : Noted → P → Type 0
  pub over : Noted → Type 0

-- what is noted after these acts
abbrev pub history : {S : Sig} {P : Type 0} (watch : Watch S P) → watch.Noted → List (Step S) → watch.Noted
history watch noted [] = noted
history watch noted (step ∷ steps) = history watch (watch.note noted step.act step.answer) steps

-- each of these acts may come after those before it
abbrev pub AllMay : {S : Sig} {P : Type 0} (watch : Watch S P) → watch.Noted → List (Step S) → Type 0
AllMay watch noted [] = Unit {0}
AllMay watch noted (step ∷ steps) = watch.may noted step.act × AllMay watch (watch.note noted step.act step.answer) steps

-- whatever the answers, each act of a row may come, and what is to hold where the row ends holds there
abbrev pub Leaves : {S : Sig} {P : Type 0} (watch : Watch S P) → Row S P → watch.Noted → Type 0
Leaves {S} watch (Do act go) noted =
    watch.may noted act × ((answer : S.Answer act) → Leaves watch (go answer) (watch.note noted act answer))
Leaves watch (At place) noted = watch.holds noted place
Leaves watch Over noted = watch.over noted

-- where what is to hold at a place holds, its act may come, and what follows the answer keeps all this
abbrev pub Keeps : {S : Sig} {P : Type 0} → PlaceTable S P → Watch S P → Type 0
Keeps {P = P} rows watch =
    (place : P) (noted : watch.Noted) → watch.holds noted place → Leaves watch (Do (rows.act place) (rows.go place)) noted
