-- A run that left a row goes on from there.
use Rattle.std.proofs.Common.{ℕ, zero, suc, ◌≡◌, List, [], ◌∷◌, ◌++◌, ◌⊎◌, length, refl, sym, ap, inl, inr}
use Rattle.fw_acts.specs.Acts.{Sig, Step, Row, PlaceTable}
use Rattle.fw_acts.specs.Acts.Row.{Do, At, Over}
use Rattle.fw_acts.specs.Runs.{Run}
use Rattle.fw_acts.proofs.RunLemmas.{run_joined}
use Rattle.fw_acts.specs.Fronts.{IsAnsweredBy, IsSettled, Longer}

-- a run from a row after these acts, with these answers, that ends so
record Played {S : Sig} {P : Type 0} (answers : List (Step S) → (act : S.Act) → S.Answer act) (rows : PlaceTable S P) (past : List (Step S)) (r : Row S P) (Ends : List (Step S) → Row S P → Type 0) : Type 0 where
  steps : List (Step S)
  left : Row S P
  run : Run rows r steps left
  answered : IsAnsweredBy answers past steps
  ends : Ends steps left

abbrev LastsFor : {S : Sig} {P : Type 0} → ℕ → List (Step S) → Row S P → Type 0
LastsFor count steps left = (length steps ≡ count) ⊎ (left ≡ Over)

one_longer : {S : Sig} {P : Type 0} (step : Step S) (steps : List (Step S)) (left : Row S P) (count : ℕ) → LastsFor count steps left → LastsFor (suc count) (step ∷ steps) left
one_longer step steps left count (inl long) = inl (ap suc long)
one_longer step steps left count (inr over) = inr over

played : {S : Sig} {P : Type 0} (answers : List (Step S) → (act : S.Act) → S.Answer act) (rows : PlaceTable S P) (past : List (Step S)) (r : Row S P) (count : ℕ) → Played answers rows past r (LastsFor count)
played answers rows past r zero = record { steps = []; left = r; run = refl; answered = tt; ends = inl refl }
played answers rows past Over (suc count) = record { steps = []; left = Over; run = refl; answered = tt; ends = inr refl }
played {S} answers rows past (Do act go) (suc count) =
    let answer = answers past act in
    let step : Step S = record { act = act; answer = answer } in
    let rest = played answers rows (past ++ (step ∷ [])) (go answer) count in
    record { steps = step ∷ rest.steps; left = rest.left; run = (answer, refl, rest.run); answered = (refl, rest.answered); ends = one_longer step rest.steps rest.left count rest.ends }
played {S} answers rows past (At place) (suc count) =
    let answer = answers past (rows.act place) in
    let step : Step S = record { act = rows.act place; answer = answer } in
    let rest = played answers rows (past ++ (step ∷ [])) (rows.go place answer) count in
    record { steps = step ∷ rest.steps; left = rest.left; run = (answer, refl, rest.run); answered = (refl, rest.answered); ends = one_longer step rest.steps rest.left count rest.ends }

settled : {S : Sig} {P : Type 0} (answers : List (Step S) → (act : S.Act) → S.Answer act) (rows : PlaceTable S P) (past : List (Step S)) (r : Row S P) → Played answers rows past r (λ steps left. IsSettled left)
settled answers rows past (At place) = record { steps = []; left = At place; run = refl; answered = tt; ends = tt }
settled answers rows past Over = record { steps = []; left = Over; run = refl; answered = tt; ends = tt }
settled {S} answers rows past (Do act go) =
    let answer = answers past act in
    let step : Step S = record { act = act; answer = answer } in
    let rest = settled answers rows (past ++ (step ∷ [])) (go answer) in
    record { steps = step ∷ rest.steps; left = rest.left; run = (answer, refl, rest.run); answered = (refl, rest.answered); ends = rest.ends }

longer : {S : Sig} {P : Type 0} {answers : List (Step S) → (act : S.Act) → S.Answer act} {rows : PlaceTable S P} {first : List (Step S)} {s : Row S P} {Ends : List (Step S) → Row S P → Type 0} (r : Row S P)
    → Run rows r first s → Played answers rows first s Ends → Longer answers rows r first s Ends
longer {rows = rows} {first = first} {s = s} r run rest = record {
  more = rest.steps;
  left = rest.left;
  joint = run_joined rows r s rest.left first rest.steps run rest.run;
  after = rest.run;
  answered = rest.answered;
  ends = rest.ends;
}

pub goes_on_for : {S : Sig} {P : Type 0} (answers : List (Step S) → (act : S.Act) → S.Answer act) (rows : PlaceTable S P) (r s : Row S P) (first : List (Step S)) (count : ℕ)
    → Run rows r first s → Longer answers rows r first s (λ more left. (length more ≡ count) ⊎ (left ≡ Over))
goes_on_for answers rows r s first count run = longer r run (played answers rows first s count)

pub goes_on_to_place : {S : Sig} {P : Type 0} (answers : List (Step S) → (act : S.Act) → S.Answer act) (rows : PlaceTable S P) (r s : Row S P) (first : List (Step S))
    → Run rows r first s → Longer answers rows r first s (λ more left. IsSettled left)
goes_on_to_place answers rows r s first run = longer r run (settled answers rows first s)

pub over_is_over : {S : Sig} {P : Type 0} (rows : PlaceTable S P) (steps : List (Step S)) (t : Row S P) → Run rows Over steps t → (steps ≡ []) × (t ≡ Over)
over_is_over rows [] t run = (refl, sym run)
over_is_over rows (step ∷ steps) t run = absurd run
