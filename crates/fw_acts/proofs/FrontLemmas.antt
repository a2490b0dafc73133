-- With the same answers, one of two runs of a row is a front of the other.
use Rattle.std.proofs.Common.{◌≡◌, List, [], ◌∷◌, ◌++◌, refl, subst, sym, ap, inl, inr, ◌∙◌}
use mathlib.Core.Path.{subst_refl}
use Rattle.fw_acts.specs.Acts.{Sig, Step, Row, PlaceTable}
use Rattle.fw_acts.specs.Acts.Row.{Do, At, Over}
use Rattle.fw_acts.specs.Runs.{Run}
use Rattle.fw_acts.specs.Fronts.{IsAnsweredBy, Agree, GoesOn, OneGoesOn}

one_behind : {S : Sig} {P : Type 0} {rows : PlaceTable S P} (x y : Step S) → x ≡ y → {first : List (Step S)} {s : Row S P} {all : List (Step S)} {t : Row S P}
    → GoesOn rows first s all t → GoesOn rows (x ∷ first) s (y ∷ all) t
one_behind x y same {all = all} g = record {
  more = g.more;
  joined = ap (λ z. z ∷ all) (sym same) ∙ ap (λ steps. x ∷ steps) g.joined;
  run = g.run;
}

both_behind : {S : Sig} {P : Type 0} {rows : PlaceTable S P} (x y : Step S) → x ≡ y → {a b : List (Step S)} {s t : Row S P}
    → OneGoesOn rows a s b t → OneGoesOn rows (x ∷ a) s (y ∷ b) t
both_behind x y same (inl g) = inl (one_behind x y same g)
both_behind x y same (inr g) = inr (one_behind y x (sym same) g)

-- what a step's answer is under an answerer
answer_of : {S : Sig} (answers : List (Step S) → (act : S.Act) → S.Answer act) (past : List (Step S)) (act : S.Act) (answer : S.Answer act) (step : Step S)
    → step ≡ record { act = act; answer = answer } → step.answer ≡ answers past step.act → answer ≡ answers past act
answer_of {S} answers past act answer step is = subst (λ (z : Step S). z.answer ≡ answers past z.act) is

-- one act with one answer is one step
step_of : {S : Sig} (act : S.Act) (p q : S.Answer act) (x y : Step S)
    → x ≡ record { act = act; answer = p } → y ≡ record { act = act; answer = q } → p ≡ q → x ≡ y
step_of {S} act p q x y xp yq same =
    let as_step : S.Answer act → Step S = λ answer. record { act = act; answer = answer } in
    xp ∙ ap as_step same ∙ sym yq

-- an act that is answered the same, however it is equal to itself, has one answer
same_answer : {S : Sig} (act : S.Act) (p q : S.Answer act) (x y : Step S)
    → x ≡ record { act = act; answer = p } → y ≡ record { act = act; answer = q }
    → ((same : x.act ≡ y.act) → subst S.Answer same x.answer ≡ y.answer) → p ≡ q
same_answer {S} act p q x y xp yq agree =
    let first = subst (λ (z : Step S). (same : z.act ≡ y.act) → subst S.Answer same z.answer ≡ y.answer) xp agree in
    let both = subst (λ (z : Step S). (same : act ≡ z.act) → subst S.Answer same p ≡ z.answer) yq first in
    sym (subst_refl S.Answer p) ∙ both refl

pub one_list : {S : Sig} {P : Type 0} (answers : List (Step S) → (act : S.Act) → S.Answer act) (rows : PlaceTable S P) (past : List (Step S)) (r s t : Row S P) (a b : List (Step S))
    → Run rows r a s → IsAnsweredBy answers past a → Run rows r b t → IsAnsweredBy answers past b → OneGoesOn rows a s b t
one_list answers rows past r s t [] b p h q k =
    inl (record { more = b; joined = refl; run = subst (λ row. Run rows row b t) p q })
one_list answers rows past r s t (x ∷ a) [] p h q k =
    inr (record { more = x ∷ a; joined = refl; run = subst (λ row. Run rows row (x ∷ a) s) q p })
one_list answers rows past (Do act go) s t (x ∷ a) (y ∷ b) p h q k =
    let same = answer_of answers past act p.0 x p.1 h.0 ∙ sym (answer_of answers past act q.0 y q.1 k.0) in
    let step = step_of act p.0 q.0 x y p.1 q.1 same in
    both_behind x y step (one_list answers rows (past ++ (x ∷ [])) (go p.0) s t a b p.2 h.1 (subst (λ answer. Run rows (go answer) b t) (sym same) q.2) (subst (λ z. IsAnsweredBy answers (past ++ (z ∷ [])) b) (sym step) k.1))
one_list answers rows past (At place) s t (x ∷ a) (y ∷ b) p h q k =
    let same = answer_of answers past (rows.act place) p.0 x p.1 h.0 ∙ sym (answer_of answers past (rows.act place) q.0 y q.1 k.0) in
    let step = step_of (rows.act place) p.0 q.0 x y p.1 q.1 same in
    both_behind x y step (one_list answers rows (past ++ (x ∷ [])) (rows.go place p.0) s t a b p.2 h.1 (subst (λ answer. Run rows (rows.go place answer) b t) (sym same) q.2) (subst (λ z. IsAnsweredBy answers (past ++ (z ∷ [])) b) (sym step) k.1))
one_list answers rows past Over s t (x ∷ a) (y ∷ b) p h q k = absurd p

pub one_list_agreed : {S : Sig} {P : Type 0} (rows : PlaceTable S P) (r s t : Row S P) (a b : List (Step S))
    → Run rows r a s → Run rows r b t → Agree a b → OneGoesOn rows a s b t
one_list_agreed rows r s t [] b p q h =
    inl (record { more = b; joined = refl; run = subst (λ row. Run rows row b t) p q })
one_list_agreed rows r s t (x ∷ a) [] p q h =
    inr (record { more = x ∷ a; joined = refl; run = subst (λ row. Run rows row (x ∷ a) s) q p })
one_list_agreed {S} rows (Do act go) s t (x ∷ a) (y ∷ b) p q h =
    let same = same_answer act p.0 q.0 x y p.1 q.1 h.0 in
    both_behind x y (step_of act p.0 q.0 x y p.1 q.1 same) (one_list_agreed rows (go p.0) s t a b p.2 (subst (λ answer. Run rows (go answer) b t) (sym same) q.2) h.1)
one_list_agreed {S} rows (At place) s t (x ∷ a) (y ∷ b) p q h =
    let same = same_answer (rows.act place) p.0 q.0 x y p.1 q.1 h.0 in
    both_behind x y (step_of (rows.act place) p.0 q.0 x y p.1 q.1 same) (one_list_agreed rows (rows.go place p.0) s t a b p.2 (subst (λ answer. Run rows (rows.go place answer) b t) (sym same) q.2) h.1)
one_list_agreed rows Over s t (x ∷ a) (y ∷ b) p q h = absurd p
