-- What the rows keep holds of every run.
use Rattle.std.specs.Prelude.{◌≡◌, List, [], ◌∷◌, ◌++◌, refl}
use Rattle.std.proofs.Common.{subst, sym}
use Rattle.fw_acts.specs.Acts.{Sig, Step, Row, PlaceTable}
use Rattle.fw_acts.specs.Acts.Row.{Do, At, Over}
use Rattle.fw_acts.specs.Runs.{Run, Next}
use Rattle.fw_acts.specs.Histories.{Watch, history, AllMay, Leaves, Keeps}

-- what rows keep holds of what any run leaves
pub run_leaves : {S : Sig} {P : Type 0} (rows : PlaceTable S P) (watch : Watch S P) → Keeps rows watch → (r s : Row S P) (noted : watch.Noted) (steps : List (Step S))
    → Leaves watch r noted → Run rows r steps s → Leaves watch s (history watch noted steps)
run_leaves rows watch keeps r s noted [] leaves run = subst (λ row. Leaves watch row noted) run leaves
run_leaves {S} rows watch keeps (Do act go) s noted (step ∷ steps) leaves run =
    subst (λ (z : Step S). Leaves watch s (history watch (watch.note noted z.act z.answer) steps)) (sym run.1) (run_leaves rows watch keeps (go run.0) s (watch.note noted act run.0) steps (leaves.1 run.0) run.2)
run_leaves {S} rows watch keeps (At place) s noted (step ∷ steps) leaves run =
    let next = keeps place noted leaves in
    subst (λ (z : Step S). Leaves watch s (history watch (watch.note noted z.act z.answer) steps)) (sym run.1) (run_leaves rows watch keeps (rows.go place run.0) s (watch.note noted (rows.act place) run.0) steps (next.1 run.0) run.2)
run_leaves rows watch keeps Over s noted (step ∷ steps) leaves run = absurd run

-- each act of a run may come where it came
pub run_may : {S : Sig} {P : Type 0} (rows : PlaceTable S P) (watch : Watch S P) → Keeps rows watch → (r s : Row S P) (noted : watch.Noted) (steps : List (Step S))
    → Leaves watch r noted → Run rows r steps s → AllMay watch noted steps
run_may rows watch keeps r s noted [] leaves run = tt
run_may {S} rows watch keeps (Do act go) s noted (step ∷ steps) leaves run =
    subst (λ (z : Step S). AllMay watch noted (z ∷ steps)) (sym run.1) (leaves.0, run_may rows watch keeps (go run.0) s (watch.note noted act run.0) steps (leaves.1 run.0) run.2)
run_may {S} rows watch keeps (At place) s noted (step ∷ steps) leaves run =
    let next = keeps place noted leaves in
    subst (λ (z : Step S). AllMay watch noted (z ∷ steps)) (sym run.1) (next.0, run_may rows watch keeps (rows.go place run.0) s (watch.note noted (rows.act place) run.0) steps (next.1 run.0) run.2)
run_may rows watch keeps Over s noted (step ∷ steps) leaves run = absurd run

-- and so may the act at which a run stands
pub next_may : {S : Sig} {P : Type 0} (rows : PlaceTable S P) (watch : Watch S P) → Keeps rows watch → (s : Row S P) (noted : watch.Noted) (act : S.Act)
    → Leaves watch s noted → Next rows s act → watch.may noted act
next_may rows watch keeps (Do first go) noted act leaves next = subst (λ z. watch.may noted z) next leaves.0
next_may rows watch keeps (At place) noted act leaves next = subst (λ z. watch.may noted z) next (keeps place noted leaves).0
next_may rows watch keeps Over noted act leaves next = absurd next

-- what is noted after acts and then others
pub history_joined : {S : Sig} {P : Type 0} (watch : Watch S P) (noted : watch.Noted) (first more : List (Step S))
    → history watch noted (first ++ more) ≡ history watch (history watch noted first) more
history_joined watch noted [] more = refl
history_joined watch noted (step ∷ first) more = history_joined watch (watch.note noted step.act step.answer) first more

-- where all acts may come, each one may come after what was noted of those before it
pub may_each : {S : Sig} {P : Type 0} (watch : Watch S P) (noted : watch.Noted) (first : List (Step S)) (step : Step S) (more : List (Step S))
    → AllMay watch noted (first ++ (step ∷ more)) → watch.may (history watch noted first) step.act
may_each watch noted [] step more all = all.0
may_each watch noted (other ∷ first) step more all = may_each watch (watch.note noted other.act other.answer) first step more all.1
