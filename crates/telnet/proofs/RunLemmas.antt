-- Steps over a whole text.
use Rattle.std.proofs.Common.{◌≡◌, ℕ, List, [], ◌∷◌, ◌++◌, map, append_assoc, append-nil, refl, sym, ap, ◌∙◌}
use Rattle.telnet.specs.Lines.{lines_heard}
use Rattle.telnet.proofs.ReadingLemmas.{nothing_heard}
use Rattle.telnet.specs.TelnetView.{AllFed, TelnetView, TelnetFed, all_told, told}

abbrev bytes_of : List TelnetFed → List ℕ
bytes_of steps = map (λ step. step.byte) steps

abbrev view_after : TelnetView → List TelnetFed → TelnetView
view_after before [] = before
view_after before (step ∷ steps) = view_after step.after steps

run : (before : TelnetView) (steps : List TelnetFed) (rest : List ℕ) → AllFed before steps →
    lines_heard (before.pending ++ (bytes_of steps ++ rest)) ≡ all_told steps ++ lines_heard ((view_after before steps).pending ++ rest)
run before [] rest h = refl
run before (step ∷ steps) rest h =
    h.0.hears.leads (bytes_of steps ++ rest)
    ∙ ap (λ t. told step.answer step.after.line ++ t) (run step.after steps rest h.1)
    ∙ sym (append_assoc (told step.answer step.after.line) (all_told steps) (lines_heard ((view_after step.after steps).pending ++ rest)))

-- behind the steps no line is left
prompt_after : (before : TelnetView) (steps : List TelnetFed) → lines_heard before.pending ≡ [] → AllFed before steps → lines_heard (view_after before steps).pending ≡ []
prompt_after before [] none h = none
prompt_after before (step ∷ steps) none h = prompt_after step.after steps h.0.prompt h.1

pub whole : (old : TelnetView) (steps : List TelnetFed) → old.pending ≡ [] → AllFed old steps → all_told steps ≡ lines_heard (bytes_of steps)
whole old steps empty h =
    let none : lines_heard old.pending ≡ [] = ap lines_heard empty ∙ nothing_heard in
    let after = view_after old steps in
    let end : lines_heard (after.pending ++ []) ≡ [] = ap lines_heard (append-nil after.pending) ∙ prompt_after old steps none h in
    sym (append-nil (all_told steps)) ∙ ap (λ t. all_told steps ++ t) (sym end) ∙ sym (run old steps [] h)
    ∙ ap (λ t. lines_heard (t ++ (bytes_of steps ++ []))) empty ∙ ap lines_heard (append-nil (bytes_of steps))
