-- The first line that fits.
use Rattle.std.proofs.Common.{◌≡◌, ℕ, suc, ◌<◌, Bool, true, List, ◌∷◌, length, drop, get_or, drop-cons, refl, sym, ◌∙◌, ap}
use Rattle.std.specs.Prelude.{filter}
use Rattle.gate_rules.specs.declared.verdict.Verdict.{Verdict}
use Rattle.auth_machine.specs.Operations.{first_decides}
use Rattle.auth_machine.specs.declared.operation.OperationLine.{OperationLine}

first_kept : (p : OperationLine → Bool) (line : OperationLine) (more : List OperationLine) → p line ≡ true → first_decides (filter p (line ∷ more)) ≡ first_decides (line ∷ filter p more)
first_kept p line more e = rw e refl

pub decided : (p : OperationLine → Bool) (lines : List OperationLine) (at : ℕ) (line : OperationLine) (verdict : Verdict) → at < length lines → line ≡ get_or lines at line → p line ≡ true
    → ((more : List OperationLine) → verdict ≡ first_decides (line ∷ more)) → first_decides (filter p (drop at lines)) ≡ first_decides (filter p lines) → verdict ≡ first_decides (filter p lines)
decided p lines at line verdict within is e says same =
    let next : drop at lines ≡ line ∷ drop (suc at) lines = drop-cons lines at line within ∙ ap (λ (first : OperationLine). first ∷ drop (suc at) lines) (sym is) in
    says (filter p (drop (suc at) lines)) ∙ sym (first_kept p line (drop (suc at) lines) e) ∙ ap (λ xs. first_decides (filter p xs)) (sym next) ∙ same
