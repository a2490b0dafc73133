use Rattle.std.proofs.Common.{subst, inr, ◌∙◌, List, ℕ}
use Rattle.gate_rules.specs.declared.verdict.Verdict.TheVariants.{Permit}
use Rattle.bastion.specs.Works.{Shown}
use Rattle.bastion.proofs.deciding.show_permit.Goals as goal

pub returns : goal.returns
returns g c =
    let Says : List ℕ → Type 0 = λ t. Shown (Permit c.args.line) t c.show_text.result c.args.world.now c.show_text.new.world in
    inr (subst Says (c.bytes.ensures ∙ c.in-Ok.ensures) c.show_text.ensures)
