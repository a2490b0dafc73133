use Rattle.std.proofs.Common.{subst, inr, ◌∙◌, List, ℕ}
use Rattle.gate_rules.specs.declared.verdict.Verdict.TheVariants.{Permit}
use Rattle.bastion.specs.Works.{Announced}
use Rattle.bastion.proofs.deciding.permit.Goals as goal

pub returns : goal.returns
returns g c =
    let Says : List ℕ → Type 0 = λ t. Announced c.args.query.now (Permit c.args.line) t c.announce.result c.args.world.now c.announce.new.world in
    inr (subst Says (c.bytes.ensures ∙ c.in-Ok.ensures) c.announce.ensures)
