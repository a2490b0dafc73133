use Rattle.std.proofs.Common.{subst, sym, ◌∙◌, List, ℕ}
use Rattle.gate_rules.specs.declared.verdict.Verdict.{Verdict}
use Rattle.gate_rules.specs.declared.verdict.Verdict.TheVariants.{Deny}
use Rattle.bastion.specs.Deciding.{Reports}
use Rattle.bastion.specs.Works.{Shown}
use Rattle.bastion.proofs.deciding.show.Goals as goal

pub returns-in-Deny : goal.returns-in-Deny
returns-in-Deny g c =
    let By : Verdict → Type 0 = λ v. Reports v c.args.rules.now c.show_text.result c.args.world.now c.show_text.new.world in
    let Says : List ℕ → Type 0 = λ t. Shown (Deny c.in-Deny.line) t c.show_text.result c.args.world.now c.show_text.new.world in
    subst By (sym c.in-Deny.is ∙ c.verdict_of-verdict.ensures) (subst Says (c.as_slice.ensures.value ∙ c.denial_report.ensures) c.show_text.ensures)
