use Rattle.std.proofs.Common.{subst, ◌∙◌, List, ℕ}
use Rattle.gate_rules.specs.declared.verdict.Verdict.TheVariants.{Permit}
use Rattle.bastion.specs.Deciding.{OrLacks}
use Rattle.bastion.specs.Texts.{print_text}
use Rattle.bastion.specs.Works.{AnnouncedRun}
use Rattle.bastion.proofs.starting.permit_run.Goals as goal

pub returns : goal.returns
returns g c =
    let Says : List ℕ → List (List ℕ) → Type 0 = λ t w. OrLacks c.permit_words.result c.args.world.now c.permit_words.new.world (AnnouncedRun c.args.query.now (Permit c.args.line) t w c.permit_words.result c.args.world.now c.permit_words.new.world) in
    subst (λ (w : List (List ℕ)). Says (print_text c.args.rules.now (Permit c.args.line)) w) c.exec_at.ensures (subst (λ (t : List ℕ). Says t c.exec_at.result.now) (c.bytes.ensures ∙ c.in-Ok.ensures) c.permit_words.ensures)
