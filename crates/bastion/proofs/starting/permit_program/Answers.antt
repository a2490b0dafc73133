use Rattle.std.proofs.Common.{subst, inr, ◌∷◌, List, ℕ}
use Rattle.gate_rules.specs.declared.verdict.Verdict.TheVariants.{Permit}
use Rattle.bastion.specs.Works.{AnnouncedRun}
use Rattle.bastion.proofs.starting.permit_program.Goals as goal

pub returns : goal.returns
returns g c =
    let Says : List ℕ → List (List ℕ) → Type 0 = λ p a. AnnouncedRun c.args.query.now (Permit c.args.line) c.args.text.now (p ∷ a) c.announce_and_launch.result c.args.world.now c.announce_and_launch.new.world in
    inr (subst (λ (a : List (List ℕ)). Says c.args.program.now a) c.in-Ok.ensures (subst (λ (p : List ℕ). Says p c.in-Ok.copy) c.bytes.ensures c.announce_and_launch.ensures))
