use Rattle.std.proofs.Common.{◌∙◌, ◌+◌, ap, sym}
use Rattle.gate_rules.specs.Verdict.{rules_steps}
use Rattle.gate_rules.proofs.BucketLemmas.{whole_bucket}
use Rattle.gate_rules.proofs.merging.verdict_of_all.Goals as goal

pub returns-clause-steps : goal.returns-clause-steps
returns-clause-steps g c =
    c.verdict_in.ensures.steps ∙ ap (λ rules. c.args.steps.now + rules_steps c.args.peer.now rules) (sym (whole_bucket c.args.peer.now c.args.rules.now c.requires))

pub returns-clause-bound : goal.returns-clause-bound
returns-clause-bound g c =
    rw (whole_bucket c.args.peer.now c.args.rules.now c.requires) c.verdict_in.ensures.bound
