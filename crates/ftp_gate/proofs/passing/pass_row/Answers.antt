use Rattle.std.proofs.Common.{ap, sym, ◌∙◌}
use Rattle.gate_rules.specs.declared.options.Options.{Options}
use Rattle.ftp_gate.specs.Gate.{has_verb}
use Rattle.ftp_gate.proofs.passing.pass_row.Goals as goal

pub returns-then-has_verb : goal.returns-then-has_verb
returns-then-has_verb g c =
    rw (ap (λ (o : Options). has_verb o.log c.args.verb.now) (sym c.options.ensures) ∙ sym c.has_verb.ensures ∙ c.if-has_verb.true) c.log_row.ensures

pub returns : goal.returns
returns g c = rw (ap (λ (o : Options). has_verb o.log c.args.verb.now) (sym c.options.ensures) ∙ sym c.has_verb.ensures ∙ c.if-has_verb.false) c.give_row.ensures
