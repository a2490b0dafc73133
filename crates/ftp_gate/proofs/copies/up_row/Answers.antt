use Rattle.std.proofs.Common.{ap, sym, ◌∙◌, ℕ, List}
use Rattle.gate_rules.specs.declared.options.Options.{Options}
use Rattle.ftp_gate.specs.Gate.{has_verb}
use Rattle.ftp_gate.proofs.copies.up_row.Goals as goal

pub returns-then-has_verb : goal.returns-then-has_verb
returns-then-has_verb g c =
    rw
    (ap (λ (o : Options). has_verb o.log c.args.order.now.verb) (sym c.options.ensures) ∙ ap (λ (v : List ℕ). has_verb c.options.result.now.log v) (sym c.verb.ensures) ∙ sym c.has_verb.ensures
    ∙ c.if-has_verb.true) c.log_row.ensures

pub returns : goal.returns
returns g c =
    rw
    (ap (λ (o : Options). has_verb o.log c.args.order.now.verb) (sym c.options.ensures) ∙ ap (λ (v : List ℕ). has_verb c.options.result.now.log v) (sym c.verb.ensures) ∙ sym c.has_verb.ensures
    ∙ c.if-has_verb.false) c.give_row.ensures
