use Rattle.std.proofs.Common.{sym, ◌∙◌}
use Rattle.tn_gate.proofs.RowLemmas.{refused_by}
use Rattle.tn_gate.proofs.commands.dest_row.Goals as goal

pub returns-then-is_allowed : goal.returns-then-is_allowed
returns-then-is_allowed g c = rw (sym c.is_allowed.ensures ∙ c.if-is_allowed.true) c.permitted_row.ensures

pub returns : goal.returns
returns g c =
    rw (sym c.is_allowed.ensures ∙ c.if-is_allowed.false) (refused_by c.args.script.now c.args.dest.now c.line.ensures c.refuse_row.ensures)
