use Rattle.std.proofs.Common.{sym, true, false, ◌∙◌}
use Rattle.tn_gate.proofs.RowLemmas.{permitted_as}
use Rattle.tn_gate.proofs.commands.permitted_row.Goals as goal

pub returns-then-extnd : goal.returns-then-extnd
returns-then-extnd g c =
    permitted_as c.args.script.now c.args.dest.now {one = true} (sym c.if-extnd.true ∙ c.extnd.ensures) c.operation_row.ensures

pub returns : goal.returns
returns g c = permitted_as c.args.script.now c.args.dest.now {one = false} (sym c.if-extnd.false ∙ c.extnd.ensures) c.connect_row.ensures
