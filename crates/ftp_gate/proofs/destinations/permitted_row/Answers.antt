use Rattle.std.proofs.Common.{sym, true, false, ◌∙◌, Bool}
use Rattle.ftp_gate.specs.Dialogue.{permitted_row}
use Rattle.ftp_gate.proofs.RowLemmas.{row_as}
use Rattle.ftp_gate.proofs.destinations.permitted_row.Goals as goal

pub returns-then-extnd : goal.returns-then-extnd
returns-then-extnd g c = row_as (λ (b : Bool). permitted_row b c.args.script.now c.args.state c.args.name.now c.args.dest) (sym c.if-extnd.true ∙ c.extnd.ensures) c.operation_row.ensures

pub returns : goal.returns
returns g c = row_as (λ (b : Bool). permitted_row b c.args.script.now c.args.state c.args.name.now c.args.dest) (sym c.if-extnd.false ∙ c.extnd.ensures) c.connect_row.ensures
