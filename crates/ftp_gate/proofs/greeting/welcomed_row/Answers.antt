use Rattle.std.proofs.Common.{sym, ◌∙◌}
use Rattle.ftp_gate.specs.Dialogue.{pass_user_row}
use Rattle.ftp_gate.specs.declared.place.State.{State}
use Rattle.ftp_gate.proofs.RowLemmas.{row_as}
use Rattle.ftp_gate.proofs.greeting.welcomed_row.Goals as goal

pub returns-then-is_well : goal.returns-then-is_well
returns-then-is_well g c = rw (sym c.is_well.ensures ∙ c.if-is_well.true) (row_as (λ (s : State). pass_user_row c.args.script.now s c.args.name.now) c.with_dest.ensures c.pass_user_row.ensures)

pub returns : goal.returns
returns g c = rw (sym c.is_well.ensures ∙ c.if-is_well.false) c.unwelcome_row.ensures
