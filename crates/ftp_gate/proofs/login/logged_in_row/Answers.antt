use Rattle.std.proofs.Common.{◌∙◌}
use Rattle.ftp_gate.specs.Dialogue.{tell_row}
use Rattle.ftp_gate.specs.Texts.{login_ok}
use Rattle.ftp_gate.specs.declared.place.State.{State}
use Rattle.ftp_gate.proofs.RowLemmas.{log_halted, logged_as, row_as}
use Rattle.ftp_gate.proofs.login.logged_in_row.Goals as goal

pub returns-in_err-log : goal.returns-in_err-log
returns-in_err-log g c = log_halted (c.as_slice.ensures.value ∙ c.login_line-line.ensures) c.in_err-log.ensures c.from_residual.ensures.1

pub returns : goal.returns
returns g c = logged_as (c.as_slice.ensures.value ∙ c.login_line-line.ensures) c.in_ok-log.ensures (row_as (λ (s : State). tell_row login_ok s) c.with_account.ensures c.tell_row.ensures)
