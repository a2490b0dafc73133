use Rattle.std.proofs.Common.{◌∙◌}
use Rattle.ftp_gate.proofs.RowLemmas.{log_halted, logged_as}
use Rattle.ftp_gate.proofs.commands.blocked_row.Goals as goal

pub returns-in_err-log : goal.returns-in_err-log
returns-in_err-log g c = log_halted (c.as_slice.ensures.value ∙ c.blocked_line-line.ensures) c.in_err-log.ensures c.from_residual.ensures.1

pub returns : goal.returns
returns g c = logged_as (c.as_slice.ensures.value ∙ c.blocked_line-line.ensures) c.in_ok-log.ensures c.tell_row.ensures
