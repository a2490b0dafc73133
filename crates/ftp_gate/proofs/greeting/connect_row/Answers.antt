use Rattle.std.proofs.Common.{◌∙◌}
use Rattle.session_acts.proofs.Acting.{did}
use Rattle.ftp_gate.proofs.RowLemmas.{log_halted, logged_as}
use Rattle.ftp_gate.proofs.greeting.connect_row.Goals as goal

pub returns-in_err-log : goal.returns-in_err-log
returns-in_err-log g c = log_halted (c.as_slice.ensures.value ∙ c.connect_line-line.ensures) c.in_err-log.ensures c.from_residual.ensures.1

pub returns : goal.returns
returns g c = logged_as (c.as_slice.ensures.value ∙ c.connect_line-line.ensures) c.in_ok-log.ensures (did c.dial-up.ensures c.dialed_row.ensures)
