use Rattle.std.proofs.Common.{ap, ◌∙◌}
use Rattle.ftp_gate.specs.LogLines.{command_line}
use Rattle.ftp_gate.proofs.RowLemmas.{log_halted, logged_as}
use Rattle.ftp_gate.proofs.copies.log_row.Goals as goal

pub returns-in_err-log : goal.returns-in_err-log
returns-in_err-log g c = log_halted (c.as_slice.ensures.value ∙ c.command_line-line.ensures ∙ ap (command_line c.args.script.now) c.verb.ensures) c.in_err-log.ensures c.from_residual.ensures.1

pub returns : goal.returns
returns g c = logged_as (c.as_slice.ensures.value ∙ c.command_line-line.ensures ∙ ap (command_line c.args.script.now) c.verb.ensures) c.in_ok-log.ensures c.give_row.ensures
