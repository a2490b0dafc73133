use Rattle.std.proofs.Common.{◌∙◌, ℕ, List}
use Rattle.ftp_gate.specs.Dialogue.{tell_row}
use Rattle.ftp_gate.proofs.RowLemmas.{log_halted, logged_as, row_as}
use Rattle.ftp_gate.proofs.destinations.refuse_row.Goals as goal

pub returns-in_err-log : goal.returns-in_err-log
returns-in_err-log g c = log_halted (c.as_slice.ensures.value ∙ c.refuse_line-line.ensures) c.in_err-log.ensures c.from_residual.ensures.1

pub returns : goal.returns
returns g c = logged_as (c.as_slice.ensures.value ∙ c.refuse_line-line.ensures) c.in_ok-log.ensures (row_as (λ (t : List ℕ). tell_row t c.args.state) (c.as_slice-2.ensures.value ∙ c.dest_denied-words.ensures) c.tell_row.ensures)
