use Rattle.std.proofs.Common.{ap, ◌∙◌}
use Rattle.ftp_gate.specs.Texts.{passed_line}
use Rattle.ftp_gate.proofs.RowLemmas.{pass_halted, passed_as}
use Rattle.ftp_gate.proofs.copies.give_row.Goals as goal

pub returns-in_err-pass : goal.returns-in_err-pass
returns-in_err-pass g c = pass_halted (c.as_slice.ensures.value ∙ c.passed_line-text.ensures ∙ ap passed_line c.line.ensures.is) c.in_err-pass.ensures c.from_residual.ensures.1

pub returns : goal.returns
returns g c = passed_as (c.as_slice.ensures.value ∙ c.passed_line-text.ensures ∙ ap passed_line c.line.ensures.is) c.in_ok-pass.ensures c.await_row.ensures
