use Rattle.std.proofs.Common.{ap, ◌∙◌, ℕ, List}
use Rattle.ftp_gate.specs.Dialogue.{pass_row}
use Rattle.ftp_gate.specs.Texts.{passed_line}
use Rattle.ftp_gate.proofs.RowLemmas.{row_as}
use Rattle.ftp_gate.proofs.commands.line_row.Goals as goal

pub returns : goal.returns
returns g c = row_as (λ (v : List ℕ). pass_row c.args.script.now c.args.state v (passed_line c.args.order.now.line) c.args.quits) c.verb.ensures (row_as (λ (t : List ℕ). pass_row c.args.script.now c.args.state c.verb.result.now t c.args.quits) (c.as_slice.ensures.value ∙ c.passed_line-text.ensures ∙ ap passed_line c.line.ensures.is) c.pass_row.ensures)
