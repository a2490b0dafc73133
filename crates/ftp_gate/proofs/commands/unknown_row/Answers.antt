use Rattle.std.proofs.Common.{ap, ◌∙◌, ℕ, List}
use Rattle.ftp_gate.specs.Dialogue.{blocked_row}
use Rattle.ftp_gate.specs.Texts.{log_in_first}
use Rattle.ftp_gate.proofs.RowLemmas.{row_as}
use Rattle.ftp_gate.proofs.commands.unknown_row.Goals as goal

pub returns : goal.returns
returns g c = row_as (λ (v : List ℕ). blocked_row c.args.script.now c.args.state v (log_in_first c.args.script.now.line)) c.verb.ensures (row_as (λ (t : List ℕ). blocked_row c.args.script.now c.args.state c.verb.result.now t) (c.as_slice.ensures.value ∙ c.log_in_first-words.ensures ∙ ap log_in_first c.line.ensures) c.blocked_row.ensures)
