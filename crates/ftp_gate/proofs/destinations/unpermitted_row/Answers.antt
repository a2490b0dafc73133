use Rattle.std.proofs.Common.{ap, ◌∙◌, ℕ}
use Rattle.ftp_gate.specs.Dialogue.{refuse_row, refusing_line}
use Rattle.ftp_gate.proofs.RowLemmas.{row_as}
use Rattle.ftp_gate.proofs.destinations.unpermitted_row.Goals as goal

pub returns : goal.returns
returns g c = row_as (λ (n : ℕ). refuse_row c.args.script.now c.args.state c.args.dest.now n) (c.refusing_line-number.ensures ∙ ap (λ (n : ℕ). refusing_line n c.args.reply.now) c.line.ensures) c.refuse_row.ensures
