use Rattle.std.proofs.Common.{ap, ◌∙◌, ℕ}
use Rattle.tn_gate.specs.Dialogue.{refusing_line}
use Rattle.tn_gate.proofs.RowLemmas.{refused_by}
use Rattle.tn_gate.proofs.commands.unpermitted_row.Goals as goal

pub returns : goal.returns
returns g c =
    refused_by c.args.script.now c.args.dest.now (c.refusing_line-number.ensures ∙ ap (λ (line : ℕ). refusing_line line c.args.reply.now) c.line.ensures) c.refuse_row.ensures
