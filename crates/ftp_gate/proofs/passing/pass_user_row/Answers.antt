use Rattle.std.proofs.Common.{◌∙◌, ℕ, List, false}
use Rattle.ftp_gate.specs.Dialogue.{pass_row}
use Rattle.ftp_gate.specs.Texts.{user_text}
use Rattle.ftp_gate.proofs.RowLemmas.{row_as}
use Rattle.ftp_gate.proofs.passing.pass_user_row.Goals as goal

pub returns : goal.returns
returns g c = row_as (λ (v : List ℕ). pass_row c.args.script.now c.args.state v (user_text c.args.name.now) false) c.user_verb-verb.ensures (row_as (λ (t : List ℕ). pass_row c.args.script.now c.args.state c.user_verb-verb.result t false) (c.as_slice.ensures.value ∙ c.user_text-text.ensures) c.pass_row.ensures)
