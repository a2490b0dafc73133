use Rattle.std.proofs.Common.{◌∙◌, ℕ, List}
use Rattle.ftp_gate.specs.Dialogue.{tell_row}
use Rattle.ftp_gate.proofs.RowLemmas.{row_as}
use Rattle.ftp_gate.proofs.login.challenged_row.Goals as goal

pub returns : goal.returns
returns g c = row_as (λ (t : List ℕ). tell_row t c.args.state) (c.as_slice.ensures.value ∙ c.challenge_asked-text.ensures) c.tell_row.ensures
