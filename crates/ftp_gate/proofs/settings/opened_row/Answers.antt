use Rattle.std.proofs.Common.{◌∙◌, ℕ, List}
use Rattle.ftp_gate.specs.Dialogue.{tell_row}
use Rattle.ftp_gate.specs.Texts.{passive_mode}
use Rattle.ftp_gate.specs.declared.place.State.{State}
use Rattle.ftp_gate.proofs.RowLemmas.{row_as}
use Rattle.ftp_gate.proofs.settings.opened_row.Goals as goal

pub returns : goal.returns
returns g c = row_as (λ (s : State). tell_row (passive_mode c.args.addr c.args.port) s) c.with_setting.ensures (row_as (λ (t : List ℕ). tell_row t c.with_setting.result) (c.as_slice.ensures.value ∙ c.passive_mode-text.ensures) c.tell_row.ensures)
