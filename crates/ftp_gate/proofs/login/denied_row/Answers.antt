use Rattle.std.proofs.Common.{ap, ◌∙◌, ℕ, List}
use Rattle.ftp_gate.specs.Dialogue.{failed_row, with_account}
use Rattle.ftp_gate.specs.declared.place.State.{State}
use Rattle.ftp_gate.specs.declared.place.Account.TheVariants.{Opened}
use Rattle.ftp_gate.proofs.RowLemmas.{row_as}
use Rattle.ftp_gate.proofs.login.denied_row.Goals as goal

pub returns : goal.returns
returns g c = row_as (λ (s : State). failed_row c.args.script.now c.args.name c.args.denial s) (c.with_account.ensures ∙ ap (λ (n : List ℕ). with_account (Opened n c.args.stands) c.args.state) c.twin.ensures) c.failed_row.ensures
