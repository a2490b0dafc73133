use Rattle.fw_acts.specs.Acts.Row.{Do}
use Rattle.session_acts.specs.Acts.Act.{TakeReply}
use Rattle.session_acts.specs.declared.reply_use.ReplyUse.TheVariants.{Dropped}
use Rattle.session_acts.proofs.Acting.{did}
use Rattle.ftp_gate.specs.Dialogue.{passive_row}
use Rattle.ftp_gate.specs.declared.place.State.{State}
use Rattle.ftp_gate.proofs.RowLemmas.{row_as}
use Rattle.ftp_gate.proofs.transfers.set_row.Goals as goal

pub returns : goal.returns
returns g c =
    did c.in_ok-pass.ensures
    (row_as (λ (s : State). Do (TakeReply Dropped) (λ heard. passive_row c.args.script.now s c.args.dest.now c.args.target c.args.toward c.args.order.now heard.0)) c.with_setting.ensures c.data_row.ensures)
