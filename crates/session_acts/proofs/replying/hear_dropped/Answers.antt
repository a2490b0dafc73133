use Rattle.std.proofs.Common.{ap}
use Rattle.ftp_lines.specs.ReplyReaderView.{ReplyReaderView}
use Rattle.session_acts.proofs.ReplyPassLemmas.{dropped_first}
use Rattle.session_acts.proofs.replying.hear_dropped.Goals as goal

pub returns : goal.returns
returns g c = λ outlet client. dropped_first _ c.drop_rest.result _ _ client (ap (λ (v : ReplyReaderView). v.fed) c.new.ensures) (c.drop_rest.ensures outlet)
