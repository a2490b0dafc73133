use Rattle.std.proofs.Common.{ap}
use Rattle.ftp_lines.specs.ReplyReaderView.{ReplyReaderView}
use Rattle.session_acts.proofs.ReplyPassLemmas.{passed_first}
use Rattle.session_acts.proofs.replying.hear_passed.Goals as goal

pub returns : goal.returns
returns g c = λ outlet client. passed_first _ _ c.pass_rest.result _ _ _ _ (ap (λ (v : ReplyReaderView). v.fed) c.new.ensures) c.new-2.ensures (c.pass_rest.ensures outlet client)
