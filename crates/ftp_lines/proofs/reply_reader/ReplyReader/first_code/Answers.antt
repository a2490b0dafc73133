use Rattle.std.proofs.Common.{ap, ◌∙◌}
use Rattle.ftp_lines.specs.Opening.{first_code_by}
use Rattle.ftp_lines.specs.Reply.{first_code}
use Rattle.ftp_lines.specs.ReplyReaderView.{ReplyReaderView}
use Rattle.ftp_lines.proofs.FirstCodeLemmas.{reader_code}
use Rattle.ftp_lines.proofs.reply_reader.ReplyReader.first_code.Goals as goal

pub returns : goal.returns
returns c =
    c.first_code.ensures ∙ ap (first_code_by c.self.inside.opening) c.begun.ensures
    ∙ reader_code _ _ _ c.self.invariant ∙ ap (λ (r : ReplyReaderView). first_code r.fed) c.self.view_is
