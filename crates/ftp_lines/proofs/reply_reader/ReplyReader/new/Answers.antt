use Rattle.std.proofs.Common.{ap}
use Rattle.ftp_lines.specs.ReplyLineView.{ReplyLineView, going}
use Rattle.ftp_lines.proofs.ReaderStateLemmas.{stands_first}
use Rattle.ftp_lines.proofs.reply_reader.ReplyReader.new.Goals as goal

pub invariant_of-result : goal.invariant_of-result
invariant_of-result c =
    stands_first c.nothing.result.value c.new.result c.nothing.ensures (ap (λ (g : ReplyLineView). going g.kept g.ended) c.new.ensures)
