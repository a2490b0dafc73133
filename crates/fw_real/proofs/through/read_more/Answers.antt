use Rattle.std.proofs.Common.{arith}
use Rattle.fw_real.proofs.FileLemmas.{reads_more}
use Rattle.fw_real.proofs.through.read_more.Goals as goal

pub returns-clause-bytes : goal.returns-clause-bytes
returns-clause-bytes g c =
    reads_more c.args.done c.args.at c.in_ok-place.place _ c.args.buf.now c.read_once.new.buf _ (g.F.RawFile.file_view c.args.file.now) c.read_once.result (omega (arith, c.requires)) c.in_ok-place.ensures
    c.read_once.ensures.bound c.read_once.ensures.bytes
