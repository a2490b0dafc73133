use Rattle.std.proofs.Common.{arith, sym}
use Rattle.host_pattern.proofs.BucketLemmas.{unpadded}
use Rattle.host_pattern.proofs.bucket.octet_written.Goals as goal

pub returns : goal.returns
returns c = unpadded c.args.text.now c.args.number c.requires (omega arith) (sym c.if-is_padded.ensures)
