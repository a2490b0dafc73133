use Rattle.std.proofs.Common.{◌+◌, length}
use Rattle.session_acts.proofs.ReplyReadLemmas.{Coming}
use Rattle.session_acts.proofs.replying.drop_rest.Given as goal

abbrev pub invariant-loop-byte : goal.invariant-loop-byte
invariant-loop-byte g l = Coming l.fn.replies.fed l.replies.fed l.fn.reader l.reader (g.I.Source.source_view l.fn.from) (g.I.Source.source_view l.from)

abbrev pub decreases-loop-byte : goal.decreases-loop-byte
decreases-loop-byte g l = length l.reader.pending + l.reader.room
