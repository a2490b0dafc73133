use Rattle.std.proofs.Common.{◌+◌, length}
use Rattle.session_acts.proofs.ReplyPassLemmas.{ComingBy}
use Rattle.session_acts.proofs.replying.pass_rest.Given as goal

abbrev pub invariant-loop-byte : goal.invariant-loop-byte
invariant-loop-byte g l =
    ComingBy l.fn.replies.fed l.fn.kept.items l.replies.fed l.kept.items l.fn.reader l.reader (g.I.Source.source_view l.fn.from) (g.I.Source.source_view l.from) (g.K.Sink.sink_view l.fn.to) (g.K.Sink.sink_view l.to)

abbrev pub decreases-loop-byte : goal.decreases-loop-byte
decreases-loop-byte g l = length l.reader.pending + l.reader.room
