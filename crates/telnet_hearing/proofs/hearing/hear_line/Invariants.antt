use Rattle.std.proofs.Common.{◌+◌, length}
use Rattle.telnet_hearing.proofs.HearingLemmas.{Telling}
use Rattle.telnet_hearing.proofs.hearing.hear_line.Given as goal

abbrev pub invariant-loop-byte : goal.invariant-loop-byte
invariant-loop-byte g l = Telling l.telnet l.fn.reader l.reader (g.S.Source.source_view l.fn.from) (g.S.Source.source_view l.from)

abbrev pub decreases-loop-byte : goal.decreases-loop-byte
decreases-loop-byte g l = length l.reader.pending + l.reader.room
