use Rattle.fw_outside.proofs.ListenLemmas.{Going}
use Rattle.fw_outside.proofs.line_reader.LineReader.next.Given as goal

abbrev pub invariant-loop-text : goal.invariant-loop-text
invariant-loop-text g l = Going l.text l.fn.self l.self (g.S.Source.source_view l.fn.from) (g.S.Source.source_view l.from)

abbrev pub decreases-loop-text : goal.decreases-loop-text
decreases-loop-text g l = l.self.room
