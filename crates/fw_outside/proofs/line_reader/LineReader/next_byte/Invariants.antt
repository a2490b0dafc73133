use Rattle.fw_outside.proofs.ByteLemmas.{Seeking}
use Rattle.fw_outside.proofs.line_reader.LineReader.next_byte.Given as goal

abbrev pub invariant-loop-self : goal.invariant-loop-self
invariant-loop-self g l = Seeking l.fn.self l.self (g.S.Source.source_view l.fn.from) (g.S.Source.source_view l.from)

abbrev pub decreases-loop-self : goal.decreases-loop-self
decreases-loop-self g l = l.self.room
