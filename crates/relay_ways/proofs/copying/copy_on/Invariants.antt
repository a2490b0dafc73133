use Rattle.relay_ways.proofs.WayLemmas.{Going}
use Rattle.relay_ways.proofs.copying.copy_on.Given as goal

abbrev pub invariant-loop-left : goal.invariant-loop-left
invariant-loop-left g l = Going l.fn.left l.left (g.S.Source.source_view l.fn.from) (g.S.Source.source_view l.from) (g.K.Sink.sink_view l.fn.to) (g.K.Sink.sink_view l.to)

abbrev pub decreases-loop-left : goal.decreases-loop-left
decreases-loop-left g l = l.left
