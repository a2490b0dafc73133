use Rattle.std.proofs.Common.{◌-◌, ◌≤◌}
use Rattle.netperm_table.specs.Progress.{MayGoOn, farthest, reached}
use Rattle.netperm_table.proofs.TakingLemmas.{ReadsOn}
use Rattle.netperm_table.proofs.table.read_lines.Given as goal

abbrev pub invariant-loop-reader : goal.invariant-loop-reader
invariant-loop-reader g l = record {
  reads : ReadsOn (g.S.Source.source_view l.fn.from) (g.S.Source.source_view l.from) l.reader;
  goes_on : MayGoOn l.reader;
  within : reached l.reader ≤ farthest;
}

abbrev pub decreases-loop-reader : goal.decreases-loop-reader
decreases-loop-reader g l = farthest - reached l.reader
