use Rattle.std.proofs.Common.{◌+◌, length}
use Rattle.session_acts.proofs.DataLemmas.{Gathering}
use Rattle.session_acts.proofs.depositing.hear_data.Given as goal

abbrev pub invariant-loop-byte : goal.invariant-loop-byte
invariant-loop-byte g l = Gathering l.body l.fn.reader l.reader (g.S.Source.source_view l.fn.from) (g.S.Source.source_view l.from) l.fn.left l.fn.tray l.left l.tray

abbrev pub decreases-loop-byte : goal.decreases-loop-byte
decreases-loop-byte g l = length l.reader.pending + l.reader.room
