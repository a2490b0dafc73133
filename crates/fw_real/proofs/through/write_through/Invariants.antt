use Rattle.std.proofs.Common.{length, Option}
use Rattle.fw_real.specs.FileView.{FileView, Lays}
use Rattle.fw_real.proofs.through.write_through.Given as goal

abbrev pub invariant-loop-rest : goal.invariant-loop-rest
invariant-loop-rest g l =
    (new : Option FileView) → Lays l.place l.rest (g.F.RawFile.file_view l.file) new → Lays l.initial.at l.initial.bytes (g.F.RawFile.file_view l.initial.file) new

abbrev pub decreases-loop-rest : goal.decreases-loop-rest
decreases-loop-rest g l = length l.rest
