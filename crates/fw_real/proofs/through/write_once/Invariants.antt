use Rattle.std.proofs.Common.{◌≡◌}
use Rattle.fw_real.proofs.through.write_once.Given as goal

abbrev pub invariant-loop : goal.invariant-loop
invariant-loop g l = g.F.RawFile.file_view l.file ≡ g.F.RawFile.file_view l.initial.file
