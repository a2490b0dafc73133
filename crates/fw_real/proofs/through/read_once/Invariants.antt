use Rattle.std.proofs.Common.{◌≡◌, length}
use Rattle.fw_real.proofs.through.read_once.Given as goal

abbrev pub invariant-loop : goal.invariant-loop
invariant-loop g l = record {
  room : length l.buf ≡ length l.initial.buf;
  same : g.F.RawFile.file_view l.file ≡ g.F.RawFile.file_view l.initial.file;
}
