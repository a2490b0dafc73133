use Rattle.std.proofs.Common.{◌≡◌, ◌≤◌, ◌-◌, length}
use Rattle.fw_real.specs.FileView.{ReadsTo}
use Rattle.fw_real.proofs.through.read_through.Given as goal

abbrev pub invariant-loop-done : goal.invariant-loop-done
invariant-loop-done g l = record {
  done : l.done ≤ length l.buf;
  room : length l.buf ≡ length l.initial.buf;
  same : g.F.RawFile.file_view l.file ≡ g.F.RawFile.file_view l.initial.file;
  read : ReadsTo l.done l.at l.buf (g.F.RawFile.file_view l.initial.file);
}

abbrev pub decreases-loop-done : goal.decreases-loop-done
decreases-loop-done g l = length l.buf - l.done
