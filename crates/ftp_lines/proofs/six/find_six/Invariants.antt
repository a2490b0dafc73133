use Rattle.std.proofs.Common.{◌≡◌, drop}
use Rattle.ftp_lines.specs.Six.{find_of}
use Rattle.ftp_lines.proofs.six.find_six.Given as goal

abbrev pub invariant-loop-at : goal.invariant-loop-at
invariant-loop-at l = find_of (drop l.at l.text) ≡ find_of l.text
