use Rattle.std.proofs.Common.{◌≡◌, length}
use Rattle.std.specs.List.{slice_split}
use Rattle.real_doors.specs.HostNames.{first_name, is_lf}
use Rattle.real_doors.proofs.host_names.name_in.Given as goal

abbrev pub invariant-loop-line : goal.invariant-loop-line
invariant-loop-line l = first_name l.host (slice_split is_lf l.fn.text) ≡ first_name l.host (slice_split is_lf l.rest)

abbrev pub decreases-loop-line : goal.decreases-loop-line
decreases-loop-line l = length l.rest
