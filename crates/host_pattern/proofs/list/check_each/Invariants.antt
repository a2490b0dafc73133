use Rattle.std.proofs.Common.{◌≡◌, drop}
use Rattle.std.specs.List.{filter_map, enumerate_from}
use Rattle.host_pattern.specs.PatternList.{bad}
use Rattle.host_pattern.proofs.list.check_each.Given as goal

abbrev pub invariant-loop-at : goal.invariant-loop-at
invariant-loop-at l =
    filter_map bad (enumerate_from l.at (drop l.at l.words)) ≡ filter_map bad (enumerate_from 0 l.words)
