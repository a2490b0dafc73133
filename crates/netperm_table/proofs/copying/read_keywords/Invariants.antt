use Rattle.std.proofs.Common.{◌≡◌, filter, map}
use Rattle.netperm_table.specs.Words.{is_some_bytes}
use Rattle.netperm_table.proofs.copying.read_keywords.Given as goal

abbrev pub invariant-loop-part : goal.invariant-loop-part
invariant-loop-part l = l.keywords ≡ filter is_some_bytes (map (λ part. part.now) l.yielded)
