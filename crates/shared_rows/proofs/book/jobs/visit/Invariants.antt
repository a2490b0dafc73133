use Rattle.std.proofs.Common.{◌≡◌}
use Rattle.shared_rows.proofs.book.jobs.visit.Given as goal

abbrev pub invariant-loop : goal.invariant-loop
invariant-loop g l = l.port.origin ≡ l.fn.port.origin
