use Rattle.std.proofs.Common.{◌≡◌, drop}
use Rattle.std.specs.Prelude.{filter}
use Rattle.std.specs.Result.{result_err}
use Rattle.gate_rules.specs.Reading.{book_of, is_of}
use Rattle.gate_rules.proofs.line_fault.first_fault.Given as goal

abbrev pub invariant-loop-line : goal.invariant-loop-line
invariant-loop-line l = result_err (book_of l.service (filter (is_of l.key) (drop l.line-index l.lines))) ≡ result_err (book_of l.service (filter (is_of l.key) l.lines))
