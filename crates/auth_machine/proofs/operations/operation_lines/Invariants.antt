use Rattle.std.proofs.Common.{◌≡◌, ◌++◌, drop}
use Rattle.auth_machine.specs.Operations.{operation_lines}
use Rattle.auth_machine.proofs.operations.operation_lines.Given as goal

abbrev pub invariant-loop-line : goal.invariant-loop-line
invariant-loop-line l = l.said.items ++ operation_lines (drop l.line-index l.lines) ≡ operation_lines l.lines
