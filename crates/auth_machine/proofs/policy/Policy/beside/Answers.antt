use Rattle.std.proofs.Common.{◌≡◌, ◌∙◌, ap}
use Rattle.std.specs.Prelude.{map}
use Rattle.auth_machine.specs.Operations.{operation_lines}
use Rattle.auth_machine.specs.declared.operation.OperationLine.{OperationLine}
use Rattle.auth_machine.proofs.PolicyLemmas.{has_each}
use Rattle.auth_machine.proofs.policy.Policy.beside.Goals as goal

pub returns-clause-each : goal.returns-clause-each
returns-clause-each c =
    let said : c.in_ok-operations.operations.items ≡ operation_lines c.args.table.now = c.in_ok-operations.ensures ∙ ap operation_lines c.lines.ensures in
    ap (map (λ (line : OperationLine). line.number)) said ∙ has_each c.args.table.now c.args.rules.now c.requires
