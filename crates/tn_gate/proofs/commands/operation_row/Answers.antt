use Rattle.std.proofs.Common.{ap}
use Rattle.auth_events.specs.declared.request.OpService.TheVariants.{Telnet}
use Rattle.auth_events.specs.declared.request.Request.TheVariants.{Operation}
use Rattle.tn_gate.proofs.RowLemmas.{asked_as}
use Rattle.tn_gate.proofs.commands.operation_row.Goals as goal

pub returns : goal.returns
returns g c = asked_as (ap (Operation Telnet) c.twin.ensures) c.in_ok-reply.ensures c.operated_row.ensures
