use Rattle.std.proofs.Common.{ap}
use Rattle.auth_events.specs.declared.request.OpService.TheVariants.{Ftp}
use Rattle.auth_events.specs.declared.request.Request.TheVariants.{Operation}
use Rattle.ftp_gate.proofs.RowLemmas.{asked_as}
use Rattle.ftp_gate.proofs.destinations.operation_row.Goals as goal

pub returns : goal.returns
returns g c = asked_as (ap (Operation Ftp) c.twin.ensures) c.in_ok-reply.ensures c.operated_row.ensures
