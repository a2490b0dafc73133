use Rattle.std.proofs.Common.{ap}
use Rattle.auth_events.specs.declared.request.Request.TheVariants.{Authenticate}
use Rattle.tn_gate.proofs.RowLemmas.{asked_as}
use Rattle.tn_gate.proofs.login.authenticate_row.Goals as goal

pub returns : goal.returns
returns g c = asked_as (ap Authenticate c.twin.ensures) c.in_ok-reply.ensures c.named_row.ensures
