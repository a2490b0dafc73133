use Rattle.std.proofs.Common.{ap, Bool}
use Rattle.auth_events.specs.declared.request.Request.TheVariants.{Authenticate}
use Rattle.ftp_gate.specs.Dialogue.{named_row}
use Rattle.ftp_gate.proofs.RowLemmas.{asked_as, row_as}
use Rattle.ftp_gate.proofs.login.authenticate_row.Goals as goal

pub returns : goal.returns
returns g c = asked_as (ap Authenticate c.twin.ensures) c.in_ok-reply.ensures (row_as (λ (b : Bool). named_row c.args.script.now c.args.state c.args.name b c.in_ok-reply.reply) c.still_stands-stands.ensures c.named_row.ensures)
