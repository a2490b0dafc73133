use Rattle.session_acts.proofs.Acting.{did}
use Rattle.ftp_gate.proofs.login.first_name_row.Goals as goal

pub returns : goal.returns
returns g c = did c.in_ok-reply.ensures c.opened_row.ensures
