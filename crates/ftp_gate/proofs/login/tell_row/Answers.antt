use Rattle.ftp_gate.proofs.login.tell_row.Goals as goal

pub returns : goal.returns
returns g c = c.tell.ensures.ran _
