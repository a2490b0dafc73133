use Rattle.session_acts.proofs.Acting.{did}
use Rattle.authsrv_gate.proofs.rows.quit_row.Goals as goal

pub returns-clause-ran : goal.returns-clause-ran
returns-clause-ran g c = did c.in_ok-reply.ensures c.tell_reply.ensures.ran
