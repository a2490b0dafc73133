use Rattle.std.proofs.Common.{sym}
use Rattle.session_acts.proofs.Acting.{did}
use Rattle.authsrv_gate.proofs.rows.session_row.Goals as goal

pub returns-clause-ran : goal.returns-clause-ran
returns-clause-ran g c = did c.in_ok-reply.ensures (rw (sym c.opened_place-place.ensures.is) c.tell_reply.ensures.ran)
