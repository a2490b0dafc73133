use Rattle.std.proofs.Common.{sym}
use Rattle.smap_gate.proofs.rows.mail_row.Goals as goal

pub returns-in-Waiting-clause-ran : goal.returns-in-Waiting-clause-ran
returns-in-Waiting-clause-ran g c = rw (c.in-Waiting.is, sym c.path_behind.ensures.is) c.sender_row.ensures.ran

pub returns-in-Mailing-clause-ran : goal.returns-in-Mailing-clause-ran
returns-in-Mailing-clause-ran g c = rw c.in-Mailing.is c.tell_at.ensures.ran
