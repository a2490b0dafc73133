use Rattle.std.proofs.Common.{sym}
use Rattle.authsrv_gate.proofs.rows.fault_row.Goals as goal

pub returns-clause-ran : goal.returns-clause-ran
returns-clause-ran g c = rw (sym c.text.ensures) c.tell_line.ensures.ran
