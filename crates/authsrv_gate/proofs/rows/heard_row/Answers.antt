use Rattle.std.proofs.Common.{sym}
use Rattle.authsrv_gate.proofs.rows.heard_row.Goals as goal

pub returns-in-Line-clause-ran : goal.returns-in-Line-clause-ran
returns-in-Line-clause-ran g c = rw (c.in-Line.is, sym c.as_slice.ensures.value) c.line_row.ensures.ran

pub returns-in-TooLong-clause-ran : goal.returns-in-TooLong-clause-ran
returns-in-TooLong-clause-ran g c = rw c.in-TooLong.is c.fault_row.ensures.ran

pub returns-in-Stopped-clause-ran : goal.returns-in-Stopped-clause-ran
returns-in-Stopped-clause-ran g c = rw c.in-Stopped.is c.end_row.ensures.ran
