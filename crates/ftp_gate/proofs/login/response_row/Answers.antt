use Rattle.std.proofs.Common.{sym, ℕ, List}
use Rattle.ftp_gate.specs.Dialogue.{response_row}
use Rattle.ftp_gate.proofs.RowLemmas.{row_as}
use Rattle.ftp_gate.proofs.login.response_row.Goals as goal

pub returns-in-Unopened : goal.returns-in-Unopened
returns-in-Unopened g c = rw c.in-Unopened.is c.tell_row.ensures

pub returns-in-Opened : goal.returns-in-Opened
returns-in-Opened g c = rw (c.in-Opened.is, sym c.twin-name.ensures) c.respond_row.ensures
