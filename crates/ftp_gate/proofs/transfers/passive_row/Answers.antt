use Rattle.std.proofs.Common.{Option, ℕ}
use Rattle.ftp_gate.specs.Dialogue.{ported_row}
use Rattle.ftp_gate.proofs.RowLemmas.{row_as}
use Rattle.ftp_gate.proofs.transfers.passive_row.Goals as goal

pub returns-in-Whole : goal.returns-in-Whole
returns-in-Whole g c = rw c.in-Whole.is (row_as (λ (p : Option ℕ). ported_row c.args.script.now c.args.state c.args.dest.now c.args.target c.args.toward c.args.order.now p) c.data_port.ensures c.ported_row.ensures)

pub returns-in-Ended : goal.returns-in-Ended
returns-in-Ended g c = rw c.in-Ended.is c.closed_row.ensures.ran
