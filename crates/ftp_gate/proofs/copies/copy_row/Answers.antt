use Rattle.std.proofs.Common.{Option}
use Rattle.session_acts.proofs.Acting.{did}
use Rattle.ftp_gate.specs.Dialogue.{copied_row, is_done}
use Rattle.ftp_gate.proofs.RowLemmas.{row_as}
use Rattle.relay_ways.specs.declared.way_end.WayEnd.{WayEnd}
use Rattle.ftp_gate.proofs.copies.copy_row.Goals as goal

pub returns : goal.returns
returns g c = did c.copy-end.ensures.met (row_as (λ (e : Option WayEnd). copied_row c.args.state (is_done e)) c.copy-end.ensures.is c.copied_row.ensures)
