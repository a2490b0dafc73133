use Rattle.ftp_gate.specs.Dialogue.{ftp_row}
use Rattle.ftp_gate.proofs.script.first_row.Goals as goal

pub returns : goal.returns
returns g c = c.tell_row.ensures
