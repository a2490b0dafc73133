use Rattle.ftp_gate.proofs.RowLemmas.{joined_as}
use Rattle.ftp_gate.proofs.transfers.join_row.Goals as goal

pub returns : goal.returns
returns g c = joined_as c.twin.ensures c.join-joined.ensures c.joined_row.ensures
