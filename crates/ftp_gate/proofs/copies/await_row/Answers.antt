use Rattle.session_acts.proofs.Acting.{did}
use Rattle.ftp_gate.proofs.copies.await_row.Goals as goal

pub returns : goal.returns
returns g c = did c.in_ok-replied.ensures.met c.commanded_row.ensures
