use Rattle.session_acts.proofs.Acting.{did}
use Rattle.ftp_gate.proofs.greeting.greeting_row.Goals as goal

pub returns : goal.returns
returns g c = did c.in_ok-replied.ensures.met c.greeted_row.ensures
