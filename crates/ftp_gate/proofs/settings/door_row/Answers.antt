use Rattle.session_acts.proofs.Acting.{did}
use Rattle.ftp_gate.proofs.settings.door_row.Goals as goal

pub returns : goal.returns
returns g c = did c.open_door-door.ensures c.doored_row.ensures
