use Rattle.std.proofs.Common.{sym}
use Rattle.ftp_gate.proofs.destinations.user_row.Goals as goal

pub returns-in-Some : goal.returns-in-Some
returns-in-Some g c = rw (c.in-Some.is, sym c.twin-dest.ensures) c.again_row.ensures

pub returns-in-None : goal.returns-in-None
returns-in-None g c = rw c.in-None.is c.wanted_row.ensures
