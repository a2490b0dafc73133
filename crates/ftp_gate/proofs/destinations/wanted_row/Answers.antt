use Rattle.std.proofs.Common.{sym}
use Rattle.ftp_gate.proofs.destinations.wanted_row.Goals as goal

pub returns-in-Some : goal.returns-in-Some
returns-in-Some g c = rw c.in-Some.ensures.is c.dest_row.ensures

pub returns-in-None : goal.returns-in-None
returns-in-None g c = rw c.in-None.ensures.is c.tell_row.ensures
