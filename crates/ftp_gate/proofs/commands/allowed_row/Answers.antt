use Rattle.std.proofs.Common.{sym}
use Rattle.ftp_gate.proofs.commands.allowed_row.Goals as goal

pub returns-in-User : goal.returns-in-User
returns-in-User g c = rw (c.in-User.is, sym c.arg.ensures.is) c.user_row.ensures

pub returns-in-Served : goal.returns-in-Served
returns-in-Served g c = rw c.in-Served.is c.served_row.ensures
