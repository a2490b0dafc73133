use Rattle.std.proofs.Common.{sym, ◌∙◌}
use Rattle.ftp_gate.proofs.login.authorize_row.Goals as goal

pub returns-in-Some : goal.returns-in-Some
returns-in-Some g c = rw (sym c.read.ensures ∙ c.in-Some.is) c.name_row.ensures

pub returns-in-None : goal.returns-in-None
returns-in-None g c = rw (sym c.read.ensures ∙ c.in-None.is) c.tell_row.ensures
