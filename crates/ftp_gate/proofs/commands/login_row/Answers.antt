use Rattle.std.proofs.Common.{sym, ◌∙◌}
use Rattle.ftp_gate.proofs.commands.login_row.Goals as goal

pub returns-then-lacks_login : goal.returns-then-lacks_login
returns-then-lacks_login g c = rw (sym c.lacks_login.ensures ∙ c.if-lacks_login.true) c.unknown_row.ensures

pub returns : goal.returns
returns g c = rw (sym c.lacks_login.ensures ∙ c.if-lacks_login.false) c.allowed_row.ensures
