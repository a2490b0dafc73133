use Rattle.std.proofs.Common.{sym, ◌∙◌}
use Rattle.ftp_gate.proofs.commands.outward_row.Goals as goal

pub returns-then-is_denied : goal.returns-then-is_denied
returns-then-is_denied g c = rw (sym c.is_denied.ensures ∙ c.if-is_denied.true) c.denied_row.ensures

pub returns : goal.returns
returns g c = rw (sym c.is_denied.ensures ∙ c.if-is_denied.false) c.login_row.ensures
