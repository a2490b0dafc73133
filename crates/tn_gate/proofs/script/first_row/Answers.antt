use Rattle.std.proofs.Common.{sym, ◌∙◌}
use Rattle.tn_gate.proofs.script.first_row.Goals as goal

pub returns-then-asks_login : goal.returns-then-asks_login
returns-then-asks_login g c = rw (sym c.asks_login.ensures ∙ c.if-asks_login.true) c.ask_name.ensures

pub returns : goal.returns
returns g c = rw (sym c.asks_login.ensures ∙ c.if-asks_login.false) c.ask_command.ensures
