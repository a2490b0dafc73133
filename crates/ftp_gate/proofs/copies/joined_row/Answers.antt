use Rattle.std.proofs.Common.{sym, ◌∙◌}
use Rattle.ftp_gate.proofs.copies.joined_row.Goals as goal

pub returns-then-is_up : goal.returns-then-is_up
returns-then-is_up g c = rw (sym c.is_up.ensures ∙ c.if-is_up.true) c.up_row.ensures

pub returns : goal.returns
returns g c = rw (sym c.is_up.ensures ∙ c.if-is_up.false) c.tell_row.ensures
