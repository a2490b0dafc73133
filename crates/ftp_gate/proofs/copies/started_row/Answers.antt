use Rattle.std.proofs.Common.{sym, ◌∙◌}
use Rattle.ftp_gate.proofs.copies.started_row.Goals as goal

pub returns-then-goes_on : goal.returns-then-goes_on
returns-then-goes_on g c = rw (sym c.goes_on.ensures ∙ c.if-goes_on.true) c.copy_row.ensures

pub returns : goal.returns
returns g c = rw (sym c.goes_on.ensures ∙ c.if-goes_on.false) c.part_row.ensures
