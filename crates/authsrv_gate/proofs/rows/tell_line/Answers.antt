use Rattle.std.proofs.Common.{sym, ◌∙◌}
use Rattle.authsrv_gate.proofs.rows.tell_line.Goals as goal

pub returns-clause-ran : goal.returns-clause-ran
returns-clause-ran g c = rw (sym (c.as_slice.ensures.value ∙ c.ended-text.ensures)) (c.tell.ensures.ran _)
