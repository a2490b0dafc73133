use Rattle.std.proofs.Common.{sym, ◌∙◌}
use Rattle.authsrv_gate.proofs.rows.listed_row.Goals as goal

pub returns-in-Some-clause-ran : goal.returns-in-Some-clause-ran
returns-in-Some-clause-ran g c = rw (sym c.shown_name.ensures.is ∙ c.in-Some.is) c.tell_reply.ensures.ran

pub returns-in-None-clause-ran : goal.returns-in-None-clause-ran
returns-in-None-clause-ran g c = rw (sym c.shown_name.ensures.is ∙ c.in-None.is) c.list_end.ensures.ran
