use Rattle.std.proofs.Common.{sym, ◌∙◌}
use Rattle.authsrv_gate.proofs.rows.list_end.Goals as goal

pub returns-then-is_no_such-clause-ran : goal.returns-then-is_no_such-clause-ran
returns-then-is_no_such-clause-ran g c = rw (sym c.is_no_such.ensures ∙ c.if-is_no_such.true) c.tell_line.ensures.ran

pub returns-clause-ran : goal.returns-clause-ran
returns-clause-ran g c = rw (sym c.is_no_such.ensures ∙ c.if-is_no_such.false) c.tell_reply.ensures.ran
