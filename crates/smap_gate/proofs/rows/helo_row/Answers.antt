use Rattle.std.proofs.Common.{sym, ◌∙◌}
use Rattle.smap_gate.proofs.rows.helo_row.Goals as goal

pub returns-then-is_empty-clause-ran : goal.returns-then-is_empty-clause-ran
returns-then-is_empty-clause-ran g c = rw (sym c.is_empty.ensures ∙ c.if-is_empty.true) c.tell_at.ensures.ran

pub returns-clause-ran : goal.returns-clause-ran
returns-clause-ran g c = rw (sym c.is_empty.ensures ∙ c.if-is_empty.false) c.tell_at-2.ensures.ran
