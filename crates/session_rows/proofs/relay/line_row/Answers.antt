use Rattle.std.proofs.Common.{sym, ◌∙◌}
use Rattle.session_rows.proofs.relay.line_row.Goals as goal

pub returns-clause-ran : goal.returns-clause-ran
returns-clause-ran g c = rw (sym (c.as_slice.ensures.value ∙ c.ended-text.ensures)) (c.tell.ensures.ran _)
