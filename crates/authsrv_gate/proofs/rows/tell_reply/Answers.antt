use Rattle.std.proofs.Common.{sym, ◌∙◌}
use Rattle.authsrv_gate.proofs.rows.tell_reply.Goals as goal

pub returns-clause-ran : goal.returns-clause-ran
returns-clause-ran g c = rw (sym (c.as_slice.ensures.value ∙ c.reply_text.ensures.text)) c.tell_line.ensures.ran
