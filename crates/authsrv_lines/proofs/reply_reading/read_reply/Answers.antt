use Rattle.std.proofs.Common.{sym, ◌∙◌}
use Rattle.authsrv_lines.proofs.ReplyLemmas.{says_none, says_other}
use Rattle.authsrv_lines.proofs.reply_reading.read_reply.Goals as goal

pub returns-else-has_text : goal.returns-else-has_text
returns-else-has_text c = says_other c.args.line.now c.in-Some.reply c.guess.result c.guess.ensures.guess c.in-Some.is (sym c.has_text.ensures.value ∙ c.if-has_text.false)

pub returns-in-None : goal.returns-in-None
returns-in-None c = says_none c.args.line.now c.guess.result c.guess.ensures.guess c.in-None.is
