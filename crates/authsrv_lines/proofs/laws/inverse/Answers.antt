use Rattle.authsrv_lines.proofs.ReplyLemmas.{answer_is, one_reply}
use Rattle.authsrv_lines.proofs.laws.inverse.Goals as goal

pub returns-clause-written_is_read : goal.returns-clause-written_is_read
returns-clause-written_is_read c = answer_is

pub returns-clause-one_reply : goal.returns-clause-one_reply
returns-clause-one_reply c = one_reply
