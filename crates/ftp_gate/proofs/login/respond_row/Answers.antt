use Rattle.ftp_gate.proofs.RowLemmas.{ask_halted, asked_as}
use Rattle.ftp_gate.proofs.login.respond_row.Goals as goal

pub returns-in_err-reply : goal.returns-in_err-reply
returns-in_err-reply g c = ask_halted c.response.ensures.is c.in_err-reply.ensures c.from_residual.ensures.1

pub returns : goal.returns
returns g c = asked_as c.response.ensures.is c.in_ok-reply.ensures c.answered_row.ensures
