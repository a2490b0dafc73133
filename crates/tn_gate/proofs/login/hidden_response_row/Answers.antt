use Rattle.std.proofs.Common.{◌∙◌}
use Rattle.tn_gate.proofs.RowLemmas.{said_as, say_halted}
use Rattle.tn_gate.proofs.login.hidden_response_row.Goals as goal

pub returns-in_err-say : goal.returns-in_err-say
returns-in_err-say g c = say_halted (c.as_slice.ensures.value ∙ c.password_ended-end.ensures) c.in_err-say.ensures c.from_residual.ensures.1

pub returns : goal.returns
returns g c = said_as (c.as_slice.ensures.value ∙ c.password_ended-end.ensures) c.in_ok-say.ensures c.respond_row.ensures
