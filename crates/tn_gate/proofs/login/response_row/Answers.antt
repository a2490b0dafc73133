use Rattle.tn_gate.proofs.login.response_row.Goals as goal

pub returns-then-hidden : goal.returns-then-hidden
returns-then-hidden g c = rw c.if-hidden.true c.hidden_response_row.ensures

pub returns : goal.returns
returns g c = rw c.if-hidden.false c.respond_row.ensures
