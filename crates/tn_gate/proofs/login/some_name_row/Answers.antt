use Rattle.tn_gate.proofs.login.some_name_row.Goals as goal

pub returns-then-is_open : goal.returns-then-is_open
returns-then-is_open g c = rw c.if-is_open.true c.authenticate_row.ensures

pub returns : goal.returns
returns g c = rw c.if-is_open.false c.first_name_row.ensures
