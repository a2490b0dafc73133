use Rattle.ftp_gate.proofs.greeting.dialed_row.Goals as goal

pub returns-then-up : goal.returns-then-up
returns-then-up g c = rw c.if-up.true c.greeting_row.ensures

pub returns : goal.returns
returns g c = rw c.if-up.false c.tell_row.ensures
