use Rattle.tn_gate.proofs.commands.dialed_row.Goals as goal

pub returns-then-up : goal.returns-then-up
returns-then-up g c = rw c.if-up.true (c.tell.ensures.ran _)

pub returns : goal.returns
returns g c = rw c.if-up.false c.ask_command.ensures
