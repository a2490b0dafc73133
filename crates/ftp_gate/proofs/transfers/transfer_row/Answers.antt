use Rattle.ftp_gate.proofs.transfers.transfer_row.Goals as goal

pub returns-in-Some : goal.returns-in-Some
returns-in-Some g c = rw c.in-Some.is c.set_row.ensures

pub returns-in-None : goal.returns-in-None
returns-in-None g c = rw c.in-None.is c.tell_row.ensures
