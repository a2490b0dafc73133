use Rattle.ftp_gate.proofs.copies.commanded_row.Goals as goal

pub returns-in-Whole : goal.returns-in-Whole
returns-in-Whole g c = rw c.in-Whole.is c.started_row.ensures

pub returns-in-Ended : goal.returns-in-Ended
returns-in-Ended g c = rw c.in-Ended.is c.closed_row.ensures.ran
