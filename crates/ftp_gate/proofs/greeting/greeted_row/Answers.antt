use Rattle.ftp_gate.proofs.greeting.greeted_row.Goals as goal

pub returns-in-Whole : goal.returns-in-Whole
returns-in-Whole g c = rw c.in-Whole.is c.welcomed_row.ensures

pub returns-in-Ended : goal.returns-in-Ended
returns-in-Ended g c = rw c.in-Ended.is c.closed_row.ensures.ran
