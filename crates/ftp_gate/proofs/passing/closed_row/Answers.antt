use Rattle.ftp_gate.proofs.passing.closed_row.Goals as goal

pub returns-clause-ran : goal.returns-clause-ran
returns-clause-ran g c = c.tell.ensures.ran _

pub returns-clause-over : goal.returns-clause-over
returns-clause-over g c = c.tell.ensures.at
