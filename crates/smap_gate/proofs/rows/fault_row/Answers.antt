use Rattle.smap_gate.proofs.rows.fault_row.Goals as goal

pub returns-in-Syntax-clause-ran : goal.returns-in-Syntax-clause-ran
returns-in-Syntax-clause-ran g c = rw c.in-Syntax.is c.tell_at.ensures.ran

pub returns-in-NotAllowed-clause-ran : goal.returns-in-NotAllowed-clause-ran
returns-in-NotAllowed-clause-ran g c = rw c.in-NotAllowed.is c.tell_at-in-NotAllowed.ensures.ran
