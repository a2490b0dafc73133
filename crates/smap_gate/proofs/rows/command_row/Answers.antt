use Rattle.smap_gate.proofs.rows.command_row.Goals as goal

pub returns-in-Helo-clause-ran : goal.returns-in-Helo-clause-ran
returns-in-Helo-clause-ran g c = rw c.in-Helo.is c.helo_row.ensures.ran

pub returns-in-Mail-clause-ran : goal.returns-in-Mail-clause-ran
returns-in-Mail-clause-ran g c = rw c.in-Mail.is c.mail_row.ensures.ran

pub returns-in-Rcpt-clause-ran : goal.returns-in-Rcpt-clause-ran
returns-in-Rcpt-clause-ran g c = rw c.in-Rcpt.is c.rcpt_row.ensures.ran

pub returns-in-Data-clause-ran : goal.returns-in-Data-clause-ran
returns-in-Data-clause-ran g c = rw c.in-Data.is c.data_row.ensures.ran

pub returns-in-Rset-clause-ran : goal.returns-in-Rset-clause-ran
returns-in-Rset-clause-ran g c = rw c.in-Rset.is c.tell_at.ensures.ran

pub returns-in-Noop-clause-ran : goal.returns-in-Noop-clause-ran
returns-in-Noop-clause-ran g c = rw c.in-Noop.is c.tell_at-in-Noop.ensures.ran

pub returns-in-Quit-clause-ran : goal.returns-in-Quit-clause-ran
returns-in-Quit-clause-ran g c = rw c.in-Quit.is (c.tell.ensures.ran _)

pub returns-in-Help-clause-ran : goal.returns-in-Help-clause-ran
returns-in-Help-clause-ran g c = rw c.in-Help.is c.tell_at-in-Help.ensures.ran

pub returns-in-NotImplemented-clause-ran : goal.returns-in-NotImplemented-clause-ran
returns-in-NotImplemented-clause-ran g c = rw c.in-NotImplemented.is c.tell_at-in-NotImplemented.ensures.ran

pub returns-in-Unknown-clause-ran : goal.returns-in-Unknown-clause-ran
returns-in-Unknown-clause-ran g c = rw c.in-Unknown.is c.tell_at-in-Unknown.ensures.ran
