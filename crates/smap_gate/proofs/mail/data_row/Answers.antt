use Rattle.smap_gate.proofs.mail.data_row.Goals as goal

pub returns-in-Waiting-clause-ran : goal.returns-in-Waiting-clause-ran
returns-in-Waiting-clause-ran g c = rw c.in-Waiting.is c.tell_at.ensures.ran

pub returns-in-Mailing-clause-ran : goal.returns-in-Mailing-clause-ran
returns-in-Mailing-clause-ran g c = rw c.in-Mailing.is c.draft_row.ensures.ran
