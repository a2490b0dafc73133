use Rattle.ftp_gate.proofs.TurnLemmas.{behind_whole}
use Rattle.ftp_gate.proofs.replies.unanswered_row.Goals as goal

pub returns-in-Whole-clause-ran : goal.returns-in-Whole-clause-ran
returns-in-Whole-clause-ran g c = rw c.in-Whole.is c.dropped_row.ensures.ran

pub returns-in-Whole-clause-near : goal.returns-in-Whole-clause-near
returns-in-Whole-clause-near g c = rw c.in-Whole.is (behind_whole c.dropped_row.result c.dropped_row.ensures.near)

pub returns-in-Ended-clause-ran : goal.returns-in-Ended-clause-ran
returns-in-Ended-clause-ran g c = rw c.in-Ended.is c.closed_row.ensures.ran

pub returns-in-Ended-clause-near : goal.returns-in-Ended-clause-near
returns-in-Ended-clause-near g c = rw c.in-Ended.is c.closed_row.ensures.over
