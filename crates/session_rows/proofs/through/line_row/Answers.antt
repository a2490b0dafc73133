use Rattle.std.proofs.Common.{sym}
use Rattle.session_rows.proofs.through.line_row.Goals as goal

pub returns-in-Line-clause-ran : goal.returns-in-Line-clause-ran
returns-in-Line-clause-ran g c = λ form. rw (c.in-Line.is, sym c.as_slice.ensures.value) (c.tell.ensures.ran _)

pub returns-in-TooLong-clause-ran : goal.returns-in-TooLong-clause-ran
returns-in-TooLong-clause-ran g c = λ form. rw c.in-TooLong.is (c.away_row.ensures.ran form)

pub returns-in-Stopped-clause-ran : goal.returns-in-Stopped-clause-ran
returns-in-Stopped-clause-ran g c = λ form. rw c.in-Stopped.is (c.away_row-in-Stopped.ensures.ran form)
