use Rattle.std.proofs.lemmas.Result.{IfOk-weaker}
use Rattle.session_acts.proofs.Acting.{did_at, halted_at}
use Rattle.session_rows.proofs.ThroughLemmas.{none_next}
use Rattle.session_rows.proofs.through.PutThroughScript.turn.Goals as goal

pub returns-in_err-heard-clause-ran : goal.returns-in_err-heard-clause-ran
returns-in_err-heard-clause-ran g c = halted_at c.in_err-heard.ensures c.from_residual.ensures.1

pub returns-clause-ran : goal.returns-clause-ran
returns-clause-ran g c = did_at c.in_ok-heard.ensures (c.line_row.ensures.ran _)

pub returns-clause-nearer : goal.returns-clause-nearer
returns-clause-nearer g c = IfOk-weaker _ _ _ (λ next is. none_next _ next is) c.line_row.ensures.at
