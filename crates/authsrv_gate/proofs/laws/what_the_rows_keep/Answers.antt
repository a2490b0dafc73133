use Rattle.authsrv_gate.proofs.CourseLemmas.{keeps_course}
use Rattle.authsrv_gate.proofs.ServerlessLemmas.{keeps_serverless}
use Rattle.authsrv_gate.proofs.laws.what_the_rows_keep.Goals as goal

pub returns : goal.returns
returns g c = record { course = λ console. keeps_course g.row.Origin.Denot console; serverless = λ console. keeps_serverless g.row.Origin.Denot console }
