use Rattle.authsrv_gate.specs.Course.{may_be}
use Rattle.authsrv_gate.specs.Dialogue.{opened_row, rows, session_row}
use Rattle.authsrv_gate.proofs.CourseLemmas.{keeps_course}
use Rattle.authsrv_gate.proofs.laws.a_session_is_closed.Goals as goal

pub returns : goal.returns
returns g c =
    let law = c.a_session_is_closed_once.ensures in
    let keeps = keeps_course g.row.Origin.Denot in
    record {
      begun = λ console old new ending held. law.begun console rows opened_row old new ending held;
      course = λ console old new ending held none. law.course console may_be rows (session_row console) old new ending held (keeps console) none;
      one = λ console old new ending held none entered. law.one console may_be rows (session_row console) old new ending held (keeps console) none entered;
      whole = λ console old new ending held none empty all. law.whole console may_be rows (session_row console) old new ending held (keeps console) none empty all;
    }
