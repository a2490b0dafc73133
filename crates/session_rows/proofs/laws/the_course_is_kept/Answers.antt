use Rattle.session_rows.specs.Relay.{first_row, rows}
use Rattle.session_rows.specs.RelayCourse.{may_be}
use Rattle.session_rows.proofs.CourseLemmas.{relay_keeps}
use Rattle.session_rows.proofs.laws.the_course_is_kept.Goals as goal

pub returns : goal.returns
returns g c = λ console dest old new ending held none.
    c.a_session_is_closed_once.ensures.course console may_be rows (first_row dest) old new ending held (relay_keeps g.row.Origin.Denot console dest) none
