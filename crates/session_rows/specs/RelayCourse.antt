-- How far the course of requests has come where the relay waits: it asks nothing.
use Rattle.std.specs.Prelude.{Bool, true, false}
use Rattle.session_acts.specs.Course.{CourseState}
use Rattle.session_acts.specs.Course.CourseState.{Unasked, Going, Finished}
use Rattle.session_rows.specs.declared.relay.Place.{Place}

abbrev pub is_unasked : CourseState → Bool
is_unasked Unasked = true
is_unasked Going = false
is_unasked Finished = false

abbrev pub may_be : Place → CourseState → Bool
may_be place state = is_unasked state
