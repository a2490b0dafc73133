-- How far the course of requests has come at each place.
use Rattle.std.specs.Prelude.{Bool, true, false}
use Rattle.authsrv_gate.specs.declared.place.Place.{Place}
use Rattle.session_acts.specs.Course.{CourseState}
use Rattle.session_acts.specs.Course.CourseState.{Unasked, Going, Finished}

abbrev pub is_going : CourseState → Bool
is_going Unasked = false
is_going Going = true
is_going Finished = false

-- wherever it waits, a session was opened, and not asked to close
abbrev pub may_be : Place → CourseState → Bool
may_be place state = is_going state
