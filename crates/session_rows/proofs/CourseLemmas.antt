-- The relay keeps the course of requests: it asks nothing.
use Rattle.std.proofs.Common.{◌≡◌, refl, Bool, true}
use Rattle.fw_acts.specs.Acts.Row.{Do}
use Rattle.fw_acts.specs.Histories.{Keeps, Leaves, Watch}
use Rattle.fw_outside.specs.declared.heard.Heard.{Heard}
use Rattle.fw_outside.specs.declared.heard.Heard.TheVariants.{Line, TooLong, Stopped}
use Rattle.fw_acts.specs.Acts.{PlaceTable}
use Rattle.fw_types.specs.declared.dest.Dest.{Dest}
use Rattle.session_acts.specs.Course.{CourseState, KeepsCourse, course_watch}
use Rattle.session_acts.specs.Met.{acts}
use Rattle.session_rows.specs.Relay.{client_row, first_row, rows, server_row}
use Rattle.session_rows.specs.RelayCourse.{is_unasked, may_be}
use Rattle.session_rows.specs.declared.relay.Place.{Place}
use Rattle.session_rows.specs.declared.relay.Place.TheVariants.{Waiting, Answering}

module _ (Origin : Type 0) (console : Bool) where
  abbrev watch : Watch (acts Origin) Place
  watch = course_watch Origin console may_be

  abbrev own_rows : PlaceTable (acts Origin) Place
  own_rows = rows

  client_course : (heard : Heard) (state : CourseState) → may_be Waiting state ≡ true → Leaves watch (client_row heard) state
  client_course (Line line) state holds = (tt, λ passed. holds)
  client_course TooLong state holds = (tt, λ done. holds)
  client_course (Stopped stop) state holds = tt

  server_course : (heard : Heard) (state : CourseState) → may_be Waiting state ≡ true → Leaves watch (server_row heard) state
  server_course (Line line) state holds = (tt, λ done. holds)
  server_course TooLong state holds = (tt, λ tried. tt)
  server_course (Stopped stop) state holds = (tt, λ tried. tt)

  rows_course : Keeps own_rows watch
  rows_course Waiting state holds = (tt, λ heard. client_course heard state holds)
  rows_course Answering state holds = (tt, λ heard. server_course heard state holds)

  pub relay_keeps : (dest : Dest) → KeepsCourse {Origin = Origin} console may_be rows (first_row dest)
  relay_keeps dest = record { begins = (tt, λ logged. (tt, λ up. refl)); goes_on = rows_course }
