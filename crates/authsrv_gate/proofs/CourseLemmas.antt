-- The rows keep the course of requests.
use Rattle.std.proofs.Common.{◌≡◌, refl, sym, subst, ℕ, List, Bool, true, false, Option, Some, None, Result, Ok, Err, codes, if◌then◌else◌}
use Rattle.auth_events.specs.declared.reply.Reply.{Reply}
use Rattle.auth_events.specs.declared.reply.Reply.TheVariants as replies
use Rattle.auth_events.specs.declared.request.Request.{Request}
use Rattle.auth_events.specs.declared.request.Request.TheVariants as requests
use Rattle.fw_acts.specs.Acts.{PlaceTable}
use Rattle.fw_acts.specs.Acts.Row.{Do, At}
use Rattle.fw_acts.specs.Histories.{Keeps, Leaves, Watch}
use Rattle.fw_outside.specs.declared.heard.Heard.{Heard}
use Rattle.fw_outside.specs.declared.heard.Heard.TheVariants.{Line, TooLong, Stopped}
use Rattle.authsrv_gate.specs.Course.{is_going, may_be}
use Rattle.authsrv_gate.specs.Dialogue.{ask_row, heard_row, is_no_such, line_row, listed_by, opened_row, rows, say, session_row, shown_name}
use Rattle.authsrv_gate.specs.declared.place.Place.{Place}
use Rattle.authsrv_gate.specs.declared.place.Place.TheVariants.{Waiting, Listing}
use Rattle.authsrv_lines.proofs.LineLemmas.{AsksPlain, is_without_salt, line_plain}
use Rattle.authsrv_lines.specs.Reply.{reply_line}
use Rattle.authsrv_lines.specs.Request.{request_of}
use Rattle.authsrv_lines.specs.declared.wire.Wire.{Wire}
use Rattle.authsrv_lines.specs.declared.wire.Wire.TheVariants as wires
use Rattle.authsrv_lines.specs.declared.wire.WireFault.{WireFault}
use Rattle.session_acts.specs.Course.{CourseState, KeepsCourse, course_watch, state_opened}
use Rattle.session_acts.specs.Course.CourseState.{Unasked, Going, Finished}
use Rattle.session_acts.specs.Met.{acts, is_password}

-- what a line asks for as it stands is no new password
other_request : (request : Request) → is_without_salt request ≡ true → is_password request ≡ false
other_request (requests.Password name salt hash) plain = absurd (cc)
other_request request plain = refl

pub asks_other : (line : List ℕ) (request : Request) → request_of line ≡ Ok (wires.Ask request) → is_password request ≡ false
asks_other line request is = other_request request (subst AsksPlain is (line_plain line))

going : (state : CourseState) → is_going state ≡ true → state ≡ Going
going Unasked is = absurd (cc)
going Going is = refl
going Finished is = absurd (cc)

module _ (Origin : Type 0) (console : Bool) where
  abbrev watch : Watch (acts Origin) Place
  watch = course_watch Origin console may_be

  ask_course : (request : Request) → is_without_salt request ≡ true → Leaves watch (ask_row request) Going
  ask_course (requests.Open other) plain = absurd (cc)
  ask_course requests.Close plain = absurd (cc)
  ask_course request plain = (refl, λ reply. (tt, λ done. refl))

  line_course : (wire : Result Wire WireFault) → AsksPlain wire → Leaves watch (line_row wire) Going
  line_course (Err fault) plain = (tt, λ done. refl)
  line_course (Ok (wires.Ask request)) plain = ask_course request plain
  line_course (Ok (wires.Password name hash)) plain = (refl, λ salted. (tt, λ done. refl))
  line_course (Ok wires.List) plain = refl
  line_course (Ok wires.Quit) plain = (refl, λ reply. (tt, λ done. tt))

  heard_course : (heard : Heard) → Leaves watch (heard_row heard) Going
  heard_course (Line line) = line_course (request_of line.items) (line_plain line.items)
  heard_course TooLong = (tt, λ done. refl)
  heard_course (Stopped stop) = (refl, λ reply. tt)

  end_course : (none : Bool) (reply : Reply) → Leaves watch (if none then say (codes "ok") (At Waiting) else say (reply_line reply) (At Waiting)) Going
  end_course true reply = (tt, λ done. refl)
  end_course false reply = (tt, λ done. refl)

  listed_course : (name : Option (List ℕ)) (reply : Reply) → Leaves watch (listed_by name reply) Going
  listed_course (Some name) reply = (tt, λ done. refl)
  listed_course None reply = end_course (is_no_such reply) reply

  abbrev own_rows : PlaceTable (acts Origin) Place
  own_rows = rows

  place_course : (place : Place) → Leaves watch (Do (own_rows.act place) (own_rows.go place)) Going
  place_course Waiting = (tt, λ heard. heard_course heard)
  place_course (Listing after) = (refl, λ reply. listed_course (shown_name reply) reply)

  rows_course : Keeps own_rows watch
  rows_course place state holds =
      subst (λ (s : CourseState). Leaves watch (Do (own_rows.act place) (own_rows.go place)) s) (sym (going state holds)) (place_course place)

  opened_course : (reply : Reply) → Leaves watch (opened_row reply) (state_opened (Some reply))
  opened_course (replies.Opened sid) = (tt, λ done. refl)
  opened_course replies.Password = (tt, λ done. tt)
  opened_course (replies.Challenge number word_seed) = (tt, λ done. tt)
  opened_course replies.Ok = (tt, λ done. tt)
  opened_course (replies.Shown summary) = (tt, λ done. tt)
  opened_course (replies.Denied denial) = (tt, λ done. tt)

  pub keeps_course : KeepsCourse {Origin = Origin} console may_be rows (session_row console)
  keeps_course = record { begins = (refl, opened_course); goes_on = rows_course }
