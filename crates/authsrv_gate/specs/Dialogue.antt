-- The dialogue of `authsrv`, row by row.
use Rattle.std.specs.Prelude.{ℕ, Bool, true, false, List, [], ◌∷◌, ◌++◌, Option, Some, None, Result, Ok, Err, codes, if◌then◌else◌}
use Rattle.auth_events.specs.declared.denial.Denial.{Denial}
use Rattle.auth_events.specs.declared.denial.Denial.TheVariants.{NoSuch}
use Rattle.auth_events.specs.declared.reply.Reply.{Reply}
use Rattle.auth_events.specs.declared.reply.Reply.TheVariants as replies
use Rattle.auth_events.specs.declared.request.Request.{Request}
use Rattle.auth_events.specs.declared.request.Request.TheVariants as requests
use Rattle.fw_acts.specs.Acts.{Row, PlaceTable}
use Rattle.fw_acts.specs.Acts.Row.{Do, At, Over}
use Rattle.fw_outside.specs.declared.heard.Heard.{Heard}
use Rattle.fw_outside.specs.declared.heard.Heard.TheVariants.{Line, TooLong, Stopped}
use Rattle.session_acts.specs.Acts.{Act, Answer}
use Rattle.session_acts.specs.Acts.Act.{Hear, Say, Ask, Renew}
use Rattle.session_acts.specs.Met.{acts}
use Rattle.session_acts.specs.Session.{leads}
use Rattle.session_acts.specs.declared.form.Form.TheVariants.{Lines}
use Rattle.authsrv_lines.specs.Fault.{wire_fault_text}
use Rattle.authsrv_lines.specs.Reply.{reply_line}
use Rattle.authsrv_lines.specs.Request.{request_of}
use Rattle.authsrv_gate.specs.declared.place.Place.{Place}
use Rattle.authsrv_gate.specs.declared.place.Place.TheVariants.{Waiting, Listing}
use Rattle.authsrv_lines.specs.declared.wire.Wire.{Wire}
use Rattle.authsrv_lines.specs.declared.wire.Wire.TheVariants as wires
use Rattle.authsrv_lines.specs.declared.wire.WireFault.{WireFault}
use Rattle.authsrv_lines.specs.declared.wire.WireFault.TheVariants.{LongLine}

abbrev pub is_no_such_denial : Denial → Bool
is_no_such_denial NoSuch = true
is_no_such_denial _ = false

-- the reply is that no further record is there
abbrev pub is_no_such : Reply → Bool
is_no_such (replies.Denied denial) = is_no_such_denial denial
is_no_such (replies.Opened sid) = false
is_no_such replies.Password = false
is_no_such (replies.Challenge number word_seed) = false
is_no_such replies.Ok = false
is_no_such (replies.Shown summary) = false

-- the name of the record that is shown, if one is
abbrev pub shown_name : Reply → Option (List ℕ)
shown_name (replies.Shown summary) = Some summary.name
shown_name (replies.Opened sid) = None
shown_name replies.Password = None
shown_name (replies.Challenge number word_seed) = None
shown_name replies.Ok = None
shown_name (replies.Denied denial) = None

-- where the session is after the answer to its opening: it waits for a line, or it was denied and is over
abbrev pub opened_place : Reply → Option Place
opened_place (replies.Opened sid) = Some Waiting
opened_place replies.Password = None
opened_place (replies.Challenge number word_seed) = None
opened_place replies.Ok = None
opened_place (replies.Shown summary) = None
opened_place (replies.Denied denial) = None

-- the places: the session waits for a line, or for the next record of a list
abbrev pub act_at : Place → Act
act_at Waiting = Hear Lines
act_at (Listing after) = Ask (requests.List after)

module _ {Origin : Type 0} where
  -- a line for the client, and then what follows
  abbrev pub say : List ℕ → Row (acts Origin) Place → Row (acts Origin) Place
  say line next = Do (Say (line ++ 10 ∷ [])) (λ done. next)

  -- a request, its reply for the client, and the next line. Kept by `authsrv_session` (`session`); body: src/rows.rt.
  abbrev pub ask_row : Request → Row (acts Origin) Place
  ask_row request = Do (Ask request) (λ reply. say (reply_line reply) (At Waiting))

  -- a new password is salted by the dice, and the salt comes with the reply
  abbrev pub password_row : List ℕ → List ℕ → Row (acts Origin) Place
  password_row name hash = Do (Renew name hash) (λ salted. say (reply_line salted.1) (At Waiting))

  abbrev pub quit_row : Row (acts Origin) Place
  quit_row = Do (Ask requests.Close) (λ reply. say (reply_line reply) Over)

  -- what a line asks for
  abbrev pub line_row : Result Wire WireFault → Row (acts Origin) Place
  line_row (Err fault) = say (wire_fault_text fault) (At Waiting)
  line_row (Ok (wires.Ask request)) = ask_row request
  line_row (Ok (wires.Password name hash)) = password_row name hash
  line_row (Ok wires.List) = At (Listing None)
  line_row (Ok wires.Quit) = quit_row

  -- a line, one that is too long, or the end, at which nothing is said
  abbrev pub heard_row : Heard → Row (acts Origin) Place
  heard_row (Line line) = line_row (request_of line.items)
  heard_row TooLong = say (wire_fault_text LongLine) (At Waiting)
  heard_row (Stopped stop) = Do (Ask requests.Close) (λ reply. Over)

  -- a record and then the next one; `ok` where the reply is that no further record is there; or another denial. That
  -- then none follows is a law of `auth_machine` (`laws::the_least_is_listed`). Kept by `authsrv_session` (`session`);
  -- body: `listed_row` and `list_end` of src/rows.rt.
  abbrev pub listed_by : Option (List ℕ) → Reply → Row (acts Origin) Place
  listed_by (Some name) reply = say (reply_line reply) (At (Listing (Some name)))
  listed_by None reply = if is_no_such reply then say (codes "ok") (At Waiting) else say (reply_line reply) (At Waiting)

  abbrev pub listed_row : Reply → Row (acts Origin) Place
  listed_row reply = listed_by (shown_name reply) reply

  abbrev pub row_at : (place : Place) → Answer (act_at place) → Row (acts Origin) Place
  row_at Waiting heard = heard_row heard
  row_at (Listing after) reply = listed_row reply

  abbrev pub rows : PlaceTable (acts Origin) Place
  rows = record { act = act_at; go = row_at }

  abbrev pub opened_row : Reply → Row (acts Origin) Place
  opened_row reply = say (reply_line reply) (leads (opened_place reply))

  abbrev pub session_row : Bool → Row (acts Origin) Place
  session_row console = Do (Ask (requests.Open console)) opened_row
