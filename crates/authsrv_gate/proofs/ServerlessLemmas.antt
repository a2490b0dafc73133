-- The rows speak with no server.
use Rattle.std.proofs.Common.{refl, Bool, true, false, List, ℕ, Option, Some, None, Result, Ok, Err, codes, if◌then◌else◌}
use Rattle.auth_events.specs.declared.reply.Reply.{Reply}
use Rattle.fw_acts.specs.Acts.Row.{At}
use Rattle.fw_acts.specs.Histories.{Keeps, Leaves, Watch}
use Rattle.fw_outside.specs.declared.heard.Heard.{Heard}
use Rattle.fw_outside.specs.declared.heard.Heard.TheVariants.{Line, TooLong, Stopped}
use Rattle.authsrv_gate.specs.Dialogue.{heard_row, is_no_such, line_row, listed_by, opened_place, rows, say, session_row, shown_name}
use Rattle.authsrv_gate.specs.declared.place.Place.{Place}
use Rattle.authsrv_gate.specs.declared.place.Place.TheVariants.{Waiting, Listing}
use Rattle.authsrv_lines.specs.Reply.{reply_line}
use Rattle.authsrv_lines.specs.Request.{request_of}
use Rattle.authsrv_lines.specs.declared.wire.Wire.{Wire}
use Rattle.authsrv_lines.specs.declared.wire.Wire.TheVariants as wires
use Rattle.authsrv_lines.specs.declared.wire.WireFault.{WireFault}
use Rattle.session_acts.specs.Met.{acts}
use Rattle.session_acts.specs.Serverless.{KeepsServerless, serverless_watch}
use Rattle.session_acts.specs.Session.{leads}

module _ (Origin : Type 0) where
  abbrev watch : Watch (acts Origin) Place
  watch = serverless_watch Origin Place

  line_serverless : (wire : Result Wire WireFault) → Leaves watch (line_row wire) tt
  line_serverless (Err fault) = (refl, λ done. tt)
  line_serverless (Ok (wires.Ask request)) = (refl, λ reply. (refl, λ done. tt))
  line_serverless (Ok (wires.Password name hash)) = (refl, λ salted. (refl, λ done. tt))
  line_serverless (Ok wires.List) = tt
  line_serverless (Ok wires.Quit) = (refl, λ reply. (refl, λ done. tt))

  heard_serverless : (heard : Heard) → Leaves watch (heard_row heard) tt
  heard_serverless (Line line) = line_serverless (request_of line.items)
  heard_serverless TooLong = (refl, λ done. tt)
  heard_serverless (Stopped stop) = (refl, λ reply. tt)

  end_serverless : (none : Bool) (reply : Reply) → Leaves watch (if none then say (codes "ok") (At Waiting) else say (reply_line reply) (At Waiting)) tt
  end_serverless true reply = (refl, λ done. tt)
  end_serverless false reply = (refl, λ done. tt)

  listed_serverless : (name : Option (List ℕ)) (reply : Reply) → Leaves watch (listed_by name reply) tt
  listed_serverless (Some name) reply = (refl, λ done. tt)
  listed_serverless None reply = end_serverless (is_no_such reply) reply

  rows_serverless : Keeps rows watch
  rows_serverless Waiting noted holds = (refl, λ heard. heard_serverless heard)
  rows_serverless (Listing after) noted holds = (refl, λ reply. listed_serverless (shown_name reply) reply)

  leads_serverless : (place : Option Place) → Leaves watch (leads place) tt
  leads_serverless None = tt
  leads_serverless (Some place) = tt

  pub keeps_serverless : (console : Bool) → KeepsServerless {Origin = Origin} rows (session_row console)
  keeps_serverless console =
      record { begins = (refl, λ reply. (refl, λ done. leads_serverless (opened_place reply))); goes_on = rows_serverless }
