-- How far a session is from its end, at most: by the bytes of the client and of the server that it may still hear.
use Rattle.std.specs.Prelude.{◌≡◌, ◌≤◌, ℕ, ◌+◌, ◌*◌, Option, None}
use Rattle.fw_outside.specs.declared.heard.Heard.{Heard}
use Rattle.fw_outside.specs.declared.heard.Heard.TheVariants.{Line, TooLong, Stopped}
use Rattle.session_acts.specs.Distance.{ahead_of_client, ahead_of_server}
use Rattle.session_acts.specs.World.{World, most_taken}
use Rattle.session_acts.specs.declared.replied.Replied.{Replied}
use Rattle.session_acts.specs.declared.replied.Replied.TheVariants.{Whole, Ended}
use Rattle.ftp_gate.specs.declared.place.Place.{Place}

-- for each byte of the client a link may come up, and then so many bytes of the server may be heard
abbrev pub distance : {Origin : Type 0} → Place → World Origin → ℕ
distance place world = ahead_of_client world * (most_taken + 1) + ahead_of_server world

-- after the end of what the client says nothing follows
abbrev pub IsNext : Heard → Option Place → Type 0
IsNext (Line line) next = Unit {0}
IsNext TooLong next = Unit {0}
IsNext (Stopped stop) next = next ≡ None

-- behind a whole reply no more bytes of the server are ahead; after the end of the server nothing follows
abbrev pub IsBehind : Replied → ℕ → ℕ → Option Place → Type 0
IsBehind (Whole code six) before behind next = behind ≤ before
IsBehind Ended before behind next = next ≡ None
