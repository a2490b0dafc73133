-- How far a session is from its end, at most: by the bytes that it may still hear.
use Rattle.std.specs.Prelude.{◌≡◌, ℕ, Option, None}
use Rattle.fw_outside.specs.declared.heard.Heard.{Heard}
use Rattle.fw_outside.specs.declared.heard.Heard.TheVariants.{Line, TooLong, Stopped}
use Rattle.session_acts.specs.Distance.{ahead_of_client}
use Rattle.session_acts.specs.World.{World}
use Rattle.tn_gate.specs.declared.place.Place.{Place}

abbrev pub distance : {Origin : Type 0} → Place → World Origin → ℕ
distance place world = ahead_of_client world

-- after the end of what the client says nothing follows
abbrev pub IsNext : Heard → Option Place → Type 0
IsNext (Line line) next = Unit {0}
IsNext TooLong next = Unit {0}
IsNext (Stopped stop) next = next ≡ None
