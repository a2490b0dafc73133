-- What stands of a message before its data, and fits into a slot.
use Rattle.std.specs.Prelude.{◌≡◌, ℕ, ◌≤◌, List, length, Option, None}
use Rattle.std.specs.List.{AllByRecursion}
use Rattle.fw_outside.specs.declared.heard.Heard.{Heard}
use Rattle.fw_outside.specs.declared.heard.Heard.TheVariants.{Line, TooLong, Stopped}
use Rattle.session_acts.specs.Distance.{ahead_of_client}
use Rattle.session_acts.specs.World.{World}
use Rattle.slot_bytes.specs.Layout.{IsTextFrom}
use Rattle.smap_gate.specs.Gate.{Gate}
use Rattle.smap_gate.specs.declared.place.Place.{Place}
use Rattle.smap_gate.specs.declared.place.Place.TheVariants.{Waiting, Mailing}

-- a sender, and no more recipients than are taken
pub record IsDraft (gate : Gate) (sender : List ℕ) (rcpts : List (List ℕ)) : Type 0 where
  pub from : IsTextFrom 0 256 sender
  pub few : length rcpts ≤ gate.most_rcpts
  pub each : AllByRecursion (IsTextFrom 1 256) rcpts

abbrev pub IsPlace : Gate → Place → Type 0
IsPlace gate Waiting = Unit {0}
IsPlace gate (Mailing sender rcpts) = IsDraft gate sender rcpts

-- how far a session is from its end, at most: by the bytes that it may still hear
abbrev pub distance : {Origin : Type 0} → Place → World Origin → ℕ
distance place world = ahead_of_client world

-- after the end of what the client says nothing follows
abbrev pub IsNext : Heard → Option Place → Type 0
IsNext (Line line) next = Unit {0}
IsNext TooLong next = Unit {0}
IsNext (Stopped stop) next = next ≡ None
