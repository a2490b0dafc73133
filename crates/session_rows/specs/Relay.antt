-- A small session: each line of the client is passed to a server, and the server's answer is told.
use Rattle.std.specs.Prelude.{◌≡◌, ℕ, ◌+◌, List, [], ◌∷◌, ◌++◌, Option, None, codes}
use Rattle.fw_acts.specs.Acts.{Row, PlaceTable}
use Rattle.fw_acts.specs.Acts.Row.{Do, At, Over}
use Rattle.fw_outside.specs.declared.heard.Heard.{Heard}
use Rattle.fw_outside.specs.declared.heard.Heard.TheVariants.{Line, TooLong, Stopped}
use Rattle.fw_types.specs.declared.dest.Dest.{Dest}
use Rattle.session_acts.specs.Acts.{Act, Answer}
use Rattle.session_acts.specs.Acts.Act.{Hear, Say, Try, Log, Reach, Take, Pass}
use Rattle.session_acts.specs.Distance.{ahead_of_client}
use Rattle.session_acts.specs.Met.{acts}
use Rattle.session_acts.specs.World.{World}
use Rattle.session_acts.specs.declared.form.Form.TheVariants.{Lines}
use Rattle.session_rows.specs.declared.relay.Place.{Place}
use Rattle.session_rows.specs.declared.relay.Place.TheVariants.{Waiting, Answering}

-- the session waits for a line of the client, or for the server's answer
abbrev pub act_at : Place → Act
act_at Waiting = Hear Lines
act_at Answering = Take

module _ {Origin : Type 0} where
  -- a line of the client is passed on
  abbrev pub client_row : Heard → Row (acts Origin) Place
  client_row (Line line) = Do (Pass (line.items ++ 10 ∷ [])) (λ passed. At Answering)
  client_row TooLong = Do (Say (codes "too long\n")) (λ done. At Waiting)
  client_row (Stopped stop) = Over

  -- and the answer is told; where there is none, a farewell is tried
  abbrev pub server_row : Heard → Row (acts Origin) Place
  server_row (Line line) = Do (Say (line.items ++ 10 ∷ [])) (λ done. At Waiting)
  server_row TooLong = Do (Try (codes "gone\n")) (λ tried. Over)
  server_row (Stopped stop) = Do (Try (codes "gone\n")) (λ tried. Over)

  abbrev pub row_at : (place : Place) → Answer (act_at place) → Row (acts Origin) Place
  row_at Waiting heard = client_row heard
  row_at Answering heard = server_row heard

  abbrev pub rows : PlaceTable (acts Origin) Place
  rows = record { act = act_at; go = row_at }

  -- the server is reached once that is logged
  abbrev pub first_row : Dest → Row (acts Origin) Place
  first_row dest = Do (Log (codes "connect\n")) (λ logged. Do (Reach dest) (λ up. At Waiting))

abbrev pub left_at : Place → ℕ
left_at Waiting = 0
left_at Answering = 1

-- how far it is to the end, at most
abbrev pub distance : {Origin : Type 0} → Place → World Origin → ℕ
distance place world = ahead_of_client world + ahead_of_client world + left_at place

-- after the end of what the client says nothing follows
abbrev pub IsNext : Heard → Option Place → Type 0
IsNext (Line line) next = Unit {0}
IsNext TooLong next = Unit {0}
IsNext (Stopped stop) next = next ≡ None
