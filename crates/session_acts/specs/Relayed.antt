-- The rows of a session that relays at the end of its dialogue.
use Rattle.fw_acts.specs.Acts.{Row, PlaceTable}
use Rattle.fw_acts.specs.Acts.Row.{Do, At, Over}
use Rattle.session_acts.specs.Acts.Act.{Relay}
use Rattle.session_acts.specs.Met.{acts}

-- a row at whose end a relay follows
abbrev pub then_relay : {Origin P : Type 0} → Row (acts Origin) P → Row (acts Origin) P
then_relay (Do act go) = Do act (λ answer. then_relay (go answer))
then_relay (At place) = At place
then_relay Over = Do Relay (λ flow. Over)

-- so it is after each place
abbrev pub relayed : {Origin P : Type 0} → PlaceTable (acts Origin) P → PlaceTable (acts Origin) P
relayed rows = record { act = rows.act; go = λ place answer. then_relay (rows.go place answer) }
