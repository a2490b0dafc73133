-- The dialogue of `plug-gw`, before its relay.
use Rattle.std.specs.Prelude.{ℕ, List, ◌++◌, codes}
use Rattle.std.specs.Fmt.{decimal}
use Rattle.fw_acts.specs.Acts.{Row}
use Rattle.fw_acts.specs.Acts.Row.{Do, Over}
use Rattle.fw_types.specs.Host.{host_text}
use Rattle.fw_types.specs.Peer.{peer_text}
use Rattle.fw_types.specs.declared.dest.Dest.{Dest}
use Rattle.fw_types.specs.declared.peer.Peer.{Peer}
use Rattle.session_acts.specs.Acts.Act.{Log, Reach}
use Rattle.session_acts.specs.Met.{acts}
use Rattle.session_acts.specs.Relayed.{then_relay}
use Rattle.session_acts.specs.declared.denying.NoPlace.{NoPlace}

-- `connect plug-gw:PORT PEER to HOST PORT line N`
abbrev pub connect_text : (port : ℕ) → Peer → Dest → (line : ℕ) → List ℕ
connect_text port peer dest line =
    codes "connect plug-gw:" ++ decimal port ++ codes " " ++ peer_text peer ++ codes " to " ++ host_text dest.host ++ codes " " ++ decimal dest.port ++ codes " line " ++ decimal line ++ codes "\n"

module _ {Origin : Type 0} where
  -- a line is logged, and then a destination is reached
  abbrev pub connect_row : List ℕ → Dest → Row (acts Origin) NoPlace
  connect_row line dest = Do (Log line) (λ logged. Do (Reach dest) (λ up. Over))

  -- and then bytes are relayed
  abbrev pub plug_row : List ℕ → Dest → Row (acts Origin) NoPlace
  plug_row line dest = then_relay (connect_row line dest)
