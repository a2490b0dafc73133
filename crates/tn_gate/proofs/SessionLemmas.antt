-- A session at one gate is a session at an equal one.
use Rattle.std.proofs.Common.{◌≡◌, subst, ap, ℕ, Option, Some}
use Rattle.fw_types.specs.declared.ending.Ending.{Ending}
use Rattle.fw_types.specs.declared.peer.Peer.{Peer}
use Rattle.gate_rules.specs.declared.options.Options.{Options}
use Rattle.session_acts.specs.Relayed.{relayed, then_relay}
use Rattle.session_acts.specs.Session.{RelaySession}
use Rattle.session_acts.specs.World.{Devices}
use Rattle.tn_gate.specs.Dialogue.{tn_row, tn_rows}
use Rattle.tn_gate.specs.Gate.{Gate, options_or_none}

abbrev pub gate_of : Option Options → Peer → ℕ → Gate
gate_of options peer line = record { options = options_or_none options; peer = peer; line = line }

-- the options of the line are these
pub session_at : {Origin : Type 0} {old new : Devices Origin} {ending : Ending} (options : Options) (found : Option Options) (peer : Peer) (line : ℕ) → Some options ≡ found
    → RelaySession (relayed (tn_rows (gate_of (Some options) peer line))) (then_relay (tn_row (gate_of (Some options) peer line))) old new ending
    → RelaySession (relayed (tn_rows (gate_of found peer line))) (then_relay (tn_row (gate_of found peer line))) old new ending
session_at {Origin} {old} {new} {ending} options found peer line is session =
    subst (λ (o : Option Options). RelaySession (relayed (tn_rows (gate_of o peer line))) (then_relay (tn_row (gate_of o peer line))) old new ending) is session
