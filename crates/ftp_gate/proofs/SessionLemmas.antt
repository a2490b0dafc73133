-- A session at one gate is a session at an equal one.
use Rattle.std.proofs.Common.{◌≡◌, subst, ap, ℕ, Option, Some}
use Rattle.fw_types.specs.declared.ending.Ending.{Ending}
use Rattle.fw_types.specs.declared.peer.Peer.{Peer}
use Rattle.gate_rules.specs.declared.options.Options.{Options}
use Rattle.session_acts.specs.Session.{Session}
use Rattle.session_acts.specs.World.{Devices}
use Rattle.ftp_gate.specs.Dialogue.{ftp_row, ftp_rows}
use Rattle.ftp_gate.specs.Gate.{Gate, options_or_none}

abbrev pub gate_of : Option Options → Peer → ℕ → Gate
gate_of options peer line = record { options = options_or_none options; peer = peer; line = line }

-- the options of the line are these
pub session_at : {Origin : Type 0} {old new : Devices Origin} {ending : Ending} (options : Options) (found : Option Options) (peer : Peer) (line : ℕ) → Some options ≡ found
    → Session (ftp_rows (gate_of (Some options) peer line)) ftp_row old new ending
    → Session (ftp_rows (gate_of found peer line)) ftp_row old new ending
session_at {Origin} {old} {new} {ending} options found peer line is session =
    subst (λ (o : Option Options). Session (ftp_rows (gate_of o peer line)) ftp_row old new ending) is session
