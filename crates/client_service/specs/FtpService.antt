-- A client of the FTP gateway whom the rules permit: its session is held behind the line of the permission.
use Rattle.std.specs.Prelude.{◌≡◌, ℕ, ◌⊎◌, Bool, true, false, List}
use Rattle.fw_outside.specs.SinkView.{SinkView}
use Rattle.fw_types.specs.declared.ending.Ending.{Ending}
use Rattle.fw_types.specs.declared.peer.Peer.{Peer}
use Rattle.gate_rules.specs.Reading.{RuleBook}
use Rattle.gate_rules.specs.declared.service.Service.{Service}
use Rattle.gate_rules.specs.declared.service.Service.TheVariants.{FtpGw}
use Rattle.gate_rules.specs.declared.verdict.Verdict.TheVariants.{Permit}
use Rattle.session_acts.specs.Client.{LogFails, with_line}
use Rattle.session_acts.specs.Deeds.{gives}
use Rattle.session_acts.specs.Laws.{Adds, LinksDialer, called, linked}
use Rattle.session_acts.specs.Session.{Session, deeds_of}
use Rattle.session_acts.specs.World.{Devices, at_first}
use Rattle.ftp_gate.specs.Dialogue.{ftp_row, ftp_rows}
use Rattle.ftp_gate.specs.Gate.{Gate, gate_at}
use Rattle.ftp_gate.specs.Laws.{AsksDue, AsksExactly, CopiesOwn, DenialsLogged, DialsCleared, GivesPassage, JoinsOwn, OpensOwn, PassesUnblocked}
use Rattle.client_service.specs.Decision.{decision_text}
use Rattle.client_service.specs.Endings.{NotedIf, ending_line}
use Rattle.client_service.specs.Gateways.{HeldAs, gate_devices}
use Rattle.client_service.specs.Meeting.{patient, timeout_of}

-- the service is the FTP gateway
abbrev pub is_ftp : Service → Bool
is_ftp FtpGw = true
is_ftp service = false

-- either the log failed within this line, and nothing else was done; or it was given the line whole, and then the session of
-- the gateway was held
abbrev pub ServedBehind : {Origin : Type 0} → List ℕ → Gate → Ending → Devices Origin → Devices Origin → Type 0
ServedBehind line gate ending old new = HeldAs false line (ftp_rows gate) ftp_row ending old new

-- so it is with the line of the permission, over devices that wait as the table has it; and dice and mail store stay as they are
pub record Serves {Origin : Type 0} (line : ℕ) (rules : RuleBook) (peer : Peer) (ending : Ending) (old new : Devices Origin) : Type 0 where
  pub held : ServedBehind (decision_text (Permit line) FtpGw peer) (gate_at rules line peer) ending (patient (timeout_of rules) (gate_devices old)) (gate_devices new)
  pub dice : new.dice ≡ old.dice
  pub store : new.store ≡ old.store

-- ---- what that comes to

-- The session of the gateway was held behind this line. The dialer, if it tells, was asked for what these deeds ask for, in
-- order, and for nothing else. The destinations are those that the client's commands ask for, up to where the dialogue stopped;
-- each comes where it may. The server was given what the commands are passed as, up to where the dialogue stopped, and nothing
-- else; each is of a command that isn't blocked. Data links are the session's own, and so are doors and copies. As many links
-- were hung up or let go as came up by these deeds, and the dialer counted so many come up. What the gateway told as a denial
-- the log was given right before, whole; a text that is no name is denied without a line. And each request is one that its
-- command asks for, but a close.
pub record ServesBehind {Origin : Type 0} (line : List ℕ) (gate : Gate) (ending : Ending) (old new : Devices Origin) : Type 0 where
  pub session : Session (ftp_rows gate) ftp_row (with_line line old) new ending
  pub asked : Adds (gives called (deeds_of session.held)) old.dialer.asked new.dialer.asked
  pub exactly : AsksExactly gate session.held
  pub cleared : DialsCleared gate (deeds_of session.held)
  pub passage : GivesPassage gate session.held
  pub unblocked : PassesUnblocked gate (deeds_of session.held)
  pub joins : JoinsOwn gate (deeds_of session.held)
  pub doors : OpensOwn gate (deeds_of session.held)
  pub copies : CopiesOwn gate (deeds_of session.held)
  pub links : LinksDialer (gives linked (deeds_of session.held)) (at_first (with_line line old) session.names) session.last
  pub denials : DenialsLogged gate (deeds_of session.held)
  pub requests : AsksDue gate (deeds_of session.held)

abbrev pub ServingBehind : {Origin : Type 0} → List ℕ → Gate → Ending → Devices Origin → Devices Origin → Type 0
ServingBehind line gate ending old new = LogFails line old new ending ⊎ ServesBehind line gate ending old new

-- so it was with the line of the permission, up to the line of the ending, which was logged behind that
pub record ServesIn {Origin : Type 0} (line : ℕ) (rules : RuleBook) (peer : Peer) (ending : Ending) (old new : Devices Origin) : Type 0 where
  pub logs : SinkView
  pub so : ServingBehind (decision_text (Permit line) FtpGw peer) (gate_at rules line peer) ending (patient (timeout_of rules) (gate_devices old)) (gate_devices (record new { logs = logs }))
  pub noted : NotedIf (ending_line FtpGw peer ending) logs new.logs
