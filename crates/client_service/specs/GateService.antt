-- A client of the Telnet gateway whom the rules permit: its session is held behind the line of the permission.
use Rattle.std.specs.Prelude.{◌≡◌, ℕ, ◌⊎◌, Bool, true, false, List, []}
use Rattle.fw_outside.specs.SinkView.{SinkView}
use Rattle.fw_types.specs.declared.ending.Ending.{Ending}
use Rattle.fw_types.specs.declared.peer.Peer.{Peer}
use Rattle.gate_rules.specs.Reading.{RuleBook}
use Rattle.gate_rules.specs.declared.service.Service.{Service}
use Rattle.gate_rules.specs.declared.service.Service.TheVariants.{TnGw}
use Rattle.gate_rules.specs.declared.verdict.Verdict.TheVariants.{Permit}
use Rattle.session_acts.specs.Client.{LogFails, with_line}
use Rattle.session_acts.specs.Deeds.{gives}
use Rattle.session_acts.specs.Laws.{Adds, called}
use Rattle.session_acts.specs.RelayFronts.{RelaysFronts}
use Rattle.session_acts.specs.Relayed.{relayed, then_relay}
use Rattle.session_acts.specs.Session.{RelaySession, deeds_of}
use Rattle.session_acts.specs.Talk.{asked}
use Rattle.session_acts.specs.World.{Devices}
use Rattle.tn_gate.specs.Dialogue.{tn_row, tn_rows}
use Rattle.tn_gate.specs.Due.{LogsWhatIsDue}
use Rattle.tn_gate.specs.Gate.{Gate, asks_login, gate_at}
use Rattle.tn_gate.specs.Laws.{AsksExactly, DenialsLogged, DialsCleared, LinesDialed}
use Rattle.client_service.specs.Decision.{decision_text}
use Rattle.client_service.specs.Endings.{NotedIf, ending_line}
use Rattle.client_service.specs.Gateways.{HeldAs, gate_devices}
use Rattle.client_service.specs.Meeting.{patient, timeout_of}

-- the service is the Telnet gateway
abbrev pub is_gate : Service → Bool
is_gate TnGw = true
is_gate service = false

-- either the log failed within this line, and nothing else was done; or it was given the line whole, and then the session of
-- the gateway was held, a relay at its end
abbrev pub HeldBehind : {Origin : Type 0} → List ℕ → Gate → Ending → Devices Origin → Devices Origin → Type 0
HeldBehind line gate ending old new = HeldAs true line (relayed (tn_rows gate)) (then_relay (tn_row gate)) ending old new

-- so it is with the line of the permission, over devices that wait as the table has it; and dice and mail store stay as they are
pub record LetsIn {Origin : Type 0} (line : ℕ) (rules : RuleBook) (peer : Peer) (ending : Ending) (old new : Devices Origin) : Type 0 where
  pub held : HeldBehind (decision_text (Permit line) TnGw peer) (gate_at rules line peer) ending (patient (timeout_of rules) (gate_devices old)) (gate_devices new)
  pub dice : new.dice ≡ old.dice
  pub store : new.store ≡ old.store

-- ---- what that comes to

-- The session of the gateway was held behind this line. Where the permission line asks for no login, its deeds ask nothing of
-- the port. The dialer, if it tells, was asked for the destinations that they ask for, in order, and for no other. These are
-- those that the client's lines ask for, up to where the dialogue stopped; each comes where it may, and right behind each
-- connect line that the log has whole its destination does. The log was given each line that was due, right behind what it was
-- due for, and no other. What the client was told as a denial, of a destination or of a login, the log was given right before,
-- whole; a text that is no name is denied without a line. And each side was given a front of what was taken of the other.
pub record RelaysBehind {Origin : Type 0} (line : List ℕ) (gate : Gate) (ending : Ending) (old new : Devices Origin) : Type 0 where
  pub session : RelaySession (relayed (tn_rows gate)) (then_relay (tn_row gate)) (with_line line old) new ending
  pub unasked : asks_login gate.options ≡ false → gives asked (deeds_of session.held) ≡ []
  pub asked : Adds (gives called (deeds_of session.held)) old.dialer.asked new.dialer.asked
  pub exactly : AsksExactly gate session.held
  pub cleared : DialsCleared gate (deeds_of session.held)
  pub dialed : LinesDialed gate (deeds_of session.held)
  pub due : LogsWhatIsDue gate (deeds_of session.held)
  pub denials : DenialsLogged gate (deeds_of session.held)
  pub fronts : RelaysFronts (deeds_of session.held) (with_line line old) new ending

abbrev pub FrontsBehind : {Origin : Type 0} → List ℕ → Gate → Ending → Devices Origin → Devices Origin → Type 0
FrontsBehind line gate ending old new = LogFails line old new ending ⊎ RelaysBehind line gate ending old new

-- so it was with the line of the permission, up to the line of the ending, which was logged behind that
pub record RelaysIn {Origin : Type 0} (line : ℕ) (rules : RuleBook) (peer : Peer) (ending : Ending) (old new : Devices Origin) : Type 0 where
  pub logs : SinkView
  pub so : FrontsBehind (decision_text (Permit line) TnGw peer) (gate_at rules line peer) ending (patient (timeout_of rules) (gate_devices old)) (gate_devices (record new { logs = logs }))
  pub noted : NotedIf (ending_line TnGw peer ending) logs new.logs
