-- A client of the plug whom the rules permit: it is linked to the destination of the line that permits it.
use Rattle.std.specs.Prelude.{◌≡◌, ℕ, ◌⊎◌, List, [], ◌∷◌, ◌++◌, Option, Some, None, Ok}
use Rattle.fw_outside.specs.ToldList.{grown}
use Rattle.fw_outside.specs.declared.ask.Ask.TheVariants.{Main}
use Rattle.fw_types.specs.declared.dest.Dest.{Dest}
use Rattle.fw_types.specs.declared.ending.Ending.{Ending}
use Rattle.fw_types.specs.declared.ending.Ending.TheVariants as endings
use Rattle.fw_types.specs.declared.peer.Peer.{Peer}
use Rattle.gate_rules.specs.Reading.{RuleBook, rules_of}
use Rattle.gate_rules.specs.Verdict.{options_at}
use Rattle.gate_rules.specs.declared.options.Options.{Options}
use Rattle.gate_rules.specs.declared.service.Service.{Service}
use Rattle.gate_rules.specs.declared.service.Service.TheVariants.{PlugGw}
use Rattle.gate_rules.specs.declared.verdict.Verdict.TheVariants.{Permit}
use Rattle.netperm_table.specs.declared.line.Line.{Line}
use Rattle.plug_gate.specs.Dialogue.{connect_text, plug_row}
use Rattle.plug_gate.specs.Dummies.{lent}
use Rattle.session_acts.specs.Acts.{Front}
use Rattle.session_acts.specs.Causes.{Caused}
use Rattle.session_acts.specs.Denying.{no_rows}
use Rattle.session_acts.specs.Laws.{Adds}
use Rattle.session_acts.specs.Relayed.{relayed}
use Rattle.session_acts.specs.Session.{RelaySession}
use Rattle.session_acts.specs.World.{Devices}
use Rattle.client_service.specs.Decision.{decision_text}
use Rattle.client_service.specs.Meeting.{logged_row, patient, timeout_of}

-- ---- whom it is for

-- the port of the plug, where the service is that
abbrev pub plug_in : Service → Option ℕ
plug_in (PlugGw port) = Some port
plug_in service = None

-- these are what some table says to the service
pub record AreRulesOf (service : Service) (rules : RuleBook) : Type 0 where
  pub lines : List Line
  pub read : rules_of service lines ≡ Ok rules

-- the destination of the permit line with this number
abbrev pub target_in : Option Options → Option Dest
target_in None = None
target_in (Some options) = options.plug_to

abbrev pub target_of : RuleBook → ℕ → Option Dest
target_of rules line = target_in (options_at rules line)

-- ---- what is done

-- the devices that a client of the plug meets: a port, a clock, dice and a mail store have no part in its
-- session
abbrev pub plug_devices : {Origin : Type 0} → Devices Origin → Devices (Unit {0})
plug_devices devices = lent devices.inlet devices.outlet devices.logs devices.dialer

-- the line of the permission is logged, and then the session held with the destination of that line, over devices that wait
-- as the table has it
pub record LinksOver (at line : ℕ) (rules : RuleBook) (peer : Peer) (ending : Ending) (old new : Devices (Unit {0})) : Type 0 where
  pub dest : Dest
  pub target : target_of rules line ≡ Some dest
  pub session : RelaySession (relayed no_rows) (logged_row (decision_text (Permit line) (PlugGw at) peer) (plug_row (connect_text at peer dest line) dest)) (patient (timeout_of rules) old) new ending

-- so it is, and port, clock, dice and mail store stay as they are
pub record LinksTo {Origin : Type 0} (at line : ℕ) (rules : RuleBook) (peer : Peer) (ending : Ending) (old new : Devices Origin) : Type 0 where
  pub over : LinksOver at line rules peer ending (plug_devices old) (plug_devices new)
  pub port : new.port ≡ old.port
  pub clock : new.clock ≡ old.clock
  pub dice : new.dice ≡ old.dice
  pub store : new.store ≡ old.store

-- ---- what that comes to

-- the causes of a session that relays; but no port failed, and no request wanted memory, since none was made
abbrev pub CausedLinked : {Origin : Type 0} → Ending → Devices Origin → Devices Origin → Type 0
CausedLinked endings.AuthFault old new = ⊥
CausedLinked endings.NoMemory old new = ⊥
CausedLinked ending old new = Caused ending old new

-- the log was given no more than a front of these lines, and the dialer was asked for nothing
pub record IsUnasked {Origin : Type 0} (lines : List ℕ) (ending : Ending) (old new : Devices Origin) : Type 0 where
  pub ends : ending ≡ endings.LogFault
  pub front : Front lines
  pub logs : new.logs.given ≡ grown old.logs.given front.part
  pub asked : Adds [] old.dialer.asked new.dialer.asked

-- the log was given these lines whole, and more, and the dialer was asked for the destination, once, and for no other
pub record IsAsked {Origin : Type 0} (lines : List ℕ) (dest : Dest) (old new : Devices Origin) : Type 0 where
  pub more : List ℕ
  pub logs : new.logs.given ≡ grown old.logs.given (lines ++ more)
  pub asked : Adds (Main dest ∷ []) old.dialer.asked new.dialer.asked

-- a destination is asked for exactly where the log has the line of the permission and the connect line whole; it is that of
-- the line that permits, which the connect line names
pub record AsksLogged {Origin : Type 0} (at line : ℕ) (rules : RuleBook) (peer : Peer) (ending : Ending) (old new : Devices Origin) : Type 0 where
  pub dest : Dest
  pub target : target_of rules line ≡ Some dest
  pub so : IsUnasked (decision_text (Permit line) (PlugGw at) peer ++ connect_text at peer dest line) ending old new ⊎ IsAsked (decision_text (Permit line) (PlugGw at) peer ++ connect_text at peer dest line) dest old new
