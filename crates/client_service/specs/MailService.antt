-- A client of `smap` whom the rules permit: its session is held over the mail store, behind the line of the permission.
use Rattle.std.specs.Prelude.{◌≡◌, ℕ, ◌+◌, ◌-◌, ◌^◌, ◌≤◌, ◌⊎◌, Bool, true, false, min, List, ◌++◌, length, Option, Some, None}
use Rattle.fw_outside.specs.DialerView.{dialer_waiting}
use Rattle.fw_outside.specs.SinkView.{SinkView}
use Rattle.fw_outside.specs.ToldList.{grown}
use Rattle.fw_types.specs.declared.ending.Ending.{Ending}
use Rattle.fw_types.specs.declared.peer.Peer.{Peer}
use Rattle.gate_rules.specs.Reading.{RuleBook}
use Rattle.gate_rules.specs.Verdict.{setting_of}
use Rattle.gate_rules.specs.declared.service.Service.{Service}
use Rattle.gate_rules.specs.declared.service.Service.TheVariants.{Smap}
use Rattle.gate_rules.specs.declared.setting.Setting.TheVariants.{MaxBytes, MaxRecip}
use Rattle.gate_rules.specs.declared.verdict.Verdict.TheVariants.{Permit}
use Rattle.session_acts.specs.Client.{LogFails, with_line}
use Rattle.session_acts.specs.Deeds.{deeds_ran, gives}
use Rattle.session_acts.specs.Laws.{logged, told}
use Rattle.session_acts.specs.Session.{Session, deeds_of}
use Rattle.session_acts.specs.Stored.{AreKept, KeptMail, faulted, kept, unslotted}
use Rattle.session_acts.specs.World.{Devices}
use Rattle.smap_gate.specs.Dialogue.{smap_row, smap_rows}
use Rattle.smap_gate.specs.Dummies.{lent}
use Rattle.smap_gate.specs.Gate.{Gate}
use Rattle.smap_gate.specs.Logging.{LogsDue}
use Rattle.smap_gate.specs.Messages.{KeepsMessages}
use Rattle.smap_gate.specs.Replies.{ToldInOrder}
use Rattle.spool_rack.specs.Store.{PutGrew, StoreView}
use Rattle.spool_slots.specs.States.{FullView}
use Rattle.client_service.specs.Decision.{decision_text}
use Rattle.client_service.specs.Endings.{NotedIf, ending_line}
use Rattle.client_service.specs.Meeting.{logged_row, patient, timeout_of}

-- the service is the mail gateway
abbrev pub is_mail : Service → Bool
is_mail Smap = true
is_mail service = false

-- ---- how much it may send

-- how many bytes the body of a message has at most: as the table sets it, or else 10,000,000; a slot has no room for more
-- than 67,108,864, nor does a table set more
abbrev pub bytes_by : Option (ℕ × ℕ) → ℕ
bytes_by None = 10000000
bytes_by (Some set) = min set.0 67108864

-- how many recipients it has: so, or else 100; and no more than 1,000
abbrev pub rcpts_by : Option (ℕ × ℕ) → ℕ
rcpts_by None = 100
rcpts_by (Some set) = min set.0 1000

abbrev pub mail_gate_of : RuleBook → Peer → Gate
mail_gate_of rules peer = record { peer = peer; most_bytes = bytes_by (setting_of rules MaxBytes); most_rcpts = rcpts_by (setting_of rules MaxRecip) }

-- ---- what is done

-- the devices that such a client meets: a port, a dialer, a clock and dice have no part in its session
abbrev pub mail_devices : {Origin : Type 0} → Devices Origin → Devices (Unit {0})
mail_devices devices = lent devices.inlet devices.outlet devices.logs devices.store

-- the line of the permission is logged, and then the session held with the limits of the table
abbrev pub MailsOver : ℕ → RuleBook → Peer → Ending → Devices (Unit {0}) → Devices (Unit {0}) → Type 0
MailsOver line rules peer ending old new =
    Session (smap_rows (mail_gate_of rules peer)) (logged_row (decision_text (Permit line) Smap peer) smap_row) old new ending

-- so it is, over devices that wait as the table has it; the dialer is told so, too, and port, clock and dice stay as they are
pub record MailsTo {Origin : Type 0} (line : ℕ) (rules : RuleBook) (peer : Peer) (ending : Ending) (old new : Devices Origin) : Type 0 where
  pub over : MailsOver line rules peer ending (mail_devices (patient (timeout_of rules) old)) (mail_devices new)
  pub port : new.port ≡ old.port
  pub dialer : new.dialer ≡ dialer_waiting old.dialer (timeout_of rules)
  pub clock : new.clock ≡ old.clock
  pub dice : new.dice ≡ old.dice

-- ---- what that comes to

-- slots with these messages were put full, in this order, and no other; and each slot that was taken was put back
pub record Stores (mails : List KeptMail) (old new : StoreView) : Type 0 where
  pub slots : List FullView
  pub grew : PutGrew slots old new
  pub are : AreKept mails slots
  pub back : new.out ≡ old.out

-- The session of the gateway was held behind this line. What the client was told is, for each line and each message in order,
-- its reply. The store was given the messages that the session's deeds kept, in order, and no other: each of the sender and to
-- the recipients that stood at the line that asked for its data, and right behind each its line was logged, and no other line.
-- What the client's sink was given is what these deeds told, and what the log was given is this line and what they logged.
-- The store counted each message for which no slot was free, and each at which the disk of a slot failed, as far as the counts
-- go.
pub record MailsBehind (line : List ℕ) (gate : Gate) (ending : Ending) (old new : Devices (Unit {0})) : Type 0 where
  pub session : Session (smap_rows gate) smap_row (with_line line old) new ending
  pub replies : ToldInOrder gate session.held
  pub asked : KeepsMessages gate session.held
  pub due : LogsDue gate.peer None (deeds_ran session.held.ran)
  pub told : new.outlet.given ≡ grown old.outlet.given (gives told (deeds_of session.held))
  pub logged : new.logs.given ≡ grown old.logs.given (line ++ gives logged (deeds_of session.held))
  pub stores : Stores (gives kept (deeds_of session.held)) old.store new.store
  pub unslotted : min (old.store.no_free + length (gives unslotted (deeds_of session.held))) (2 ^ 64 - 1) ≤ new.store.no_free
  pub faulted : min (old.store.broken + length (gives faulted (deeds_of session.held))) (2 ^ 64 - 1) ≤ new.store.broken

-- or the log failed within the line, and nothing else was done
abbrev pub MailsOrFails : List ℕ → Gate → Ending → Devices (Unit {0}) → Devices (Unit {0}) → Type 0
MailsOrFails line gate ending old new = LogFails line old new ending ⊎ MailsBehind line gate ending old new

-- so it was with the line of the permission, up to the line of the ending, which was logged behind that
pub record MailsIn {Origin : Type 0} (line : ℕ) (rules : RuleBook) (peer : Peer) (ending : Ending) (old new : Devices Origin) : Type 0 where
  pub logs : SinkView
  pub so : MailsOrFails (decision_text (Permit line) Smap peer) (mail_gate_of rules peer) ending (mail_devices (patient (timeout_of rules) old)) (mail_devices (record new { logs = logs }))
  pub noted : NotedIf (ending_line Smap peer ending) logs new.logs
