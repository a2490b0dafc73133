-- The sessions that a server holds over one book and one pool of slots.
use Rattle.std.specs.Prelude.{◌≡◌, ℕ, ◌+◌, ◌-◌, ◌^◌, ◌≤◌, min, false, List, [], ◌∷◌, flat_map, None, Some}
use Rattle.acceptors.specs.AcceptorView.{IsFresh, Visit}
use Rattle.auth_events.specs.Port.{Port}
use Rattle.auth_events.specs.declared.entry.Entry.{Entry}
use Rattle.auth_machine.specs.History.{IsLegal}
use Rattle.auth_machine.specs.Port.{BookOrigin, full_at}
use Rattle.auth_port.specs.Shared.{SharedOrigin, pass_of, shared_port}
use Rattle.client_service.specs.Conn.{Causes, Conn, Dials, FrontsBy, IsRefused, Mails, TakesBy, Unasked, Unthrown, Untouched, WaitsAs}
use Rattle.client_service.specs.Kind.{kind_of, may_relay}
use Rattle.client_service.specs.Meeting.{lent_by}
use Rattle.fw_outside.specs.ClockView.{ClockView}
use Rattle.fw_outside.specs.DialerView.{DialerView}
use Rattle.fw_outside.specs.DiceView.{DiceView}
use Rattle.fw_outside.specs.SinkView.{SinkView}
use Rattle.fw_outside.specs.SourceView.{SourceView}
use Rattle.fw_types.specs.declared.ending.Ending.{Ending}
use Rattle.fw_types.specs.declared.peer.Peer.{Peer}
use Rattle.gate_rules.specs.Reading.{RuleBook}
use Rattle.gate_rules.specs.Verdict.{verdict_of}
use Rattle.gate_rules.specs.declared.service.Service.{Service}
use Rattle.session_acts.specs.Causes.{KeepsAs}
use Rattle.session_acts.specs.World.{Devices, mail_devices_with}
use Rattle.spool_pool.specs.Known.{PassView}
use Rattle.spool_rack.specs.Store.{StoreView, with_put}
use Rattle.turn_lock.specs.Known.{Known, Lock}
use Rattle.fwtk_serve.specs.Mailed.{Mailed, mailed_by}
use Rattle.fwtk_serve.specs.RulesFor.{rules_for}
use Rattle.fwtk_serve.specs.declared.passes.Passes.{Passes}
use mathlib.Core.List.{IsPrefix}

-- what is reported of a session: whose it was, how it ended, and the places of the entries that it made in the history
pub record ServedView : Type 0 where
  pub service : Service
  pub peer : Peer
  pub ending : Ending
  pub places : List ℕ

-- a session: the client as it came, and as it was taken back, what is reported, and what came of it in the mail store
pub record Sitting : Type 0 where
  pub fresh : Visit
  pub back : Visit
  pub served : ServedView
  pub mailed : Mailed

-- what the two passes of a worker know, that of the book and that of the pool
abbrev pub Both : Type 0
Both = Passes (Known Entry BookOrigin) PassView

-- ---- one session

-- a client, with what its devices mean
abbrev pub visit_with : Service → Peer → SourceView → SinkView → SinkView → DialerView → ClockView → DiceView → Visit
visit_with service peer from to logs dialer clock dice = record {
  guest = record { service = service; peer = peer };
  from = from;
  to = to;
  logs = logs;
  dialer = dialer;
  clock = clock;
  dice = dice;
}

-- the devices of its session
abbrev pub devices_of : Visit → Port SharedOrigin → StoreView → Devices SharedOrigin
devices_of visit port store = mail_devices_with port visit.from visit.to visit.logs visit.dialer visit.clock visit.dice store

-- what `conn` says of a session: its acts and its ending; why it ended so, what was taken and for how long it was waited, whom
-- the dialer was asked for, what was passed on, what the mail store was given, and what stays
pub record GoesAs (service : Service) (rules : RuleBook) (peer : Peer) (ending : Ending) (old new : Devices SharedOrigin) : Type 0 where
  pub conn : Conn service rules peer old new ending
  pub caused : Causes (kind_of service (verdict_of rules peer)) (verdict_of rules peer) ending old new
  pub spent : TakesBy (kind_of service (verdict_of rules peer)) ending old new
  pub waited : WaitsAs (kind_of service (verdict_of rules peer)) (verdict_of rules peer) rules ending old new
  pub refused : IsRefused (verdict_of rules peer) ending
  pub dialed : Dials service (verdict_of rules peer) rules peer ending old new
  pub fronts : FrontsBy service (verdict_of rules peer) rules peer ending old new
  pub unasked : Unasked (kind_of service (verdict_of rules peer)) (verdict_of rules peer) rules ending old new
  pub untouched : Untouched service (verdict_of rules peer) old.port new.port
  pub unclocked : Untouched service (verdict_of rules peer) old.clock new.clock
  pub unthrown : Unthrown service (verdict_of rules peer) old.dice new.dice
  pub kept : Mails service (verdict_of rules peer) rules peer ending old new
  pub keeps : KeepsAs (may_relay (kind_of service (verdict_of rules peer))) (lent_by (verdict_of rules peer) rules old) new

-- the port of a pass that is handed in
abbrev pub port_at : Lock BookOrigin → Known Entry BookOrigin → Port SharedOrigin
port_at lock pass = shared_port (record { lock = lock; first = pass }) pass.seen [] false 0

-- the store of a pass at a seat of its pool, with no slot out
abbrev pub store_at : PassView → StoreView
store_at pass = record {
  queues = None;
  handed = Some pass.handed;
  out = [];
  no_free = pass.no_free;
  no_full = pass.no_full;
  broken = pass.broken;
}

-- A session by these rules, whose port and whose mail store are those of two passes, which knew this at first and know that
-- afterwards. What is reported are the client, the ending and the places of the port's own entries. The port is full exactly
-- where as many entries were seen as fit; it never failed, nor answered what doesn't fit; what was seen at first is a front of
-- what is seen afterwards, which is legal, if that was. What was put into the mail store are the slots of the messages that were
-- kept, in order, and nothing else; each message for which no slot was free was counted, and each at which a disk failed.
pub record Held (rules : RuleBook) (lock : Lock BookOrigin) (first last : Both) (sitting : Sitting) : Type 0 where
  pub port : Port SharedOrigin
  pub goes : GoesAs sitting.fresh.guest.service rules sitting.fresh.guest.peer sitting.served.ending
      (devices_of sitting.fresh (port_at lock first.book) (store_at first.mail)) (devices_of sitting.back port (store_at last.mail))
  pub guest : sitting.back.guest ≡ sitting.fresh.guest
  pub service : sitting.served.service ≡ sitting.fresh.guest.service
  pub peer : sitting.served.peer ≡ sitting.fresh.guest.peer
  pub places : sitting.served.places ≡ port.mine
  pub full : port.full ≡ full_at lock.limit port.seen
  pub calm : (port.faults ≡ 0) × (port.odd ≡ 0)
  pub origin : port.origin ≡ record { lock = lock; first = first.book }
  pub pass : last.book ≡ pass_of port
  pub begins : IsPrefix first.book.seen last.book.seen
  pub legal : IsLegal lock.origin.origin first.book.seen → IsLegal lock.origin.origin last.book.seen
  pub mailed : sitting.mailed ≡ mailed_by sitting.fresh.guest.service (verdict_of rules sitting.fresh.guest.peer) rules sitting.fresh.guest.peer sitting.served.ending
      (devices_of sitting.fresh (port_at lock first.book) (store_at first.mail)) (devices_of sitting.back port (store_at last.mail)) goes.kept
  pub put : last.mail.handed ≡ with_put sitting.mailed.put first.mail.handed
  pub no_free : min (first.mail.no_free + sitting.mailed.unslotted) (2 ^ 64 - 1) ≤ last.mail.no_free
  pub no_full : last.mail.no_full ≡ first.mail.no_full
  pub broken : min (first.mail.broken + sitting.mailed.faulted) (2 ^ 64 - 1) ≤ last.mail.broken

-- a client that was new, by the rules of its service among these
pub record WasServed (rules : List (Service × RuleBook)) (lock : Lock BookOrigin) (first last : Both) (sitting : Sitting) : Type 0 where
  pub is_fresh : IsFresh sitting.fresh
  pub held : Held (rules_for sitting.fresh.guest.service rules) lock first last sitting

-- ---- one session after the other

-- a session, and those after it, each over the passes as the one before it left them
pub record ServedFirst (First : Both → Type 0) (More : Both → Type 0) : Type 0 where
  pub middle : Both
  pub first : First middle
  pub more : More middle

abbrev pub WereServed : List (Service × RuleBook) → Lock BookOrigin → Both → Both → List Sitting → Type 0
WereServed rules lock first last [] = last ≡ first
WereServed rules lock first last (sitting ∷ more) =
    ServedFirst (λ middle. WasServed rules lock first middle sitting) (λ middle. WereServed rules lock middle last more)

-- the places of the entries of all these sessions
abbrev pub places_of : List Sitting → List ℕ
places_of sittings = flat_map (λ sitting. sitting.served.places) sittings
