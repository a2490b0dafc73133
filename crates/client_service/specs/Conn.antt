-- One client of a service: the line of its verdict, its session or its denial, and the line of its ending.
use Rattle.std.specs.Prelude.{◌≡◌, ℕ, ◌⊎◌, true, false}
use Rattle.authsrv_gate.specs.Dialogue.{rows, session_row}
use Rattle.fw_outside.specs.SinkView.{SinkView}
use Rattle.fw_outside.specs.SourceView.{SourceView}
use Rattle.fw_types.specs.declared.ending.Ending.{Ending}
use Rattle.fw_types.specs.declared.ending.Ending.TheVariants as endings
use Rattle.fw_types.specs.declared.peer.Peer.{Peer}
use Rattle.gate_rules.specs.Reading.{RuleBook}
use Rattle.gate_rules.specs.Verdict.{options_at, verdict_of}
use Rattle.gate_rules.specs.declared.service.Service.{Service}
use Rattle.gate_rules.specs.declared.service.Service.TheVariants.{Authsrv, FtpGw, PlugGw, Smap, TnGw}
use Rattle.gate_rules.specs.declared.verdict.Verdict.{Verdict}
use Rattle.gate_rules.specs.declared.verdict.Verdict.TheVariants.{Permit, Deny}
use Rattle.plug_gate.specs.Laws.{GivesFronts}
use Rattle.session_acts.specs.Causes.{RelayTakesFor, TakesFor, WaitedInVain, WaitsFor}
use Rattle.session_acts.specs.Denying.{no_rows}
use Rattle.session_acts.specs.Serverless.{CausedAlone, TakesExactly}
use Rattle.session_acts.specs.Session.{Session}
use Rattle.session_acts.specs.World.{Devices}
use Rattle.tn_gate.specs.Gate.{asks_login, options_or_none}
use Rattle.client_service.specs.Decision.{decision_text}
use Rattle.client_service.specs.Endings.{denied_words, ending_line}
pub use Rattle.client_service.specs.Endings.{Noted, NotedIf}
use Rattle.client_service.specs.FtpService as ftp
use Rattle.client_service.specs.GateService.{LetsIn, RelaysIn}
use Rattle.client_service.specs.Gateways.{CausedGated, StaysUnasked}
use Rattle.client_service.specs.Kind.{Kind}
use Rattle.client_service.specs.Kind.Kind.{Alone, Gated, Plugged, Replied}
use Rattle.client_service.specs.MailService.{MailsIn, MailsTo}
use Rattle.client_service.specs.Meeting.{away_row, denied_by, dialer_then, logged_row, mailless, patient, timeout_of}
use Rattle.client_service.specs.PlugService.{AreRulesOf, AsksLogged, CausedLinked, LinksTo}
use Rattle.client_service.specs.UserNames.{UnaskedUnnamed}

-- the services whose clients are served; the rules are the plug's, so that a line that permits has a destination
abbrev pub IsServed : Service → RuleBook → Type 0
IsServed Authsrv rules = Unit {0}
IsServed TnGw rules = Unit {0}
IsServed FtpGw rules = Unit {0}
IsServed Smap rules = Unit {0}
IsServed (PlugGw port) rules = AreRulesOf (PlugGw port) rules
IsServed service rules = ⊥

-- ---- the session

-- the line of the denial is logged, and then it is tried to tell the client the words that its service has for that, if any
pub record TurnsAway {Origin : Type 0} (line : ℕ) (service : Service) (peer : Peer) (ending : Ending) (old new : Devices Origin) : Type 0 where
  pub told : Ending
  pub session : Session no_rows (away_row (decision_text (Deny line) service peer) (denied_words service line)) old new told
  pub ends : ending ≡ denied_by line told

-- the line of the permission is logged, and then the session of `authsrv` held, over devices that wait as the table has it;
-- and the mail store stays as it is
pub record Permits {Origin : Type 0} (line : ℕ) (rules : RuleBook) (peer : Peer) (ending : Ending) (old new : Devices Origin) : Type 0 where
  pub session : Session rows (logged_row (decision_text (Permit line) Authsrv peer) (session_row false)) (patient (timeout_of rules) (mailless old)) (mailless new) ending
  pub store : new.store ≡ old.store

-- whom the rules permit: a row a service
abbrev pub PermitsBy : {Origin : Type 0} → Service → ℕ → RuleBook → Peer → Ending → Devices Origin → Devices Origin → Type 0
PermitsBy (PlugGw port) line rules peer ending old new = LinksTo port line rules peer ending old new
PermitsBy TnGw line rules peer ending old new = LetsIn line rules peer ending old new
PermitsBy FtpGw line rules peer ending old new = ftp.Serves line rules peer ending old new
PermitsBy Smap line rules peer ending old new = MailsTo line rules peer ending old new
PermitsBy Authsrv line rules peer ending old new = Permits line rules peer ending old new
PermitsBy service line rules peer ending old new = ⊥

abbrev pub Treats : {Origin : Type 0} → Verdict → Service → RuleBook → Peer → Ending → Devices Origin → Devices Origin → Type 0
Treats (Deny line) service rules peer ending old new = TurnsAway line service peer ending old new
Treats (Permit line) service rules peer ending old new = PermitsBy service line rules peer ending old new

-- ---- the ending's line

-- a client of a service is treated by its verdict, and then its ending's line given to the log, which changes no ending.
-- Kept by `conn` (`conn`); body: src/serving.rt.
pub record Conn {Origin : Type 0} (service : Service) (rules : RuleBook) (peer : Peer) (old new : Devices Origin) (ending : Ending) : Type 0 where
  pub logs : SinkView
  pub treats : Treats (verdict_of rules peer) service rules peer ending old (record new { logs = logs })
  pub noted : NotedIf (ending_line service peer ending) logs new.logs

-- a session at the console, where there is no mail store, and then its ending's line
pub record AtConsole {Origin : Type 0} (service : Service) (peer : Peer) (old new : Devices Origin) (ending : Ending) : Type 0 where
  pub logs : SinkView
  pub session : Session rows (session_row true) (mailless old) (mailless (record new { logs = logs })) ending
  pub noted : NotedIf (ending_line service peer ending) logs new.logs

-- ---- what an ending says

-- Any ending but done and want of memory is counted. A client that is alone ends by no server; one of the plug by no port, and
-- never for want of memory; and one of `tn-gw` or `ftp-gw` never since a destination couldn't be reached.
abbrev pub CausedBy : {Origin : Type 0} → Kind → Ending → Devices Origin → Devices Origin → Type 0
CausedBy Alone ending old new = CausedAlone ending old new
CausedBy Plugged ending old new = CausedLinked ending old new
CausedBy Gated ending old new = CausedGated ending old new
CausedBy Replied ending old new = CausedGated ending old new

-- a denial is the verdict's
abbrev pub Causes : {Origin : Type 0} → Kind → Verdict → Ending → Devices Origin → Devices Origin → Type 0
Causes kind verdict (endings.Denied line) old new = verdict ≡ Deny line
Causes kind verdict ending old new = CausedBy kind ending old new

-- a client that the verdict denies is denied by its line, unless the log failed. Kept by `conn` (`refused`); body:
-- src/serving.rt.
abbrev pub IsRefused : Verdict → Ending → Type 0
IsRefused (Deny line) ending = (ending ≡ endings.Denied line) ⊎ (ending ≡ endings.LogFault)
IsRefused (Permit line) ending = Unit {0}

-- at most as many bytes as may be are taken of a client, of one that is alone so many exactly where its session is spent; where so many are taken of one
-- of `ftp-gw`, its session is spent, and that of one that may relay is, or has failed or been idle before; for what else these
-- two are spent, `Causes` says
abbrev pub TakesBy : {Origin : Type 0} → Kind → Ending → Devices Origin → Devices Origin → Type 0
TakesBy Alone ending old new = TakesExactly ending old new
TakesBy Plugged ending old new = RelayTakesFor ending old new
TakesBy Gated ending old new = RelayTakesFor ending old new
TakesBy Replied ending old new = TakesFor ending old new

-- where the ending is idle, the client's source waited in vain, as long as it was to wait; there is no server to wait for
abbrev pub WaitsAlone : Ending → SourceView → SourceView → Type 0
WaitsAlone endings.Idle old new = WaitedInVain old new
WaitsAlone ending old new = Unit {0}

-- where the ending is idle, it was the client that was waited for; or a server, where it may reach one
abbrev pub WaitsBy : {Origin : Type 0} → Kind → Ending → Devices Origin → Devices Origin → Type 0
WaitsBy Alone ending old new = WaitsAlone ending old.inlet new.inlet
WaitsBy Plugged ending old new = WaitsFor ending old new
WaitsBy Gated ending old new = WaitsFor ending old new
WaitsBy Replied ending old new = WaitsFor ending old new

-- where a client whom the verdict permits was idle, it was waited for as long as the rules have it
abbrev pub WaitsAs : {Origin : Type 0} → Kind → Verdict → RuleBook → Ending → Devices Origin → Devices Origin → Type 0
WaitsAs kind (Permit line) rules ending old new = WaitsBy kind ending (patient (timeout_of rules) old) new
WaitsAs kind (Deny line) rules ending old new = Unit {0}

-- What the dialer is asked: for a client of the plug whom the verdict permits, the destination of the line; for any other,
-- but for one of `tn-gw` or `ftp-gw` whom it permits, nothing, and it is told how long to wait where the verdict permits. Of
-- those `FrontsBy` says it.
abbrev pub Dials : {Origin : Type 0} → Service → Verdict → RuleBook → Peer → Ending → Devices Origin → Devices Origin → Type 0
Dials (PlugGw port) (Permit line) rules peer ending old new = AsksLogged port line rules peer ending old new
Dials TnGw (Permit line) rules peer ending old new = Unit {0}
Dials FtpGw (Permit line) rules peer ending old new = Unit {0}
Dials service verdict rules peer ending old new = new.dialer ≡ dialer_then verdict rules old.dialer

-- Whom the verdict permits: what the server of a client of the plug was given is a front of what was taken of the client, and
-- what the client was given a front of what was taken of the server. So it is for a client of `tn-gw`, behind what its session
-- heard and told; and what that session asked the dialer for, logged and denied is said of the same deeds. So it is said of one
-- of `ftp-gw`, and what its server was given.
abbrev pub FrontsBy : {Origin : Type 0} → Service → Verdict → RuleBook → Peer → Ending → Devices Origin → Devices Origin → Type 0
FrontsBy (PlugGw port) (Permit line) rules peer ending old new = GivesFronts old new ending
FrontsBy TnGw (Permit line) rules peer ending old new = RelaysIn line rules peer ending old new
FrontsBy FtpGw (Permit line) rules peer ending old new = ftp.ServesIn line rules peer ending old new
FrontsBy Authsrv (Permit line) rules peer ending old new = Unit {0}
FrontsBy Smap (Permit line) rules peer ending old new = Unit {0}
FrontsBy service (Permit line) rules peer ending old new = ⊥
FrontsBy service (Deny line) rules peer ending old new = Unit {0}

-- Where a line that permits a client of `tn-gw` asks for no login, what port and clock tell stays as it was, and neither the
-- port nor want of memory ends the session. So it is for one of `ftp-gw` where no line of the client names a user.
abbrev pub Unasked : {Origin : Type 0} → Kind → Verdict → RuleBook → Ending → Devices Origin → Devices Origin → Type 0
Unasked Gated (Permit line) rules ending old new = asks_login (options_or_none (options_at rules line)) ≡ false → StaysUnasked ending old new
Unasked Replied (Permit line) rules ending old new = UnaskedUnnamed ending old new
Unasked kind verdict rules ending old new = Unit {0}

-- What the mail store is given: of a client of `smap` whom the verdict permits the messages that its session kept, and of any
-- other nothing.
abbrev pub Mails : {Origin : Type 0} → Service → Verdict → RuleBook → Peer → Ending → Devices Origin → Devices Origin → Type 0
Mails Smap (Permit line) rules peer ending old new = MailsIn line rules peer ending old new
Mails service verdict rules peer ending old new = new.store ≡ old.store

-- the port, and the clock: where the verdict denies, and for each client of the plug or of `smap`, they are left as they were
abbrev pub Untouched : {A : Type 0} → Service → Verdict → A → A → Type 0
Untouched (PlugGw port) verdict old new = new ≡ old
Untouched Smap verdict old new = new ≡ old
Untouched service (Deny line) old new = new ≡ old
Untouched service (Permit line) old new = Unit {0}

-- the dice: so they are for each client of `tn-gw` or `ftp-gw`, too
abbrev pub Unthrown : {A : Type 0} → Service → Verdict → A → A → Type 0
Unthrown TnGw verdict old new = new ≡ old
Unthrown FtpGw verdict old new = new ≡ old
Unthrown service verdict old new = Untouched service verdict old new

-- the mail store: it is left as it was, but for a client of `smap` whom the verdict permits
abbrev pub Unstored : {A : Type 0} → Service → Verdict → A → A → Type 0
Unstored Smap (Permit line) old new = Unit {0}
Unstored service verdict old new = new ≡ old
