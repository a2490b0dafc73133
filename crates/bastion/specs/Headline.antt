-- The headline, a field a sentence, as far as there are commands for it: the replies of the authentication server are those
-- of one legal history, or those of a server elsewhere; a destination is asked for exactly if the table permits it; every denial logs its line; what is
-- relayed is a front of what was taken; each message that is answered as kept stands whole in its slot.
use Rattle.std.specs.Prelude.{◌≡◌, ◌≢◌, ℕ, ◌⊎◌, Bool, true, false, List, Option, Some, None, Ok, Err}
use Rattle.auth_machine.specs.Book.{BookView}
use Rattle.auth_machine.specs.Port.{BookOrigin}
use Rattle.authsrv_gate.specs.Dialogue.{rows, session_row}
use Rattle.authsrv_gate.specs.declared.place.Place.{Place}
use Rattle.client_service.specs.Decision.{decision_text}
use Rattle.client_service.specs.Endings.{denied_text}
use Rattle.client_service.specs.Meeting.{logged_row, patient, timeout_of}
use Rattle.fw_acts.specs.Acts.{Row}
use Rattle.fw_outside.specs.DialerView.{DialerView}
use Rattle.fw_outside.specs.KeeperView.{KeeperView}
use Rattle.fw_outside.specs.SinkView.{SinkView}
use Rattle.fw_outside.specs.ToldList.{grown}
use Rattle.fw_types.specs.declared.peer.Peer.{Peer}
use Rattle.gate_rules.specs.Reading.{RuleBook}
use Rattle.gate_rules.specs.declared.service.Service.{Service}
use Rattle.gate_rules.specs.declared.service.Service.TheVariants as services
use Rattle.gate_rules.specs.declared.verdict.Verdict.TheVariants.{Permit, Deny}
use Rattle.session_acts.specs.Deeds.{gives}
use Rattle.session_acts.specs.Dummies.{nowhere}
use Rattle.session_acts.specs.Laws.{told}
use Rattle.session_acts.specs.Met.{acts}
use Rattle.session_acts.specs.Session.{Session, deeds_of}
use Rattle.session_acts.specs.World.{Devices}
use Rattle.bastion.specs.Asking.{AsksAtMost, IsUndecided}
use Rattle.bastion.specs.Basis.{Basis, Course}
use Rattle.bastion.specs.Basis.Basis.{Nothing, Refused, Given}
use Rattle.bastion.specs.AtGateway.{Comes}
use Rattle.bastion.specs.FtpGateway.{OfFtp}
use Rattle.bastion.specs.Gateway.{OfTelnet}
use Rattle.bastion.specs.Gateways.{denial_words, gateway_service}
use Rattle.bastion.specs.HandedOn.{IsHandedOn}
use Rattle.bastion.specs.Inputs.{HasInputs, Inputs, needs_records}
use Rattle.bastion.specs.MailKept.{IsTakenIn}
use Rattle.bastion.specs.Outcome.{verdict_status}
use Rattle.bastion.specs.Run.{ReadsOnly, is_at_console, verdict_for}
use Rattle.bastion.specs.Serving.{book_at_first, devices_at, most_entries, origin_of}
use Rattle.bastion.specs.Talk.{IsConcluded, IsLegalTalk, IsSilent, IsToldOff, IsUnserved, was_refused}
use Rattle.bastion.specs.Words.{LineView}
use Rattle.bastion.specs.Works.{with_given}
use Rattle.bastion.specs.WorldView.{Post, WorldView}
use Rattle.bastion.specs.declared.words.Authorities.{Authorities}
use Rattle.bastion.specs.declared.words.Authorities.TheVariants.{Records}
use Rattle.bastion.specs.declared.words.Client.{Client}
use Rattle.bastion.specs.declared.words.Command.{Command}
use Rattle.bastion.specs.declared.words.Command.TheVariants.{Netacl, NetaclRun, Table, Authsrv, PlugGw, Gateway, Smap}
use Rattle.bastion.specs.declared.words.GatewayKind.{GatewayKind}
use Rattle.bastion.specs.declared.words.GatewayKind.TheVariants as kinds
use Rattle.bastion.specs.declared.words.Job.{Job}
use Rattle.bastion.specs.declared.words.Job.TheVariants as jobs
use Rattle.bastion.specs.declared.words.Order.{Order}
use Rattle.bastion.specs.declared.words.Order.TheVariants.{ByTable, Alone}

-- ---- every denial logs its line

-- whom the rules permit, or who is at the console, isn't denied
pub record IsPermitted (command : Command) (inputs : Inputs) (status : ℕ) : Type 0 where
  pub permitted : is_at_console command ≡ false → verdict_status (verdict_for command inputs) ≡ 0
  pub undenied : status ≢ 1

-- whom a line denies: the log has the line of that whole, and no other
pub record IsDenied (command : Command) (service : Service) (peer : Peer) (inputs : Inputs) (status : ℕ) (old new : WorldView) : Type 0 where
  pub line : ℕ
  pub denied : verdict_for command inputs ≡ Deny line
  pub logged : new.logs ≡ with_given old.logs (decision_text (Deny line) service peer)
  pub status_is : status ≡ 1

-- a command that logs its verdict; a client of the plug that is denied is told nothing
abbrev pub LogsDenial : Command → Service → Peer → Inputs → ℕ → WorldView → WorldView → Type 0
LogsDenial command service peer inputs status old new = IsSilent status old new ⊎ (IsPermitted command inputs status ⊎ IsDenied command service peer inputs status old new)

abbrev pub DenialLogged : Command → Inputs → ℕ → WorldView → WorldView → Type 0
DenialLogged (Netacl query) inputs status old new = LogsDenial (Netacl query) query.service query.peer inputs status old new
DenialLogged (NetaclRun query) inputs status old new = LogsDenial (NetaclRun query) query.service query.peer inputs status old new
DenialLogged (Table query) inputs status old new = Unit {0}
DenialLogged (Authsrv client) inputs status old new = LogsDenial (Authsrv client) services.Authsrv client.peer inputs status old new
DenialLogged (PlugGw caller) inputs status old new = LogsDenial (PlugGw caller) (services.PlugGw caller.port) caller.peer inputs status old new × (status ≡ 1 → new.output ≡ old.output)
DenialLogged (Gateway kind authorities peer) inputs status old new = LogsDenial (Gateway kind authorities peer) (gateway_service kind) peer inputs status old new
DenialLogged (Smap peer) inputs status old new = LogsDenial (Smap peer) services.Smap peer inputs status old new

-- ---- the replies are those of one legal history

-- what is done first: at the console the session; else the line of the permission is logged before it
abbrev pub begins : Bool → Peer → ℕ → Row (acts BookOrigin) Place
begins true peer line = session_row true
begins false peer line = logged_row (decision_text (Permit line) services.Authsrv peer) (session_row false)

-- the devices, which wait as the rules have it for a client that isn't at the console
abbrev pub lent_to : Bool → RuleBook → Devices BookOrigin → Devices BookOrigin
lent_to true rules devices = devices
lent_to false rules devices = patient (timeout_of rules) devices

-- A session was held with a client whom the rules permit, or who is at the console, over the run's devices and a book of the
-- records that the keeper had. What it asked and was answered is one legal history, and the keeper has the records after it.
-- The client was given what the session's deeds tell.
pub record OfHistory (client : Client) (inputs : Inputs) (course : Course) (status : ℕ) (old new : WorldView) : Type 0 where
  pub before : KeeperView
  pub keeper : old.inputs.keeper ≡ Some before
  pub line : ℕ
  pub admitted : client.console ≡ false → verdict_for (Authsrv client) inputs ≡ Permit line
  pub book : BookView
  pub dialer : DialerView
  pub logs : SinkView
  pub session : Session rows (begins client.console client.peer line) (lent_to client.console inputs.rules (devices_at old (book_at_first (origin_of inputs) most_entries before) nowhere)) (record (devices_at new book dialer) { logs = logs }) course.ending
  pub deeds : deeds_of session.held ≡ course.deeds
  pub talk : IsLegalTalk inputs before (deeds_of session.held) book
  pub kept : new.inputs.keeper ≡ Some book.keeper
  pub told : new.output.given ≡ grown old.output.given (gives told (deeds_of session.held))
  pub concluded : IsConcluded services.Authsrv client.peer course.ending (was_refused (deeds_of session.held)) status logs new.logs

-- what came of a client of the authentication server
abbrev pub IsReplied : Client → Inputs → Course → ℕ → WorldView → WorldView → Type 0
IsReplied client inputs course status old new =
    IsUnserved status old new ⊎ (IsToldOff Records (Authsrv client) services.Authsrv client.peer denied_text nowhere inputs old new ⊎ OfHistory client inputs course status old new)

-- what holds of a session of a gateway that was held
abbrev pub OfGateKind : GatewayKind → Authorities → Peer → Inputs → Course → ℕ → WorldView → WorldView → Type 0
OfGateKind kinds.Telnet authorities peer inputs course status old new = OfTelnet authorities peer inputs course status old new
OfGateKind kinds.Ftp authorities peer inputs course status old new = OfFtp authorities peer inputs course status old new

-- what came of a client of a gateway
abbrev pub IsGated : GatewayKind → Authorities → Peer → Inputs → Course → ℕ → WorldView → WorldView → Type 0
IsGated kind authorities peer inputs course status old new =
    Comes authorities (Gateway kind authorities peer) (gateway_service kind) peer (denial_words kind) (OfGateKind kind authorities peer) inputs course status old new

-- a client of a gateway is one of whom destinations are asked, too: both sentences are of one session
abbrev pub IsReplying : Command → Inputs → Course → ℕ → WorldView → WorldView → Type 0
IsReplying (Authsrv client) inputs course status old new = IsReplied client inputs course status old new
IsReplying (Gateway kind authorities peer) inputs course status old new = IsGated kind authorities peer inputs course status old new
IsReplying command inputs course status old new = Unit {0}

-- ---- destinations are asked for as the table permits

-- a command without a link asks for nothing
abbrev pub AsksPermitted : Command → Inputs → Course → ℕ → WorldView → WorldView → Type 0
AsksPermitted (PlugGw caller) inputs course status old new = AsksAtMost caller inputs course.ending status old new
AsksPermitted (Gateway kind authorities peer) inputs course status old new = IsGated kind authorities peer inputs course status old new
AsksPermitted command inputs course status old new = new.inputs.dialer ≡ old.inputs.dialer

-- ---- each message that is answered as kept stands

-- a command without slots answers no message
abbrev pub AnswersStand : Command → Inputs → Course → ℕ → WorldView → WorldView → Type 0
AnswersStand (Smap peer) inputs course status old new = IsTakenIn peer inputs course status old new
AnswersStand command inputs course status old new = Unit {0}

-- a job but `smapd` hands on no message
abbrev pub HandsStand : Post → Job → Course → ℕ → WorldView → WorldView → Type 0
HandsStand post jobs.Smapd course status old new = IsHandedOn post course.turns status old new
HandsStand post job course status old new = Unit {0}

-- ---- the headline

-- of a command whose inputs were read, from the devices as they were then
pub record HeadlineBy (command : Command) (inputs : Inputs) (course : Course) (status : ℕ) (old new : WorldView) : Type 0 where
  -- a client of `authsrv`, `tn-gw` or `ftp-gw` is told nothing, and the keeper has what it had; or that it is denied; or the replies of
  -- one legal history, and of a gateway whose users a server elsewhere knows those that this server's lines say
  pub replies_legal : IsReplying command inputs course status old new
  -- `plug-gw` asks for the target of the first line that fits, if that permits, once both lines stand whole in the log, and
  -- relays fronts of what was taken; `tn-gw` asks for exactly the destinations that its client's lines ask for, the permission
  -- line allows and this session's login clears, each behind its line; so does `ftp-gw`, whose servers are given what the
  -- client's commands are passed as, without those that are blocked; no other command asks for a destination
  pub asks_permitted : AsksPermitted command inputs course status old new
  -- nobody is told anything, or the rules permit, or the log has the whole line of the denial
  pub denials_logged : DenialLogged command inputs status old new
  -- a client of `smap` is told nothing, or that it is denied, or the replies to its lines and messages; and each message that
  -- was answered 250 stands whole in the slot of the number that was told; what was done to the spool on the disks are events
  -- of its law, by which whatever list of such runs and crashes loses no message that was answered
  pub answered_stands : AnswersStand command inputs course status old new

-- What a command needs couldn't be had, or refuses. The log was told so, and nothing else; no destination was asked for, nobody was
-- told anything or denied, the keeper and the disks have what they had, and nothing was asked of a server elsewhere.
pub record IsUndone (status : ℕ) (old new : WorldView) : Type 0 where
  pub undecided : IsUndecided status old new
  pub unserved : IsUnserved status old new
  pub disks : new.inputs.disks ≡ old.inputs.disks
  pub remote : new.inputs.remote ≡ old.inputs.remote

-- of a command, by what it goes by
abbrev pub HeadlineFor : Command → Basis → Course → ℕ → WorldView → WorldView → Type 0
HeadlineFor command Nothing course status old new = IsUndone status old new
HeadlineFor command (Refused reading refusal) course status old new = IsUndone status old new
HeadlineFor command (Given reading inputs ready) course status old new = HeadlineBy command inputs course status ready new

-- a job without a table asks for no destination; and what `smapd` did to the spool on the disks are events of its law, by which just
-- those messages were accepted that the mailer accepted, so each of them is one that was finished
pub record HeadlineAlone (post : Post) (job : Job) (course : Course) (status : ℕ) (old new : WorldView) : Type 0 where
  pub unasked : new.inputs.dialer ≡ old.inputs.dialer
  pub answered_stands : HandsStand post job course status old new

abbrev pub HeadlineOf : Post → Order → Basis → Course → ℕ → WorldView → WorldView → Type 0
HeadlineOf post (ByTable command) basis course status old new = HeadlineFor command basis course status old new
HeadlineOf post (Alone job) basis course status old new = HeadlineAlone post job course status old new

-- words that are no command ask for no destination
abbrev pub Headlines : Post → Option LineView → Basis → Course → ℕ → WorldView → WorldView → Type 0
Headlines post None basis course status old new = new.inputs.dialer ≡ old.inputs.dialer
Headlines post (Some line) basis course status old new = HeadlineOf post line.order basis course status old new

-- ---- by some one reading

-- This is what a command goes by: the reading is of the table and the records of the run, and nothing else was done for it.
abbrev pub IsBasis : List ℕ → Command → Basis → WorldView → Type 0
IsBasis name command Nothing world = Unit {0}
IsBasis name command (Refused reading refusal) world = HasInputs name command reading (Err refusal) world
IsBasis name command (Given reading inputs ready) world = HasInputs name command reading (Ok inputs) world × ReadsOnly name (needs_records command) world ready

abbrev pub IsOrderBasis : List ℕ → Order → Basis → WorldView → Type 0
IsOrderBasis name (ByTable command) basis world = IsBasis name command basis world
IsOrderBasis name (Alone job) basis world = Unit {0}

abbrev pub IsLineBasis : Option LineView → Basis → WorldView → Type 0
IsLineBasis None basis world = Unit {0}
IsLineBasis (Some line) basis world = IsOrderBasis line.table line.order basis world

-- There are one reading and one session of which all of the headline holds.
pub record Headline (post : Post) (line : Option LineView) (status : ℕ) (old new : WorldView) : Type 0 where
  pub basis : Basis
  pub is_basis : IsLineBasis line basis old
  pub course : Course
  pub so : Headlines post line basis course status old new
