-- A client of a gateway, of `tn-gw` or of `ftp-gw`: what is the same of both, whoever knows the users.
use Rattle.std.specs.Prelude.{◌≡◌, ℕ, ◌⊎◌, Bool, List, [], ◌++◌, Some}
use Rattle.auth_events.specs.Port.{Port}
use Rattle.client_service.specs.Decision.{decision_text}
use Rattle.client_service.specs.Meeting.{patient, timeout_of}
use Rattle.fw_acts.specs.Acts.{Row, PlaceTable}
use Rattle.fw_outside.specs.SinkView.{SinkView}
use Rattle.fw_outside.specs.ToldList.{grown}
use Rattle.fw_types.specs.declared.peer.Peer.{Peer}
use Rattle.gate_rules.specs.declared.service.Service.{Service}
use Rattle.gate_rules.specs.declared.verdict.Verdict.TheVariants.{Permit}
use Rattle.session_acts.specs.Client.{with_line}
use Rattle.session_acts.specs.Deeds.{gives}
use Rattle.session_acts.specs.Laws.{Adds, called, logged, told}
use Rattle.session_acts.specs.Met.{acts}
use Rattle.session_acts.specs.Session.{SessionAs, deeds_of}
use Rattle.session_acts.specs.World.{Devices}
use Rattle.tn_gate.specs.Dummies.{lent}
use Rattle.bastion.specs.Answering.{Answerer, GivenBack, OriginOf, PortView, answerer_in, answerer_of, port_at_first, port_of}
use Rattle.bastion.specs.Asking.{FailsWithin}
use Rattle.bastion.specs.Basis.{Course}
use Rattle.bastion.specs.Inputs.{Inputs}
use Rattle.bastion.specs.Run.{verdict_for}
use Rattle.bastion.specs.Talk.{IsConcluded, IsTalk, IsToldOff, was_refused}
use Rattle.bastion.specs.WorldView.{WorldView}
use Rattle.bastion.specs.declared.words.Authorities.{Authorities}
use Rattle.bastion.specs.declared.words.Command.{Command}

-- the devices that have a part in a session: those of the run, and the port
abbrev pub gated_devices : {Origin : Type 0} → WorldView → Port Origin → Devices Origin
gated_devices world port = lent port world.inputs.input world.output world.logs world.inputs.dialer world.inputs.clock

-- those with which a session begins: they wait as the rules have it, and the log was given the line of the permission
abbrev pub let_in : {Origin : Type 0} → Service → Inputs → Peer → ℕ → Devices Origin → Devices Origin
let_in service inputs peer line devices = with_line (decision_text (Permit line) service peer) (patient (timeout_of inputs.rules) devices)

abbrev pub begins_at : {Origin : Type 0} → Service → Inputs → Peer → ℕ → Port Origin → WorldView → Devices Origin
begins_at service inputs peer line port world = let_in service inputs peer line (gated_devices world port)

-- those with which it ended, before the line of the ending
abbrev pub ends_at : {Origin : Type 0} → Port Origin → SinkView → WorldView → Devices Origin
ends_at port logs world = record (gated_devices world port) { logs = logs }

-- The rules permit the client, and the log has the line of that whole. Then a session of these rows was held, by the number of
-- the line that permits, over the run's devices and a book of the records that the keeper had. What it asked and was answered
-- is one legal history, and the keeper has the records after it. Or it was held over a port to a server elsewhere: what it asked and was
-- answered, but for what was refused since the server's history was full, are the lines that went over the link, where its ends tell;
-- both ends are there again. The log was given what the session's deeds log, and the client what they tell; the dialer was asked for
-- what they ask for, in order, and for nothing else.
pub record OfGateway {P : Type 0} (authorities : Authorities) (relays : Bool) (command : Command) (service : Service) (peer : Peer) (rows : ℕ → PlaceTable (acts (OriginOf authorities)) P) (first : ℕ → Row (acts (OriginOf authorities)) P) (inputs : Inputs) (course : Course) (status : ℕ) (old new : WorldView) : Type 0 where
  pub before : Answerer authorities
  pub there : answerer_in authorities old.inputs ≡ Some before
  pub line : ℕ
  pub permitted : verdict_for command inputs ≡ Permit line
  pub view : PortView authorities
  pub logs : SinkView
  pub session : SessionAs relays (rows line) (first line) (begins_at service inputs peer line (port_at_first authorities inputs before) old) (ends_at (port_of authorities view) logs new) course.ending
  pub deeds : deeds_of session.held ≡ course.deeds
  pub talk : IsTalk authorities inputs before (deeds_of session.held) view
  pub kept : GivenBack authorities (answerer_of authorities view) old.inputs new.inputs
  pub asked : Adds (gives called (deeds_of session.held)) old.inputs.dialer.asked new.inputs.dialer.asked
  pub logged : logs.given ≡ grown old.logs.given (decision_text (Permit line) service peer ++ gives logged (deeds_of session.held))
  pub told : new.output.given ≡ grown old.output.given (gives told (deeds_of session.held))
  pub concluded : IsConcluded service peer course.ending (was_refused (deeds_of session.held)) status logs new.logs

-- the rules deny the client, who is told so by these words; no destination was asked for, and no session held
pub record IsBarred (authorities : Authorities) (command : Command) (service : Service) (peer : Peer) (words : ℕ → List ℕ) (inputs : Inputs) (course : Course) (old new : WorldView) : Type 0 where
  pub off : IsToldOff authorities command service peer words old.inputs.dialer inputs old new
  pub unheld : course.deeds ≡ []
  pub dialer : new.inputs.dialer ≡ old.inputs.dialer

-- The log failed within the verdict's line. No destination was asked for, the client was told nothing, no session was held, and nothing
-- was asked of the port.
pub record IsCutOff (authorities : Authorities) (command : Command) (service : Service) (peer : Peer) (inputs : Inputs) (course : Course) (status : ℕ) (old new : WorldView) : Type 0 where
  pub unheld : course.deeds ≡ []
  pub within : FailsWithin (decision_text (verdict_for command inputs) service peer) old new
  pub dialer : new.inputs.dialer ≡ record (old.inputs.dialer) { waits = new.inputs.dialer.waits }
  pub output : new.output ≡ old.output
  pub before : Answerer authorities
  pub there : answerer_in authorities old.inputs ≡ Some before
  pub view : PortView authorities
  pub unasked : port_of authorities view ≡ port_at_first authorities inputs before
  pub talk : IsTalk authorities inputs before [] view
  pub kept : GivenBack authorities (answerer_of authorities view) old.inputs new.inputs
  pub status_is : status ≡ 4

-- the log failed, the client is denied, or this is said of its session
abbrev pub Comes : Authorities → Command → Service → Peer → (ℕ → List ℕ) → (Inputs → Course → ℕ → WorldView → WorldView → Type 0) → Inputs → Course → ℕ → WorldView → WorldView → Type 0
Comes authorities command service peer words Of inputs course status old new =
    IsCutOff authorities command service peer inputs course status old new ⊎ (IsBarred authorities command service peer words inputs course old new ⊎ Of inputs course status old new)
