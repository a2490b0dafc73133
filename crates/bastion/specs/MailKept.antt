-- A client of `smap`: what it is told, and what stands in the slots behind that.
use Rattle.std.specs.Prelude.{◌≡◌, ◌≢◌, ℕ, ◌⊎◌, false, [], ◌++◌, map, None, Result}
use Rattle.client_service.specs.Decision.{decision_text}
use Rattle.client_service.specs.Endings.{refusal_reply}
use Rattle.client_service.specs.MailService.{mail_devices, mail_gate_of}
use Rattle.client_service.specs.Meeting.{patient, timeout_of}
use Rattle.fw_outside.specs.SinkView.{SinkView}
use Rattle.fw_outside.specs.ToldList.{grown}
use Rattle.fw_types.specs.declared.peer.Peer.{Peer}
use Rattle.gate_rules.specs.declared.service.Service.TheVariants as services
use Rattle.gate_rules.specs.declared.verdict.Verdict.TheVariants.{Permit, Deny}
use Rattle.session_acts.specs.Acts.{Front}
use Rattle.session_acts.specs.Client.{with_line}
use Rattle.session_acts.specs.Deeds.{deeds_ran, gives}
use Rattle.session_acts.specs.Dummies.{nowhere}
use Rattle.session_acts.specs.Laws.{logged, told}
use Rattle.session_acts.specs.Met.{Gets}
use Rattle.session_acts.specs.Session.{Session, deeds_of}
use Rattle.session_acts.specs.Stored.{kept}
use Rattle.session_acts.specs.World.{Devices}
use Rattle.smap_gate.specs.Dialogue.{smap_row, smap_rows}
use Rattle.smap_gate.specs.Logging.{LogsDue}
use Rattle.smap_gate.specs.Messages.{KeepsMessages}
use Rattle.smap_gate.specs.Replies.{ToldInOrder}
use Rattle.spool_rack.specs.Opening.{IsRackOf}
use Rattle.spool_rack.specs.Store.{StoreView}
use Rattle.spool_runs.specs.OnDisks.{RunsSpool}
use Rattle.bastion.specs.Basis.{Course}
use Rattle.bastion.specs.Inputs.{Inputs}
use Rattle.bastion.specs.Mailing.{mailed_devices}
use Rattle.bastion.specs.Run.{verdict_for}
use Rattle.bastion.specs.Spool.{StandAtPlaces}
use Rattle.bastion.specs.Talk.{IsConcluded, IsSilent}
use Rattle.bastion.specs.WorldView.{WorldView}
use Rattle.bastion.specs.declared.words.Command.TheVariants.{Smap}

-- the devices that have a part in a session: the run's input, output and log, and the slots
abbrev pub mail_part : WorldView → StoreView → Devices (Unit {0})
mail_part world store = mail_devices (mailed_devices world nowhere store)

-- the input waits as the rules have it, and the log was given the line of the permission
abbrev pub admitted : Inputs → Peer → ℕ → WorldView → StoreView → Devices (Unit {0})
admitted inputs peer line world store =
    with_line (decision_text (Permit line) services.Smap peer) (mail_devices (patient (timeout_of inputs.rules) (mailed_devices world nowhere store)))

-- The rules permit the client, and the log has the line of that whole. Then a session of the mail gateway was held, over the
-- run's devices and the slots of its disks. What the client was told is a function of its lines and of what became of its
-- messages: for each of them in order its reply, which is 250 with a slot's number exactly for a message that was kept in that
-- slot. Each message that was kept stands whole on the disk at the place of its slot's number.
pub record OfMail (peer : Peer) (inputs : Inputs) (course : Course) (status : ℕ) (old new : WorldView) : Type 0 where
  pub line : ℕ
  pub permitted : verdict_for (Smap peer) inputs ≡ Permit line
  pub first : StoreView
  pub opened : IsRackOf (Unit {0}) old.inputs.disks first
  pub store : StoreView
  pub logs : SinkView
  pub session : Session (smap_rows (mail_gate_of inputs.rules peer)) smap_row (admitted inputs peer line old first) (record (mail_part new store) { logs = logs }) course.ending
  pub deeds : deeds_of session.held ≡ course.deeds
  pub replies : ToldInOrder (mail_gate_of inputs.rules peer) session.held
  -- each message is of the sender and to the recipients that stood at the line that asked for its data, and behind each its line
  -- is logged
  pub asked : KeepsMessages (mail_gate_of inputs.rules peer) session.held
  pub due : LogsDue peer None (deeds_ran session.held.ran)
  pub told : new.output.given ≡ grown old.output.given (gives told (deeds_of session.held))
  pub logged_so : logs.given ≡ grown old.logs.given (decision_text (Permit line) services.Smap peer ++ gives logged (deeds_of session.held))
  pub stand : StandAtPlaces (gives kept (deeds_of session.held)) new.inputs.disks
  -- in the spool on the disks just the messages that were kept were answered for, in order, and none was accepted
  pub spool : RunsSpool (map (λ one. one.mail) (gives kept (deeds_of session.held))) [] old.inputs.disks new.inputs.disks
  pub concluded : IsConcluded services.Smap peer course.ending false status logs new.logs

-- The rules deny the client. It was given the words of that, or a front of them, and by what was done to the spool no message was
-- answered for, and none accepted. That the log has the line of the denial, and that the status is 1, is said of every denial.
pub record IsShutOut (peer : Peer) (inputs : Inputs) (old new : WorldView) : Type 0 where
  pub line : ℕ
  pub denied : verdict_for (Smap peer) inputs ≡ Deny line
  pub tried : Result (Unit {0}) (Front (refusal_reply line))
  pub gets : Gets (refusal_reply line) tried old.output new.output
  pub spool : RunsSpool [] [] old.inputs.disks new.inputs.disks

-- the client was told nothing, and by what was done to the spool no message was answered for, and none accepted
pub record IsUnheard (status : ℕ) (old new : WorldView) : Type 0 where
  pub silent : IsSilent status old new
  pub unheld : (status ≢ 0) × (status ≢ 6)
  pub spool : RunsSpool [] [] old.inputs.disks new.inputs.disks

-- what came of a client of the mail gateway
abbrev pub IsTakenIn : Peer → Inputs → Course → ℕ → WorldView → WorldView → Type 0
IsTakenIn peer inputs course status old new = IsUnheard status old new ⊎ (IsShutOut peer inputs old new ⊎ OfMail peer inputs course status old new)
