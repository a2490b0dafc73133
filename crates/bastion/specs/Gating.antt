-- The work of `tn-gw`, and of `ftp-gw`: a client is served over the devices of the run and a port, which is a book of the records or a
-- server elsewhere, and what answered there is given back.
use Rattle.std.specs.Prelude.{◌≡◌, Some}
use Rattle.auth_events.specs.Port.{Port}
use Rattle.client_service.specs.Conn.{Conn, Untouched}
use Rattle.fw_types.specs.declared.ending.Ending.{Ending}
use Rattle.fw_types.specs.declared.peer.Peer.{Peer}
use Rattle.gate_rules.specs.Verdict.{verdict_of}
use Rattle.gate_rules.specs.declared.service.Service.{Service}
use Rattle.remote_port.specs.Remote.{RemoteOrigin, RemoteView}
use Rattle.remote_port.specs.Texts.{RemoteTexts}
use Rattle.session_acts.specs.World.{Devices}
use Rattle.bastion.specs.Answering.{Answerer, GivenBack, PortView, answerer_of, port_at_first, port_of}
use Rattle.bastion.specs.Inputs.{Inputs}
use Rattle.bastion.specs.Serving.{OverBook, met_at}
use Rattle.bastion.specs.WorldView.{WorldView}
use Rattle.bastion.specs.declared.outcome.Outcome as outcomes
use Rattle.bastion.specs.declared.outcome.Outcome.TheVariants as outcome
use Rattle.bastion.specs.declared.words.Authorities.{Authorities}
use Rattle.bastion.specs.declared.words.Authorities.TheVariants.{Records, Remote}

-- the devices that a client of a gateway meets: those of the world, and a port
abbrev pub devices_over : {Origin : Type 0} → WorldView → Port Origin → Devices Origin
devices_over world port = met_at world port world.inputs.dialer

-- The port was over both ends of the link, and these are there again. What was given to the one and taken from the other are the lines
-- of its entries. Of the files, the launcher, the disks and the keeper nothing was asked.
pub record OverLink (ends : RemoteOrigin) (remote : RemoteView) (ending : Ending) (out : outcomes.Outcome) (old new : WorldView) : Type 0 where
  pub there : old.inputs.remote ≡ Some ends
  pub origin : remote.origin ≡ ends
  pub texts : RemoteTexts remote
  pub comes : out ≡ outcome.Ended ending remote.talk.refused
  pub back : GivenBack Remote (answerer_of Remote remote) old.inputs new.inputs
  pub files : new.files ≡ old.files
  pub launcher : new.inputs.launcher ≡ old.inputs.launcher
  pub disks : new.inputs.disks ≡ old.inputs.disks

-- by who knows the users
abbrev pub Over : (authorities : Authorities) → Inputs → Answerer authorities → PortView authorities → Ending → outcomes.Outcome → WorldView → WorldView → Type 0
Over Records inputs before book ending out old new = OverBook inputs before book ending out old new
Over Remote inputs ends remote ending out old new = OverLink ends remote ending out old new

-- A client of this service was served so. After one whom the rules deny, what answers is as it was; a keeper is as the load left it, its
-- count of calls too.
pub record Gated (authorities : Authorities) (service : Service) (peer : Peer) (inputs : Inputs) (out : outcomes.Outcome) (old new : WorldView) : Type 0 where
  pub before : Answerer authorities
  pub view : PortView authorities
  pub ending : Ending
  pub over : Over authorities inputs before view ending out old new
  pub serves : Conn service inputs.rules peer (devices_over old (port_at_first authorities inputs before)) (devices_over new (port_of authorities view)) ending
  pub untouched : Untouched service (verdict_of inputs.rules peer) before (answerer_of authorities view)
