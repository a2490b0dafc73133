-- The work of `plug-gw`: a client is served over the devices of the run, and nobody is asked.
use Rattle.std.specs.Prelude.{◌≡◌, false}
use Rattle.client_service.specs.Conn.{Conn}
use Rattle.fw_types.specs.declared.ending.Ending.{Ending}
use Rattle.gate_rules.specs.declared.service.Service.TheVariants.{PlugGw}
use Rattle.plug_gate.specs.Dummies.{lent, no_port}
use Rattle.session_acts.specs.World.{Devices, devices_with}
use Rattle.bastion.specs.Inputs.{Inputs}
use Rattle.bastion.specs.WorldView.{WorldView}
use Rattle.bastion.specs.declared.outcome.Outcome as outcomes
use Rattle.bastion.specs.declared.outcome.Outcome.TheVariants as outcome
use Rattle.bastion.specs.declared.words.Caller.{Caller}

-- the devices that a client of the plug meets: those of the world, and a port at which nobody is asked
abbrev pub devices_for : WorldView → Devices (Unit {0})
devices_for world = devices_with no_port world.inputs.input world.output world.logs world.inputs.dialer world.inputs.clock world.inputs.dice

-- those of them that have a part in its session
abbrev pub linked_devices : WorldView → Devices (Unit {0})
linked_devices world = lent world.inputs.input world.output world.logs world.inputs.dialer

-- the client was served by the rules, and nothing else was touched
pub record Linked (caller : Caller) (inputs : Inputs) (out : outcomes.Outcome) (old new : WorldView) : Type 0 where
  pub ending : Ending
  pub serves : Conn (PlugGw caller.port) inputs.rules caller.peer (devices_for old) (devices_for new) ending
  pub comes : out ≡ outcome.Ended ending false
  pub keeper : new.inputs.keeper ≡ old.inputs.keeper
  pub remote : new.inputs.remote ≡ old.inputs.remote
  pub launcher : new.inputs.launcher ≡ old.inputs.launcher
  pub disks : new.inputs.disks ≡ old.inputs.disks
  pub files : new.files ≡ old.files
